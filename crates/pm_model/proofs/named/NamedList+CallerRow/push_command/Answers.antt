use Rattle.std.proofs.Common.{◌≡◌, ◌<◌, ◌∙◌, ◌++◌, ◌∷◌, [], Some, List, length, slice_get, slice_set, ap, refl, subst, sym}
use Rattle.std.proofs.lemmas.Option.{slice_get_read}
use Rattle.std.proofs.lemmas.Result.{IfOk-weaker}
use Rattle.pm_model.specs.declared.rows.CallerRow.{CallerRow}
use Rattle.pm_model.specs.NameOrder.{IsNameOrder}
use Rattle.pm_model.specs.Scripts.{longer, with_command}
use Rattle.pm_model.proofs.ScriptRows.{names_stay, set_longer}
use Rattle.pm_model.proofs.named.NamedList+CallerRow.push_command.Goals as goal

pub invariant_of-self : goal.invariant_of-self
invariant_of-self c =
    let rows = c.self.inside.rows.items in
    let row = c.index_mut.result.now in
    let within = subst (λ (l : List CallerRow). c.args.caller < length l) (sym c.self.view_is) c.requires in
    let found : slice_get rows c.args.caller ≡ Some row = slice_get_read rows (length rows) c.args.caller row refl within c.index_mut.ensures.value in
    subst (λ names. IsNameOrder names c.self.inside.order.items) (names_stay rows c.args.caller row (record { name = row.name; script = c.push.new.self }) found refl) c.self.invariant

pub returns-clause-ok : goal.returns-clause-ok
returns-clause-ok c =
    let rows = c.self.inside.rows.items in
    let row = c.index_mut.result.now in
    let within = subst (λ (l : List CallerRow). c.args.caller < length l) (sym c.self.view_is) c.requires in
    let found : slice_get rows c.args.caller ≡ Some row = slice_get_read rows (length rows) c.args.caller row refl within c.index_mut.ensures.value in
    let put : slice_set rows c.args.caller (longer c.args.command row) ≡ with_command c.args.command c.args.caller c.args.self.now =
    subst (λ (l : List CallerRow). slice_set rows c.args.caller (longer c.args.command row) ≡ with_command c.args.command c.args.caller l) c.self.view_is (set_longer c.args.command c.args.caller rows row found) in
    IfOk-weaker c.push.result (λ _. c.push.new.self ≡ row.script ++ c.args.command ∷ []) (λ _. slice_set rows c.args.caller (record { name = row.name; script = c.push.new.self }) ≡ with_command c.args.command c.args.caller c.args.self.now)
    (λ _ more. ap (λ script. slice_set rows c.args.caller (record { name = row.name; script = script })) more ∙ put) c.push.ensures.ok
