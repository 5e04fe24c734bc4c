use Rattle.std.proofs.Common.{◌≡◌, ◌∙◌, List, ap, arith, refl, reverse, slice_get, subst}
use Rattle.pm_desk.specs.Agreeing.{Agrees, DiffersAt}
use Rattle.pm_desk.specs.Returns.{calls}
use Rattle.pm_desk.specs.Slips.{kept_by, pass_of}
use Rattle.pm_desk.specs.declared.pass.Receipt.{Receipt}
use Rattle.pm_desk.proofs.closing.difference_of.Goals as goal

pub overflow_add-result : goal.overflow_add-result
overflow_add-result c = omega (arith, c.in-Some.ensures.in_range, c.deref.ensures.len, c.in_ok-found.ensures.few, c.requires)

pub returns-clause-differs : goal.returns-clause-differs
returns-clause-differs c =
    let o = pass_of c.args.passes.now c.args.caller in
    let h = reverse c.args.lines.now in
    let place = c.in-Some.place in
    let found : c.deref.result.now ≡ calls h c.args.caller = c.deref.ensures.value ∙ c.in_ok-found.ensures.calls in
    record {
      caller = refl;
      differs = subst (λ (l : List Receipt). ¬ Agrees o l) found c.in-Some.ensures.differs;
      place = place;
      nth = refl;
      at = subst (λ (l : List Receipt). DiffersAt (kept_by o) l place) found c.in-Some.ensures.place;
      kept = c.receipt_at.ensures ∙ ap (λ (l : List Receipt). slice_get l place) c.kept_by.ensures;
      found = c.receipt_at-2.ensures ∙ ap (λ (l : List Receipt). slice_get l place) (c.deref-2.ensures.value ∙ c.in_ok-found.ensures.calls);
    }
