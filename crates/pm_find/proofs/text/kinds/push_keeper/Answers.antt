use Rattle.std.proofs.Common.{◌∙◌, ◌++◌, Option, ap, codes, sym}
use Rattle.pm_base.specs.declared.DevId.{DevId}
use Rattle.pm_find.proofs.text.TextLemmas.{more}
use Rattle.pm_find.specs.text.Texts.{keeper_text}
use Rattle.pm_model.specs.Spelling.{device_name}
use Rattle.pm_model.specs.Text.{names_of}
use Rattle.pm_find.proofs.text.kinds.push_keeper.Goals as goal

pub returns-in_ok-push-2 : goal.returns-in_ok-push-2
returns-in_ok-push-2 c =
    let old = c.args.text.now.items in
    let name = device_name (names_of c.args.plan.now) c.in-Some.dev.0 in
    let first = more old c.push.new.text.items c.push_device.new.text.items (codes "; ") name c.in_ok-push.ensures c.in_ok-push_device.ensures in
    more old c.push_device.new.text.items c.push-in-Some.new.text.items (codes "; " ++ name) (codes " is disabled") first c.in_ok-push-2.ensures
    ∙ ap (λ (k : Option DevId). old ++ keeper_text (names_of c.args.plan.now) k) (sym c.in-Some.is)
