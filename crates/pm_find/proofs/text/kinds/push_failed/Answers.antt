use Rattle.std.proofs.Common.{◌∙◌, ◌++◌, ap, w32}
use Rattle.std.proofs.lemmas.Int.{to_z-of_z}
use Rattle.pm_find.specs.text.Texts.{code_text}
use Rattle.pm_find.proofs.text.TextLemmas.{more}
use Rattle.pm_find.proofs.text.kinds.push_failed.Goals as goal

pub returns : goal.returns
returns c =
    more _ _ _ _ _ (more _ _ _ _ _ (more _ _ _ _ _ (more _ _ _ _ _ c.in_ok-push_device.ensures c.in_ok-push.ensures) c.in_ok-push_cb.ensures) c.in_ok-push-2.ensures) (c.in_ok-push_code.ensures ∙ ap (λ z. c.push-2.new.text.items ++ code_text z) (to_z-of_z w32 c.args.code c.ranges.code))
