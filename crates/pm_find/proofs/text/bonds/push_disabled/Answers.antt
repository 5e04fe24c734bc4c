use Rattle.pm_find.proofs.text.TextLemmas.{more}
use Rattle.pm_find.proofs.text.bonds.push_disabled.Goals as goal

pub returns : goal.returns
returns c = more _ _ _ _ _ (more _ _ _ _ _ (more _ _ _ _ _ c.in_ok-push_device.ensures c.in_ok-push.ensures) c.in_ok-push_device-2.ensures) c.in_ok-push-2.ensures
