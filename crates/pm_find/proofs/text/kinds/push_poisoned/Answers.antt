use Rattle.pm_find.proofs.text.TextLemmas.{more}
use Rattle.pm_find.proofs.text.kinds.push_poisoned.Goals as goal

pub returns : goal.returns
returns c = more _ _ _ _ _ (more _ _ _ _ _ (more _ _ _ _ _ c.in_ok-push_error.ensures c.in_ok-push.ensures) c.in_ok-push_number.ensures) c.in_ok-push-2.ensures
