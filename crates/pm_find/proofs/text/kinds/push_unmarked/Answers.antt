use Rattle.pm_find.proofs.text.TextLemmas.{more}
use Rattle.pm_find.proofs.text.kinds.push_unmarked.Goals as goal

pub returns : goal.returns
returns c =
    let said = more _ _ _ _ _ (more _ _ _ _ _ (more _ _ _ _ _ c.in_ok-push_actor.ensures c.in_ok-push.ensures) c.in_ok-push_call.ensures) c.in_ok-push-2.ensures in
    more _ _ _ _ _ (more _ _ _ _ _ (more _ _ _ _ _ (more _ _ _ _ _ said c.in_ok-push_long.ensures) c.in_ok-push-3.ensures) c.in_ok-push_long-2.ensures) c.in_ok-push-4.ensures
