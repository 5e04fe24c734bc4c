use Rattle.std.proofs.Common.{[], subst}
use Rattle.std.specs.List.{cons_option}
use Rattle.pm_explore.specs.schedule.Snapshots.{due_moment}
use Rattle.pm_explore.specs.successors.Moments.{AreWith}
use Rattle.pm_explore.specs.successors.Standing.{snapshot_at}
use Rattle.pm_explore.proofs.successors.LoopLemmas.{with_more}
use Rattle.pm_explore.proofs.successors.moments.push_due.Goals as goal

pub loop-actor-preserved : goal.loop-actor-preserved
loop-actor-preserved c =
    with_more (due_moment c.args.plan.now (snapshot_at c.args.state.now.world c.args.last)) c.args.actors.now c.loop-actor.actor-index _ c.args.last.time c.args.out.now.items c.loop-actor.out.items c.push_moment.new.out.items c.loop-actor-test.true
    c.loop-actor.invariant (subst (λ o. AreWith c.args.last.time c.loop-actor.out.items (cons_option o []) c.push_moment.new.out.items) c.awaits.ensures c.in_ok-push_moment.ensures)
