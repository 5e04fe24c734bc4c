use Rattle.std.proofs.Common.{take}
use Rattle.std.specs.List.{filter_map}
use Rattle.pm_explore.specs.schedule.Snapshots.{due_moment}
use Rattle.pm_explore.specs.successors.Moments.{AreWith}
use Rattle.pm_explore.specs.successors.Standing.{snapshot_at}
use Rattle.pm_explore.proofs.successors.moments.push_due.Given as goal

-- the moments of the actors so far are noted
abbrev pub invariant-loop-actor : goal.invariant-loop-actor
invariant-loop-actor l = AreWith l.last.time l.initial.out.items (filter_map (due_moment l.plan (snapshot_at l.state.world l.last)) (take l.actor-index l.actors)) l.out.items
