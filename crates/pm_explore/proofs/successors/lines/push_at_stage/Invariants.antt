use Rattle.std.proofs.Common.{◌≡◌, ◌++◌, take}
use Rattle.std.specs.List.{filter_map}
use Rattle.pm_explore.specs.successors.Lines.{line_for}
use Rattle.pm_explore.specs.successors.Standing.{snapshot_at}
use Rattle.pm_explore.proofs.successors.lines.push_at_stage.Given as goal

-- the lines at the times so far are put at the end
abbrev pub invariant-loop-time : goal.invariant-loop-time
invariant-loop-time l = l.out.items ≡ l.initial.out.items ++ filter_map (λ t. line_for l.pace l.plan (snapshot_at l.state.world l.last) l.spends t l.actor) (take l.time-index l.times)
