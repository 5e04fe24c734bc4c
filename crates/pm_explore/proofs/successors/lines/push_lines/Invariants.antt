use Rattle.std.proofs.Common.{◌≡◌, ◌++◌, take}
use Rattle.std.specs.List.{filter_map, flat_map}
use Rattle.pm_explore.specs.successors.Lines.{line_for}
use Rattle.pm_explore.specs.successors.Standing.{snapshot_at}
use Rattle.pm_explore.proofs.successors.lines.push_lines.Given as goal

-- the lines of the actors so far are put at the end
abbrev pub invariant-loop-actor : goal.invariant-loop-actor
invariant-loop-actor l =
    l.out.items ≡ l.initial.out.items ++ flat_map (λ actor. filter_map (λ t. line_for l.pace l.plan (snapshot_at l.state.world l.last) l.spends t actor) l.times) (take l.actor-index l.actors)
