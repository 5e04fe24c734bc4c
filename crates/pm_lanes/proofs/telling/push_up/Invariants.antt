use Rattle.std.proofs.Common.{◌≡◌, ◌++◌, map, not, take}
use Rattle.std.specs.List.{filter}
use Rattle.pm_lanes.specs.Pieces.{at_line, going_on}
use Rattle.pm_model.specs.Views.{is_on}
use Rattle.pm_lanes.proofs.telling.push_up.Given as goal

-- the domains so far
abbrev pub invariant-loop-place : goal.invariant-loop-place
invariant-loop-place l = l.pieces.items ≡ l.fn.pieces.items ++ at_line l.number (map going_on (filter (λ o. not (is_on l.parts.views o)) (take l.place-index l.domains)))
