use Rattle.std.proofs.Common.{◌≡◌, ◌++◌, map, take}
use Rattle.pm_lanes.specs.Pieces.{at_line, going_off_now}
use Rattle.pm_lanes.proofs.telling.push_down.Given as goal

-- the domains so far
abbrev pub invariant-loop-place : goal.invariant-loop-place
invariant-loop-place l = l.pieces.items ≡ l.fn.pieces.items ++ at_line l.number (map going_off_now (take l.place-index l.domains))
