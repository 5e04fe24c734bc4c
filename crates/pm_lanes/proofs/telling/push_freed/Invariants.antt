use Rattle.std.proofs.Common.{◌≡◌, ◌++◌, take}
use Rattle.std.specs.List.{flat_map}
use Rattle.pm_lanes.specs.Pieces.{at_line, freed_link}
use Rattle.pm_lanes.proofs.telling.push_freed.Given as goal

-- the links so far
abbrev pub invariant-loop-row : goal.invariant-loop-row
invariant-loop-row l = l.pieces.items ≡ l.fn.pieces.items ++ at_line l.number (flat_map (freed_link l.parts.views l.dev) (take l.row-index l.plan.links))
