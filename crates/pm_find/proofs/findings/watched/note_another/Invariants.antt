use Rattle.std.proofs.Common.{◌≡◌, ◌++◌, drop, map, take}
use Rattle.pm_find.specs.findings.OpenCounts.{with_another}
use Rattle.pm_find.proofs.findings.watched.note_another.Given as goal

-- the counts so far have been gone over
abbrev pub invariant-loop-count : goal.invariant-loop-count
invariant-loop-count l = l.count-items ≡ map (with_another l.actor) (take l.count-index l.fn.counts.items) ++ drop l.count-index l.fn.counts.items
