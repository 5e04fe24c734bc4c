use Rattle.std.proofs.Common.{◌≡◌, ◌++◌}
use Rattle.std.specs.List.{flat_map, range_with_len}
use Rattle.pm_find.specs.findings.AllFound.{at_line}
use Rattle.pm_find.specs.findings.WatchTable.{on_in}
use Rattle.pm_find.proofs.findings.telling.at_end.Given as goal

-- the devices so far
abbrev pub invariant-loop-place : goal.invariant-loop-place
invariant-loop-place l = l.all.items ≡ l.fn.all.items ++ flat_map (λ d. at_line l.number (on_in l.plan l.parts.views l.ends l.drops (record { 0 = d }))) (range_with_len 0 l.place)
