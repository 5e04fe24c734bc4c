use Rattle.std.proofs.Common.{◌≡◌, not, take}
use Rattle.std.specs.List.{filter}
use Rattle.pm_find.specs.findings.StandsOut.{is_note, weight_of}
use Rattle.pm_find.proofs.findings.choosing.faults.Given as goal

-- those so far
abbrev pub invariant-loop-found : goal.invariant-loop-found
invariant-loop-found l = l.faults.items ≡ filter (λ found. not (is_note (weight_of found.kind))) (take l.found-index l.all)
