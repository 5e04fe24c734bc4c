use Rattle.std.proofs.Common.{◌≤◌, All, length}
use Rattle.pm_say_driver.proofs.told.located_in.Given as goal

abbrev pub invariant-loop-note : goal.invariant-loop-note
invariant-loop-note l = All (λ located. located.span.end ≤ length l.bytes) l.all.items
