use Rattle.std.proofs.Common.{◌≤◌, All, length}
use Rattle.pm_say_driver.proofs.refused.located_in.Given as goal

abbrev pub invariant-loop-refusal : goal.invariant-loop-refusal
invariant-loop-refusal l = All (λ located. located.span.end ≤ length l.bytes) l.all.items
