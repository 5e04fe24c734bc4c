use Rattle.std.proofs.Common.{◌≡◌, length, reverse, take}
use Rattle.pm_expect.specs.verdicts.Calls.{AreCalls, returns}
use Rattle.pm_expect.proofs.verdicts.calls.returns.Given as goal

-- the calls and the returns are those of the lines so far
abbrev pub invariant-loop-line : goal.invariant-loop-line
invariant-loop-line l = record {
  calls : AreCalls (length l.plan.callers) (reverse (take l.line-index l.lines)) l.calls;
  number : l.number ≡ l.line-index;
  found : l.all.items ≡ returns (reverse (take l.line-index l.lines));
}
