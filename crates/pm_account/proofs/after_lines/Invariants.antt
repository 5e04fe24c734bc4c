use Rattle.std.proofs.Common.{length, reverse, take}
use Rattle.pm_account.specs.Kept.{AreKept}
use Rattle.pm_account.proofs.after_lines.Given as goal

-- what is kept is that of the lines so far
abbrev pub invariant-loop-line : goal.invariant-loop-line
invariant-loop-line l = AreKept (length l.plan.devices) (reverse (take l.line-index l.lines)) l.stays.items
