use Rattle.std.proofs.Common.{reverse}
use Rattle.pm_desk.specs.Agreeing.{AllAgree}
use Rattle.pm_desk.proofs.closing.first_difference.Given as goal

abbrev pub invariant-loop-caller : goal.invariant-loop-caller
invariant-loop-caller l = AllAgree l.passes (reverse l.lines) l.caller
