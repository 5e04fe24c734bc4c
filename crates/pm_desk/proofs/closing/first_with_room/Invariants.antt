use Rattle.pm_desk.specs.Closing.{NoneHasRoom}
use Rattle.pm_desk.proofs.closing.first_with_room.Given as goal

abbrev pub invariant-loop-caller : goal.invariant-loop-caller
invariant-loop-caller l = NoneHasRoom l.passes l.book l.caller
