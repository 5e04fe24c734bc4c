use Rattle.pm_desk.specs.Agreeing.{AreSameBelow}
use Rattle.pm_desk.proofs.agreeing.differs_below.Given as goal

abbrev pub invariant-loop-place : goal.invariant-loop-place
invariant-loop-place l = AreSameBelow l.kept l.found l.place
