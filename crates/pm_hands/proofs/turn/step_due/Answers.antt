use Rattle.pm_hands.proofs.StepLemmas.{over_then}
use Rattle.pm_hands.proofs.turn.step_due.Goals as goal

pub returns-in-None-clause-ok : goal.returns-in-None-clause-ok
returns-in-None-clause-ok c =
    over_then c.args.book.now c.try_step.new.book c.args.actor c.args.moment c.in_ok-wrote.field-0 c.requires.turn c.requires.full c.requires.rests c.in-None.is c.in_ok-wrote.ensures.ok
