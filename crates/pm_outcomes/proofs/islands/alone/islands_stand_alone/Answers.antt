use Rattle.pm_outcomes.proofs.islands.OwnLines.{alone}
use Rattle.pm_outcomes.proofs.islands.alone.islands_stand_alone.Goals as goal

pub returns : goal.returns
returns c = λ plan island n part h shared is lawful. alone plan (c.islands_run_apart.ensures plan) island n part h shared is lawful
