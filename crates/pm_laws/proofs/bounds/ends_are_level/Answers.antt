use Rattle.pm_model.specs.World.{world}
use Rattle.pm_laws.proofs.bounds.ends_are_level.Goals as goal
use Rattle.pm_laws.proofs.bounds.Moving as proof

pub returns-clause-open_place : goal.returns-clause-open_place
returns-clause-open_place c = λ plan h a s at runs. proof.runs_open plan (world plan h) a s at runs

pub returns-clause-level : goal.returns-clause-level
returns-clause-level c = proof.ends_level
