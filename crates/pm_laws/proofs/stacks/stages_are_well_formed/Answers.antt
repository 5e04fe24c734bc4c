use Rattle.pm_model.specs.Lawful.{last_time}
use Rattle.pm_model.specs.World.{world}
use Rattle.pm_laws.proofs.stacks.stages_are_well_formed.Goals as goal
use Rattle.pm_laws.proofs.stacks.Fitting as proof

pub returns : goal.returns
returns c = λ plan h a s lawful room at. proof.fit_well_formed plan (world plan h).views (last_time h) s room (proof.stands_fit plan h a s lawful at)
