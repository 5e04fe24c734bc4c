use Rattle.std.proofs.Common.{arith}
use Rattle.pm_model.specs.Lawful.{last_time}
use Rattle.pm_model.specs.World.{world}
use Rattle.pm_laws.proofs.stacks.Fitting as proof
use Rattle.pm_laws.proofs.bounds.stages_can_be_told.Goals as goal

pub returns : goal.returns
returns c = λ plan h a s lawful early at. proof.fit_well_formed plan (world plan h).views (last_time h) s (omega (arith, early)) (proof.stands_fit plan h a s lawful at)
