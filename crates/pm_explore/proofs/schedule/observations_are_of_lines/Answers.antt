use Rattle.pm_explore.proofs.schedule.ObservationLemmas.{shows}
use Rattle.pm_explore.proofs.schedule.observations_are_of_lines.Goals as goal

pub returns : goal.returns
returns c = λ plan h caller command code. shows plan h caller command code
