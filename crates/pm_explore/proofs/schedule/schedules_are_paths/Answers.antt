use Rattle.pm_explore.proofs.schedule.Paths.{order, path}
use Rattle.pm_explore.proofs.schedule.schedules_are_paths.Goals as goal

pub returns : goal.returns
returns c = record {
  reached = λ pace plan h o. path pace plan h o;
  ordered = λ pace plan k s r. order pace plan r;
}
