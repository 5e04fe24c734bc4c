use Rattle.pm_expect_report.proofs.broken.Deciding.{all, so, within}
use Rattle.pm_expect_report.proofs.broken.laws.firsts_decide.Goals as goal

pub returns : goal.returns
returns c = record {
  rounds = λ pace plan e snapshots rounds ended b first found k seen. within pace plan e snapshots rounds ended b first found k seen;
  all = λ pace plan e snapshots rounds b first of_all. all pace plan e snapshots rounds b first of_all;
  sound = λ pace plan e snapshots rounds parents ended most b first found asked tree near. so pace plan e snapshots rounds (λ k s r. c.schedules_are_paths.ensures.ordered pace plan k s r) parents ended most b first found asked tree near;
}
