-- By the pose.
use Rattle.std.proofs.Common.{◌∙◌}
use Rattle.pm_driver_rules.specs.GoingOn.{driver_of}
use Rattle.pm_driver_search.proofs.PoseLemmas.{posed_by}
use Rattle.pm_driver_search.proofs.witness.pose_at.Goals as goal

pub returns-clause-stands : goal.returns-clause-stands
returns-clause-stands c = c.in_ok-stand_at.ensures.stands ∙ posed_by (driver_of c.args.going.now.rules.now) c.args.node.now c.args.failing c.in_ok-pose.pose c.in_ok-pose.ensures
