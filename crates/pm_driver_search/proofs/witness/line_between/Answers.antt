-- By the only line of the actor.
use Rattle.pm_driver_rules.specs.GoingOn.{driver_of}
use Rattle.pm_driver_rules.specs.Nodes.{driver_snapshot_of}
use Rattle.pm_driver_search.proofs.WitnessLemmas.{line_of_turn}
use Rattle.pm_driver_search.proofs.witness.line_between.Goals as goal

pub returns-in-Some-line_by-clause-line : goal.returns-in-Some-line_by-clause-line
returns-in-Some-line_by-clause-line c =
    let going = c.args.going.now in
    line_of_turn going.pace (driver_of going.rules.now) going.most (driver_snapshot_of c.args.from.now) (driver_snapshot_of c.args.to.now) c.in-Some.actor c.has_failed-failing.result c.pose_at.new.run.state.world c.in-Some-line_by.line c.in-Some.is c.has_failed-failing.ensures.yes c.has_failed-failing.ensures.no c.in_ok-pose_at.ensures.stands c.in-Some-line_by.ensures
