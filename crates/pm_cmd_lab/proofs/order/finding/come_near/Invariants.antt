use Rattle.std.proofs.Common.{◌≡◌, reverse, take}
use Rattle.pm_model.specs.Lawful.{last_time}
use Rattle.pm_outcomes.specs.witness.Going.{IsNear}
use Rattle.pm_cmd_lab.proofs.order.finding.come_near.Given as goal

abbrev pub invariant-loop-line : goal.invariant-loop-line
invariant-loop-line l = record {
  near : IsNear (reverse (take l.line-index l.lines));
  last : l.last ≡ last_time (reverse (take l.line-index l.lines));
}
