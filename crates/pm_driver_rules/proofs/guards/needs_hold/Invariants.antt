use Rattle.std.proofs.Common.{◌≡◌, drop}
use Rattle.std.specs.List.{list_all}
use Rattle.pm_driver_rules.specs.Rules.{need_holds}
use Rattle.pm_driver_rules.proofs.guards.needs_hold.Given as goal

abbrev pub invariant-loop-need : goal.invariant-loop-need
invariant-loop-need l = list_all (need_holds l.callers l.positions) (drop l.need-index l.needs) ≡ list_all (need_holds l.callers l.positions) l.needs
