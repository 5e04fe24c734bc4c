use Rattle.std.proofs.Common.{◌≡◌, false, take}
use Rattle.std.specs.List.{list_any}
use Rattle.pm_base.specs.declared.codes.TheConstants.{EACCES}
use Rattle.pm_driver_find.specs.Suspects.{is_for}
use Rattle.pm_driver_find.proofs.suspects.reads_access.Given as goal

abbrev pub invariant-loop-exit : goal.invariant-loop-exit
invariant-loop-exit l = list_any (is_for EACCES) (take l.exit-index l.exits) ≡ false
