use Rattle.std.proofs.Common.{◌≡◌, ◌++◌, drop}
use Rattle.std.specs.List.{filter_map}
use Rattle.pm_driver_script.specs.Programs.{row_of}
use Rattle.pm_driver_script.proofs.program.rows_of.Given as goal

abbrev pub invariant-loop-standing : goal.invariant-loop-standing
invariant-loop-standing l = l.rows.items ++ filter_map (row_of l.script.steps.now l.script.names.now l.script.turns l.numbered.places.items l.numbered.ends.items) (drop l.standing-index l.places) ≡ filter_map (row_of l.script.steps.now l.script.names.now l.script.turns l.numbered.places.items l.numbered.ends.items) l.places
