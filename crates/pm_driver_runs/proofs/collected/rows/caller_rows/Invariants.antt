use Rattle.std.proofs.Common.{◌≡◌, ◌++◌, drop, reverse}
use Rattle.pm_driver_runs.specs.Collected.{scripts_in, with_scripts}
use Rattle.pm_driver_runs.proofs.collected.rows.caller_rows.Given as goal

abbrev pub invariant-loop-c : goal.invariant-loop-c
invariant-loop-c l = with_scripts (scripts_in (reverse l.lines)) 0 l.rows ≡ l.made.items ++ with_scripts (scripts_in (reverse l.lines)) l.c (drop l.c l.rows)
