use Rattle.std.proofs.Common.{◌≡◌, ◌++◌, drop, reverse}
use Rattle.pm_driver_runs.specs.Collected.{codes_in, with_codes}
use Rattle.pm_driver_runs.proofs.collected.rows.device_rows.Given as goal

abbrev pub invariant-loop-d : goal.invariant-loop-d
invariant-loop-d l = with_codes (codes_in (reverse l.lines)) 0 l.rows ≡ l.made.items ++ with_codes (codes_in (reverse l.lines)) l.d (drop l.d l.rows)
