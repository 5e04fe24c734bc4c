use Rattle.std.proofs.Common.{◌≡◌, ◌++◌, drop, map}
use Rattle.toml.specs.View.{view}
use Rattle.pm_driver_read.specs.Fails.{flags_from}
use Rattle.pm_driver_read.proofs.fails.push_flags.Given as goal

abbrev pub invariant-loop-place : goal.invariant-loop-place
invariant-loop-place l = l.rows.items ++ flags_from (map view l.values) l.forced l.place (drop l.place l.flags) ≡ l.fn.rows.items ++ flags_from (map view l.values) l.forced 0 l.flags
