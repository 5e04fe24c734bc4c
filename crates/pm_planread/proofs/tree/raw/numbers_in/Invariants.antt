use Rattle.std.proofs.Common.{◌≡◌, ◌++◌, drop, map}
use Rattle.toml.specs.View.{view}
use Rattle.pm_planread.specs.tree.Raw.{numbers_in}
use Rattle.pm_planread.proofs.tree.raw.numbers_in.Given as goal

abbrev pub invariant-loop-value : goal.invariant-loop-value
invariant-loop-value l = l.numbers.items ++ numbers_in (map view (drop l.value-index l.values)) ≡ numbers_in (map view l.values)
