use Rattle.std.proofs.Common.{◌≡◌, ◌++◌, drop, map}
use Rattle.toml.specs.View.{view}
use Rattle.pm_planread.specs.tree.Raw.{texts_in}
use Rattle.pm_planread.proofs.tree.raw.texts_in.Given as goal

abbrev pub invariant-loop-value : goal.invariant-loop-value
invariant-loop-value l = l.texts.items ++ texts_in (map view (drop l.value-index l.values)) ≡ texts_in (map view l.values)
