use Rattle.std.proofs.Common.{◌≡◌, ◌++◌, drop, map}
use Rattle.toml.specs.View.{view}
use Rattle.pm_driver_read.specs.Words.{all_words}
use Rattle.pm_driver_read.proofs.words.all_words.Given as goal

abbrev pub invariant-loop-value : goal.invariant-loop-value
invariant-loop-value l = l.all.items ++ all_words (map view (drop l.value-index l.values)) ≡ all_words (map view l.values)
