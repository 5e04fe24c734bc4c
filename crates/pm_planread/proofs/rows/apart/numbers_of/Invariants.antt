use Rattle.std.proofs.Common.{◌≡◌, ◌++◌, drop, map}
use Rattle.pm_planread.specs.rows.Apart.{number_of}
use Rattle.pm_planread.specs.rows.Names.{names_in}
use Rattle.pm_planread.proofs.rows.apart.numbers_of.Given as goal

abbrev pub invariant-loop-label : goal.invariant-loop-label
invariant-loop-label l = l.numbers.items ++ map number_of (names_in (drop l.label-index l.labels)) ≡ map number_of (names_in l.labels)
