use Rattle.std.proofs.Common.{◌≡◌, ◌++◌, map, take}
use Rattle.std.specs.List.{flat_map}
use Rattle.pm_outcomes.specs.wanted.Missing.{further_name}
use Rattle.pm_outcomes.proofs.wanted.missing.push_further.Given as goal

-- so many names are told
abbrev pub invariant-loop-row : goal.invariant-loop-row
invariant-loop-row g l = l.text.items ≡ l.initial.text.items ++ flat_map further_name (map g.T.Named.name_of (take l.row-index l.rows))
