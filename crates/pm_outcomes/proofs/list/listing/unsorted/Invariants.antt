use Rattle.std.proofs.Common.{◌≡◌, take}
use Rattle.std.specs.List.{filter_map}
use Rattle.pm_outcomes.specs.list.Listing.{outcome_of}
use Rattle.pm_outcomes.proofs.list.listing.unsorted.Given as goal

-- so many of the observations are told
abbrev pub invariant-loop-i : goal.invariant-loop-i
invariant-loop-i l = l.out.items ≡ filter_map (outcome_of l.rounds l.whole) (take l.i l.firsts.entries.entries)
