use Rattle.std.proofs.Common.{◌≡◌, ◌++◌, map}
use Rattle.std.specs.List.{range_with_len}
use Rattle.pm_outcomes.specs.observe.Shows.{end_at}
use Rattle.pm_explore.specs.state.SnapshotOf.{views_of}
use Rattle.pm_outcomes.proofs.observe.showing.push_ends.Given as goal

-- so many devices are told
abbrev pub invariant-loop-device : goal.invariant-loop-device
invariant-loop-device l = l.out.items ≡ l.initial.out.items ++ map (end_at (views_of l.snapshot)) (range_with_len 0 l.device)
