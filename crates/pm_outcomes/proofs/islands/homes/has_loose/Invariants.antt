use Rattle.std.proofs.Common.{◌≡◌, ◌-◌, length, nat_le}
use Rattle.std.specs.List.{list_any, range_with_len}
use Rattle.pm_islands.specs.Numbers.{island_in}
use Rattle.pm_model.specs.Islands.{the_device}
use Rattle.pm_outcomes.proofs.islands.homes.has_loose.Given as goal

-- none of those so far is without an island
abbrev pub invariant-loop-device : goal.invariant-loop-device
invariant-loop-device l =
    list_any (λ d. nat_le l.numbers.count (island_in l.numbers (the_device d))) (range_with_len l.device (length l.plan.devices - l.device))
    ≡ list_any (λ d. nat_le l.numbers.count (island_in l.numbers (the_device d))) (range_with_len 0 (length l.plan.devices))
