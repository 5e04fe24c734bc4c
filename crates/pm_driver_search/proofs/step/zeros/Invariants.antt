use Rattle.std.proofs.Common.{ℕ, ◌≡◌, map, take}
use Rattle.pm_driver_search.proofs.step.zeros.Given as goal

abbrev pub invariant-loop : goal.invariant-loop
invariant-loop l = let none : ℕ = 0 in l.out.items ≡ map (λ n. none) (take l.index l.called)
