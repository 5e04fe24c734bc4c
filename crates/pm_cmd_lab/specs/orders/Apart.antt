-- What the searches of a plan's islands gave, as what was found of them (this project's own).
use Rattle.std.specs.Prelude.{ℕ, ◌≡◌, ◌+◌, ◌++◌, List, map}
use Rattle.std.specs.List.{range_with_len}
use Rattle.pm_cmd_lab.specs.orders.Orders.{IslandFound, IslandsFound, both, outcomes_in, own_outcomes, own_snapshots, reach, reach_in, snapshots_in}
use Rattle.pm_cmd_lab.specs.declared.orders.apart.Apart.{Apart}
use Rattle.pm_lab_words.specs.declared.request.Bounds.{Bounds}
use Rattle.pm_model.specs.declared.plan.Plan.{Plan}
use Rattle.pm_model.specs.Islands.{Node}

-- the first so many islands
pub record IsSoFar (bounds : Bounds) (plan : Plan) (island : Node → ℕ) (n : ℕ) (all : Apart) : Type 0 where
  pub islands : List (IslandFound bounds plan island)
  pub numbers : map (λ one. one.number) islands ≡ range_with_len 0 n
  pub observations : all.observations.items ≡ outcomes_in islands
  pub reach_is : all.reach ≡ reach_in islands
  pub snapshots : all.snapshots ≡ snapshots_in islands

-- one island more
pub record IsAdded (bounds : Bounds) (plan : Plan) (island : Node → ℕ) (n : ℕ) (old new : Apart) : Type 0 where
  pub one : IslandFound bounds plan island
  pub number : one.number ≡ n
  pub observations : new.observations.items ≡ old.observations.items ++ own_outcomes one
  pub reach_is : new.reach ≡ both old.reach (reach one.found)
  pub snapshots : new.snapshots ≡ old.snapshots + own_snapshots one

-- all of them
pub record IsApart (bounds : Bounds) (plan : Plan) (all : Apart) : Type 0 where
  pub found : IslandsFound bounds plan
  pub observations : all.observations.items ≡ outcomes_in found.islands
  pub reach_is : all.reach ≡ reach_in found.islands
  pub snapshots : all.snapshots ≡ snapshots_in found.islands
