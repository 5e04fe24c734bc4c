-- The numbers of the islands of a plan's nodes (this project's own).
use Rattle.std.specs.Prelude.{ℕ, ◌≡◌, ◌<◌, Bool, List, Option, None, nat_eq, length, slice_get, slice_index_or, unwrap_or}
use Rattle.pm_base.specs.declared.ActorId.{ActorId}
use Rattle.pm_base.specs.declared.ActorId.TheVariants.{Caller, Work, Timer}
use Rattle.pm_model.specs.declared.plan.Plan.{Plan}
use Rattle.pm_model.specs.Islands.{IsLabelling, Node, Numbering, island_of, the_caller, the_device, the_domain}

-- how many islands there are, and the number of the island of each device, caller and domain; none where no caller is
-- connected with it
pub record NodeNumbers : Type 0 where
  pub count : ℕ
  pub devices : List (Option ℕ)
  pub callers : List ℕ
  pub domains : List (Option ℕ)

-- the number of a node, which isn't below the count where it has none
abbrev pub island_in : NodeNumbers → Node → ℕ
island_in numbers (the_device d) = unwrap_or (slice_index_or numbers.devices d None) numbers.count
island_in numbers (the_caller c) = slice_index_or numbers.callers c numbers.count
island_in numbers (the_domain o) = unwrap_or (slice_index_or numbers.domains o None) numbers.count

-- the number of an actor, if it has one
abbrev pub actor_in : NodeNumbers → ActorId → Option ℕ
actor_in numbers (Caller c) = slice_get numbers.callers c
actor_in numbers (Work d) = slice_index_or numbers.devices d None
actor_in numbers (Timer d) = slice_index_or numbers.devices d None

-- they are those of the plan's islands
pub record AreIslands (plan : Plan) (numbers : NodeNumbers) : Type 0 where
  pub numbering : Numbering plan numbers.count
  pub nodes : (a : Node) → numbering.island a ≡ island_in numbers a
  pub callers : length numbers.callers ≡ length plan.callers
  pub actors : (a : ActorId) → island_of numbering a ≡ actor_in numbers a

-- one of the plan's islands
abbrev pub IsIsland : Plan → ℕ → Type 0
IsIsland plan n = (count : ℕ) × Numbering plan count × (n < count)

-- the callers' numbers, of numbers that touching nodes share
pub record AreNumbers (plan : Plan) (island : Node → ℕ) (numbers : List ℕ) : Type 0 where
  pub shared : IsLabelling plan island
  pub each : (c : ℕ) → c < length plan.callers → island (the_caller c) ≡ slice_index_or numbers c 0

-- whether caller c has this number
abbrev pub is_of : List ℕ → ℕ → ℕ → Bool
is_of numbers island c = nat_eq (slice_index_or numbers c 0) island
