-- The lengths of chains of parents and suppliers, in a list by device (this project's own).
use Rattle.std.specs.Prelude.{ℕ, suc, ◌≡◌, ◌≢◌, ◌+◌, ◌<◌, ◌≤◌, List, Some, length, max, slice_get, slice_index_or}
use Rattle.std.specs.Option.{option_map_or}
use Rattle.pm_base.specs.declared.DevId.{DevId}
use Rattle.pm_model.specs.declared.plan.Plan.{Plan}
use Rattle.pm_model.specs.declared.rows.LinkRow.{LinkRow}
use Rattle.pm_model.specs.PlanRows.{parent}
use Rattle.pm_laws.specs.stacks.Depth.{greatest, longest_of, of_supplier}

abbrev pub chain_at : List ℕ → DevId → ℕ
chain_at chains d = slice_index_or chains d.0 0

-- one device more than on the longest chain that the list has for its parent or a supplier
abbrev pub chain_from : Plan → List ℕ → DevId → ℕ
chain_from plan chains d = max (option_map_or (chain_at chains) (parent plan d) 0) (greatest (of_supplier d (chain_at chains)) plan.links) + 1

-- no chain from one of the first devices, which the list has, is longer than it says; and it says no more than there are
-- of them
pub record AreChains (plan : Plan) (chains : List ℕ) : Type 0 where
  pub each : (d : DevId) (n : ℕ) → d.0 < length chains → longest_of plan n d ≤ chain_at chains d
  pub few : (d : DevId) → chain_at chains d ≤ length chains

-- for each device its last link, and for each link the one before it that has its consumer, by places from 1, 0 for none
pub record Own : Type 0 where
  pub last : List ℕ
  pub before : List ℕ

-- of the first n links the last of consumer d is the k-th; where k is 0, none of them is one
pub record IsLastOf (links : List LinkRow) (d : DevId) (n k : ℕ) : Type 0 where
  pub within : k ≤ n
  pub its : (i : ℕ) (row : LinkRow) → suc i ≡ k → slice_get links i ≡ Some row → row.consumer ≡ d
  pub past : (i : ℕ) (row : LinkRow) → k ≤ i → i < n → slice_get links i ≡ Some row → row.consumer ≢ d

-- these are the last link of each device, of the first n, and the one before each of these that has its consumer
pub record AreOwn (links : List LinkRow) (n : ℕ) (last before : List ℕ) : Type 0 where
  pub each : (d : DevId) → d.0 < length last → IsLastOf links d n (slice_index_or last d.0 0)
  pub earlier : (i : ℕ) (row : LinkRow) → i < n → slice_get links i ≡ Some row → IsLastOf links row.consumer i (slice_index_or before i 0)
  pub all : length before ≡ n
