-- Piles of stages that are kept in one block of memory (this project's own).
use Rattle.std.specs.Prelude.{ℕ, zero, suc, ◌≡◌, ◌*◌, ◌≤◌, List, [], ◌∷◌, IsSomeAnd, length, slice_index_or}
use Rattle.std.specs.List.{sum_by}
use Rattle.std.specs.Option.{option_map_or}
use Rattle.slab.specs.Slab.{Slab, get, slab_len}
use Rattle.pm_model.specs.declared.stage.Stage.{Stage}
use Rattle.pm_state.specs.declared.cell.Cell.{Cell}
use Rattle.pm_state.specs.declared.cell.Pile.{Pile}

-- so many stages from the one at this key down
abbrev pub stages_from : Slab Cell → ℕ → ℕ → List Stage
stages_from cells zero key = []
stages_from cells (suc n) key = option_map_or (λ (c : Cell). c.stage ∷ stages_from cells n c.below) (get cells key) []

-- so many stages of this owner are kept from this key down, each of which tells how many are under it
abbrev pub AreKept : Slab Cell → ℕ → ℕ → ℕ → Type 0
AreKept cells owner zero key = Unit {0}
AreKept cells owner (suc n) key = IsSomeAnd (get cells key) (λ (c : Cell). (c.owner ≡ owner) × (c.under ≡ n) × AreKept cells owner n c.below)

-- the stages of a pile, the upper one first
abbrev pub stages_of_pile : Slab Cell → Pile → List Stage
stages_of_pile cells p = stages_from cells p.many p.upper

-- an empty pile where there is none
abbrev pub pile_at : List Pile → ℕ → Pile
pile_at piles i = slice_index_or piles i (record { many = 0; upper = 0 })

-- each pile's stages are kept and no others, none has more than there is room for, and the block has room for as many at each
pub record ArePiled (room : ℕ) (piles : List Pile) (cells : Slab Cell) : Type 0 where
  pub kept : (i : ℕ) → AreKept cells i (let p = pile_at piles i in p.many) (let p = pile_at piles i in p.upper)
  pub within : (i : ℕ) → (let p = pile_at piles i in p.many) ≤ room
  pub many : slab_len cells ≡ sum_by (λ (p : Pile). p.many) piles
  pub fits : length piles * room ≤ cells.capacity
