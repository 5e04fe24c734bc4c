-- Marks at places of which each belongs to one owner at most, and how many of an owner's places are marked (this
-- project's own).
use Rattle.std.specs.Prelude.{◌≡◌, ◌+◌, ◌<◌, ◌^◌, ℕ, Bool, false, ◌&&◌, List, Option, None, Some, IfSome, count_by, length, nat_eq, slice_index_or, slice_set}
use Rattle.std.specs.List.{zip}
use Rattle.std.specs.Option.{option_map_or}

-- the owner of each place, and whether it is marked
pub record Marks : Type 0 where
  pub owners : List (Option ℕ)
  pub bits : List Bool

abbrev pub owner_at : List (Option ℕ) → ℕ → Option ℕ
owner_at owners place = slice_index_or owners place None

abbrev pub bit_at : List Bool → ℕ → Bool
bit_at bits place = slice_index_or bits place false

-- whether a place with this owner is o's
abbrev pub is_of : ℕ → Option ℕ → Bool
is_of o owner = option_map_or (λ x. nat_eq x o) owner false

-- how many of o's places are marked
abbrev pub marked_of : List (Option ℕ) → List Bool → ℕ → ℕ
marked_of owners bits o = count_by (λ p. is_of o p.0 && p.1) (zip owners bits)

-- the marks without that of this place
abbrev pub unmarked : Option ℕ → List Bool → List Bool
unmarked None bits = bits
unmarked (Some place) bits = slice_set bits place false

-- each owner is below this bound
abbrev pub AreBelow : ℕ → List (Option ℕ) → Type 0
AreBelow bound owners = (place : ℕ) → IfSome (owner_at owners place) (λ o. o < bound)

-- what a tally keeps beside the marks: for each owner the number of its places that are marked
pub record IsTallied (owners : List (Option ℕ)) (bits : List Bool) (counts : List ℕ) : Type 0 where
  pub few : length owners + 1 < 2 ^ 32
  pub bits_len : length bits ≡ length owners
  pub below : AreBelow (length counts) owners
  pub counted : (o : ℕ) → o < length counts → slice_index_or counts o 0 ≡ marked_of owners bits o
