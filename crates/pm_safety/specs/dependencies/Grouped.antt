-- Places by whom they belong to (this project's own).
use Rattle.std.specs.Prelude.{ℕ, ◌≡◌, ◌<◌, Bool, false, List, [], ◌∷◌, ◌++◌, Option, Some, None, length, nat_eq, slice_index_or, slice_set}
use Rattle.std.specs.List.{filter, range_with_len}
use Rattle.std.specs.Option.{option_map_or}

-- whether a place, of which these are the owners in order, belongs to this one
abbrev pub belongs : List (Option ℕ) → ℕ → ℕ → Bool
belongs owners o place = option_map_or (nat_eq o) (slice_index_or owners place None) false

-- those of the first n places that belong to one owner
abbrev pub places_of : List (Option ℕ) → ℕ → ℕ → List ℕ
places_of owners n o = filter (belongs owners o) (range_with_len 0 n)

-- a group for each of so many owners, with those of the first n places that belong to it
pub record AreGroups (count n : ℕ) (owners : List (Option ℕ)) (groups : List (List ℕ)) : Type 0 where
  pub entries : length groups ≡ count
  pub each : (o : ℕ) → o < count → slice_index_or groups o [] ≡ places_of owners n o

-- a place put into the group of its owner, if it has one
abbrev pub with_place : Option ℕ → ℕ → List (List ℕ) → List (List ℕ)
with_place None place groups = groups
with_place (Some o) place groups = slice_set groups o (slice_index_or groups o [] ++ place ∷ [])
