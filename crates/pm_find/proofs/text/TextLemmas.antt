-- A text that is made piece by piece, behind an old one.
use Rattle.std.proofs.Common.{◌≡◌, ◌∙◌, ℕ, List, [], ◌++◌, map, slice_get, slice_index_or, ap, append_assoc}
use Rattle.std.specs.Option.{option_map_or}
use Rattle.pm_linetext.proofs.PieceLemmas as pieces

-- the name at a place is that of the row there
pub name_here : {X : Type 0} (name : X → List ℕ) (rows : List X) (place : ℕ) → slice_index_or (map name rows) place [] ≡ option_map_or name (slice_get rows place) []
name_here = pieces.name_here

-- one more piece
pub more : (old now later piece last : List ℕ) → now ≡ old ++ piece → later ≡ now ++ last → later ≡ old ++ (piece ++ last)
more old now later piece last is more_is = more_is ∙ ap (λ x. x ++ last) is ∙ append_assoc old piece last
