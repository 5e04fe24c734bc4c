-- A text that is made piece by piece, behind an old one.
use Rattle.std.proofs.Common.{◌≡◌, ◌∙◌, ◌+◌, ◌<◌, ℕ, List, [], ◌∷◌, ◌++◌, Some, get_or, length, map, slice_get, slice_index_or, subst, sym, ap, zero-add}
use Rattle.std.proofs.lemmas.Option.{slice_get-get_or}
use Rattle.std.proofs.lemmas.List.{flat_map_more, map-id}
use Rattle.std.proofs.lemmas.List.FromFn.{map-range_with_len_more}
use Rattle.std.specs.List.{flat_map, range_with_len}
use Rattle.std.specs.Option.{option_map_or}
use Rattle.pm_linetext.proofs.PieceLemmas as pieces

-- the name at a place is that of the row there
pub name_here : {X : Type 0} (name : X → List ℕ) (rows : List X) (place : ℕ) → slice_index_or (map name rows) place [] ≡ option_map_or name (slice_get rows place) []
name_here = pieces.name_here

range_more : (n : ℕ) → range_with_len 0 (n + 1) ≡ range_with_len 0 n ++ n ∷ []
range_more n = sym (map-id (range_with_len 0 (n + 1))) ∙ map-range_with_len_more (λ x. x) 0 n n (zero-add n) ∙ ap (λ l. l ++ n ∷ []) (map-id (range_with_len 0 n))

-- the line of one more place
pub line_more : (f : ℕ → List ℕ) (start now later : List ℕ) (n : ℕ) (line : List ℕ) → now ≡ start ++ flat_map f (range_with_len 0 n) → later ≡ now ++ line → line ≡ f n → later ≡ start ++ flat_map f (range_with_len 0 (n + 1))
line_more f start now later n line so_far more is =
    more ∙ ap (λ l. l ++ line) so_far ∙ ap (λ l. (start ++ flat_map f (range_with_len 0 n)) ++ l) is ∙ flat_map_more f start (range_with_len 0 n) n ∙ ap (λ l. start ++ flat_map f l) (sym (range_more n))

-- what is told of the thing at a place
pub row_here : {X : Type 0} (told : X → List ℕ) (rows all : List X) (n : ℕ) (row : X) → rows ≡ all → n < length rows → row ≡ get_or rows n row → told row ≡ option_map_or told (slice_get all n) []
row_here told rows all n row same lt is =
    let there : slice_get all n ≡ Some row = subst (λ l. slice_get l n ≡ Some row) same (slice_get-get_or rows n row lt ∙ ap Some (sym is)) in
    sym (ap (λ o. option_map_or told o []) there)

-- and of a command there
pub command_here : {X : Type 0} (line : List ℕ → X → List ℕ) (name names : List ℕ) (script all : List X) (n : ℕ) (d : X) → name ≡ names → script ≡ all → n < length script → line name (get_or script n d) ≡ option_map_or (line names) (slice_get all n) []
command_here line name names script all n d named same lt =
    ap (λ x. line x (get_or script n d)) named ∙ sym (ap (λ o. option_map_or (line names) o []) (slice_get-get_or script n d lt)) ∙ ap (λ s. option_map_or (line names) (slice_get s n) []) same
