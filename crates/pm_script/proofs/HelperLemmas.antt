-- The item whose word is found is the one at the place of the word.
use Rattle.std.proofs.Common.{◌≡◌, ℕ, ◌+◌, Bool, List, [], ◌∷◌, length, map, Option, Some, None, unwrap_or, position, slice_get, refl, not, cond, nat_lt, sym, ap, ◌∙◌, arith}
use Rattle.std.specs.List.{find, position_or_len}
use Rattle.std.specs.Option.{option_and_then}
use Rattle.std.specs.Str.{bytes_eq}
use Rattle.pm_linetext.specs.Words.{all_helpers}
use Rattle.pm_model.specs.Spelling.{helper_word}
use Rattle.pm_model.specs.declared.event.Helper.{Helper}
use Rattle.pm_names.specs.Table.{place_of}
use Rattle.pm_names.specs.Words.{helper_words}
use Rattle.pm_script.specs.Command.{helper_named}
use Rattle.std.proofs.lemmas.Bool.Decides.{nat_tests}
use Rattle.std.proofs.lemmas.List.{length-map}
use Rattle.std.proofs.lemmas.List.Folds.{find_at}
use Rattle.std.proofs.lemmas.Option.{slice_get_past}

first_map : {X : Type 0} (passes : List ℕ → Bool) (word : X → List ℕ) (items : List X) → position_or_len passes (map word items) ≡ position_or_len (λ x. passes (word x)) items
first_map passes word [] = refl
first_map passes word (x ∷ items) = ap (λ n. cond (not (passes (word x))) (1 + n) 0) (first_map passes word items)

chosen : {X : Type 0} (items : List X) (n m count : ℕ) → m ≡ n → count ≡ length items → slice_get items n ≡ option_and_then (λ place. slice_get items place) (cond (nat_lt m count) (Some m) None)
chosen items n m count same all = grind (arith, nat_tests, slice_get_past items n)

pub found_by_word : {X : Type 0} (passes : List ℕ → Bool) (word : X → List ℕ) (items : List X) → find (λ x. passes (word x)) items ≡ option_and_then (λ place. slice_get items place) (position passes (map word items))
found_by_word passes word items =
    find_at (λ x. passes (word x)) items ∙ chosen items _ _ _ (first_map passes word items) (length-map items word)

-- the helper that a word names stands at the place of the word
pub named_at : (word : List ℕ) (place : Option ℕ) → place ≡ place_of helper_words word → helper_named word ≡ option_and_then (λ p. slice_get all_helpers p) place
unfolding helper_named
named_at word place is = found_by_word (bytes_eq word) helper_word all_helpers ∙ ap (λ p. option_and_then (λ q. slice_get all_helpers q) p) (sym is)

-- a helper's own word names it
pub named_here : (word found : List ℕ) (helper : Helper) (place : ℕ) → slice_get helper_words place ≡ Some found → slice_get helper_words place ≡ Some (helper_word helper) → place_of helper_words (helper_word helper) ≡ Some place → slice_get all_helpers place ≡ Some helper → found ≡ word → helper_named word ≡ Some helper
named_here word found helper place shown its number here same =
    let is : word ≡ helper_word helper = sym same ∙ ap (λ o. unwrap_or o []) (sym shown ∙ its) in
    named_at word (Some place) (sym number ∙ ap (λ w. place_of helper_words w) (sym is)) ∙ here
