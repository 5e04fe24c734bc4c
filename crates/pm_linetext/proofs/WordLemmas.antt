-- Where the words of some items are distinct, each item has one place, and it is the place of its word.
use Rattle.std.proofs.Common.{◌≡◌, ℕ, true, List, map, slice_get, Option, option_map, Some, None, IfSome, ap, sym, ◌∙◌}
use Rattle.std.proofs.lemmas.Option.{slice_get-map}
use Rattle.pm_names.proofs.TableLemmas.{place_of_only}
use Rattle.pm_names.specs.Table.{place_of, all_distinct}

-- the word of the item at a place stands there among the words
pub word_here : {X : Type 0} (word : X → List ℕ) (items : List X) (words : List (List ℕ)) → map word items ≡ words → (place : ℕ) (x : X) → slice_get items place ≡ Some x → slice_get words place ≡ Some (word x)
word_here word items words spelled place x here =
    ap (λ w. slice_get w place) (sym spelled) ∙ slice_get-map word items place ∙ ap (option_map word) here

pub place_of_word : {X : Type 0} (word : X → List ℕ) (items : List X) (words : List (List ℕ)) → map word items ≡ words → all_distinct words ≡ true → (place : ℕ) (x : X) → slice_get items place ≡ Some x → place_of words (word x) ≡ Some place
place_of_word word items words spelled distinct place x here =
    place_of_only words (word x) place distinct (word_here word items words spelled place x here)

pub one_place : {X : Type 0} (word : X → List ℕ) (items : List X) (words : List (List ℕ)) → map word items ≡ words → all_distinct words ≡ true → (p q : ℕ) (x : X) → slice_get items p ≡ Some x → slice_get items q ≡ Some x → p ≡ q
one_place word items words spelled distinct p q x at_p at_q =
    cc (place_of_word word items words spelled distinct p x at_p, place_of_word word items words spelled distinct q x at_q)

-- the item at the place of a word is what the word names
pub named_item : {X : Type 0} (word : X → List ℕ) (items : List X) (words : List (List ℕ)) → map word items ≡ words → (place : ℕ) (name : List ℕ) → slice_get words place ≡ Some name → (item : Option X) → item ≡ slice_get items place → IfSome item (λ x. word x ≡ name)
named_item word items words spelled place name here None is = tt
named_item word items words spelled place name here (Some x) is = cc (word_here word items words spelled place x (sym is))
