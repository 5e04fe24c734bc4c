-- What is collected of the lines of a run.
use Rattle.std.proofs.Common.{◌≡◌, ◌∙◌, List, [], ◌∷◌, ◌++◌, Option, Some, None, reverse, refl, sym, ap}
use Rattle.std.specs.List.{filter_map, cons_option}
use Rattle.std.proofs.lemmas.List.{append-nil, reverse-append, reverse-reverse}
use Rattle.std.proofs.lemmas.List.Elements.{filter_map-append}

back_of : {B : Type 0} (o : Option B) (xs : List B) → reverse xs ++ cons_option o [] ≡ reverse (cons_option o xs)
back_of None xs = append-nil (reverse xs)
back_of (Some y) xs = sym (reverse-append (y ∷ []) xs)

-- what is kept of a list in order
pub filter_map_back : {A B : Type 0} (f : A → Option B) (xs : List A) → filter_map f (reverse xs) ≡ reverse (filter_map f xs)
filter_map_back f [] = refl
filter_map_back f (x ∷ xs) =
    ap (filter_map f) (reverse-append (x ∷ []) xs) ∙ filter_map-append f (reverse xs) (x ∷ []) ∙ ap (λ l. l ++ cons_option (f x) []) (filter_map_back f xs) ∙ back_of (f x) (filter_map f xs)

pub kept_in_order : {A B : Type 0} (f : A → Option B) (xs : List A) → reverse (filter_map f (reverse xs)) ≡ filter_map f xs
kept_in_order f xs = ap reverse (filter_map_back f xs) ∙ reverse-reverse (filter_map f xs)
