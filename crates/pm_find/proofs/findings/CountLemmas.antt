-- Lists of counts, and the same lists with the newest count last.
use Rattle.std.proofs.Common.{ℕ, ◌≡◌, ◌+◌, ◌-◌, ◌<◌, ◌++◌, List, [], ◌∷◌, drop, get_or, length, map, remove, reverse, suc, take, ap, refl, sym, ◌∙◌, arith, add-one, append_assoc}
use Rattle.std.proofs.lemmas.List.{drop_more, length-drop, length-reverse, map-append, reverse-append, take-append-drop}
use Rattle.std.proofs.lemmas.List.Edits.{remove-append_right}

-- what is done to each is done to each from the end
pub reverse_map : {X : Type 0} (f : X → X) (xs : List X) → reverse (map f xs) ≡ map f (reverse xs)
reverse_map f [] = refl
reverse_map f (x ∷ xs) =
    reverse-append (f x ∷ []) (map f xs) ∙ ap (λ ys. ys ++ f x ∷ []) (reverse_map f xs)
    ∙ sym (ap (map f) (reverse-append (x ∷ []) xs) ∙ map-append f (reverse xs) (x ∷ []))

-- one more is the newest
pub reverse_more : {X : Type 0} (f : X → X) (xs : List X) (x : X) → reverse (map f xs ++ x ∷ []) ≡ x ∷ map f (reverse xs)
reverse_more f xs x = reverse-append (map f xs) (x ∷ []) ∙ ap (λ ys. x ∷ ys) (reverse_map f xs)

-- without the element in the middle
middle : {X : Type 0} (front back : List X) (x : X) (n : ℕ) → length front ≡ n → remove (front ++ x ∷ back) n ≡ front ++ back
middle front back x n is =
    remove-append_right front (x ∷ back) n n is (omega arith) ∙ ap (λ k. front ++ remove (x ∷ back) k) (let none : n - n ≡ 0 = omega arith in none)

-- a list in two parts, with the element between them
parts : {X : Type 0} (xs : List X) (n : ℕ) (d : X) → n < length xs → xs ≡ take n xs ++ get_or xs n d ∷ drop (n + 1) xs
parts xs n d within = sym (take-append-drop n xs) ∙ ap (λ ys. take n xs ++ ys) (drop_more xs n d within)

pub reverse_parts : {X : Type 0} (xs : List X) (n : ℕ) (d : X) → n < length xs → reverse xs ≡ reverse (drop (n + 1) xs) ++ get_or xs n d ∷ reverse (take n xs)
reverse_parts xs n d within =
    ap reverse (parts xs n d within) ∙ reverse-append (take n xs) (get_or xs n d ∷ drop (n + 1) xs) ∙ ap (λ ys. ys ++ reverse (take n xs)) (reverse-append (get_or xs n d ∷ []) (drop (n + 1) xs)) ∙ append_assoc (reverse (drop (n + 1) xs)) (get_or xs n d ∷ []) (reverse (take n xs))

-- an element is removed from the end
remove_reverse : {X : Type 0} (xs : List X) (k : ℕ) (d : X) → k < length xs → reverse (remove xs (length xs - 1 - k)) ≡ remove (reverse xs) k
remove_reverse xs k d within = go (length xs - 1 - k) (omega arith) (omega arith)
  where
    go : (n : ℕ) → n < length xs → length xs - (n + 1) ≡ k → reverse (remove xs n) ≡ remove (reverse xs) k
    go n inside is =
        reverse-append (take n xs) (drop (suc n) xs)
        ∙ ap (λ m. reverse (drop m xs) ++ reverse (take n xs)) (sym (add-one n))
        ∙ sym (ap (λ ys. remove ys k) (reverse_parts xs n d inside)
        ∙ middle (reverse (drop (n + 1) xs)) (reverse (take n xs)) (get_or xs n d) k (length-reverse (drop (n + 1) xs) ∙ length-drop (n + 1) xs ∙ is))

pub removed : {X : Type 0} (xs ys : List X) (len n k : ℕ) (d : X) → len ≡ length xs → n ≡ len - 1 - k → k < len → ys ≡ remove xs n → reverse ys ≡ remove (reverse xs) k
removed xs ys len n k d same at within is =
    ap reverse is ∙ ap (λ m. reverse (remove xs m)) (let back : n ≡ length xs - 1 - k = omega arith in back) ∙ remove_reverse xs k d (omega arith)
