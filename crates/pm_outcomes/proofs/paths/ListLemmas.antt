-- Two lists that go on together.
use Rattle.std.proofs.Common.{ℕ, ◌≡◌, ◌<◌, ◌+◌, List, [], ◌∷◌, ◌++◌, map, length, take, Some, get_or, sym, ◌∙◌, ap}
use Rattle.std.proofs.lemmas.List.{map-append, take_more}

pub some_is : {A : Type 0} (x y : A) → Some x ≡ Some y → x ≡ y
some_is x y is = cc is

pub both_more : {A B P : Type 0} (f : A → P) (g : B → P) (xs pushed : List A) (x : A) (ys : List B) (i : ℕ) (d : B) → i < length ys → map f xs ≡ map g (take i ys) → pushed ≡ xs ++ x ∷ [] → f x ≡ g (get_or ys i d)
    → map f pushed ≡ map g (take (i + 1) ys)
both_more f g xs pushed x ys i d lt so_far more next =
    ap (map f) more ∙ map-append f xs (x ∷ []) ∙ ap (λ l. l ++ f x ∷ []) so_far ∙ ap (λ z. map g (take i ys) ++ z ∷ []) next
    ∙ sym (map-append g (take i ys) (get_or ys i d ∷ [])) ∙ ap (map g) (sym (take_more ys i d lt))
