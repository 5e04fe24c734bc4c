-- One item more, in the loops over all of a list.
use Rattle.std.proofs.Common.{◌≡◌, ◌<◌, None, arith, refl, subst, ◌+◌, ◌++◌, ◌∷◌, [], ℕ, List, Option, drop, take, length, get_or, sym, ap, ◌∙◌, append_assoc}
use Rattle.std.proofs.lemmas.List.{at_drop_more, flat_map_more, take_more}
use Rattle.std.proofs.lemmas.List.Elements.{filter_map-append}
use Rattle.std.proofs.lemmas.List.FromFn.{length-enumerate_from}
use Rattle.std.specs.List.{cons_option, enumerate_from, filter_map, flat_map}
use Rattle.pm_model.specs.Serial.{least}
use Rattle.pm_explore.specs.successors.Moments.{AreWith}
use Rattle.pm_explore.proofs.successors.MomentLemmas.{row_number, with_both}

-- the least of the moments, with that of the actor before
pub least_with : {A : Type 0} (g : A → Option ℕ) (xs : List A) (left after : ℕ) (d : A) (at later result : Option ℕ) → after ≡ left + 1 → left < length xs → at ≡ g (get_or xs left d) → later ≡ least (filter_map g (drop after xs))
    → ((ys : List ℕ) → later ≡ least ys → result ≡ least (cons_option at ys)) → result ≡ least (filter_map g (drop left xs))
least_with g xs left after d at later result next lt is so_far earlier =
    let behind : later ≡ least (filter_map g (drop (left + 1) xs)) = so_far ∙ ap (λ k. least (filter_map g (drop k xs))) next in
    earlier (filter_map g (drop (left + 1) xs)) behind ∙ ap (λ o. least (cons_option o (filter_map g (drop (left + 1) xs)))) is ∙ sym (at_drop_more (λ l. least (filter_map g l)) xs left d lt)

-- what is put at the end, with what the next actor gives
pub put_more : {A B : Type 0} (f : A → Option B) (xs : List A) (i : ℕ) (d : A) (start out now : List B) (o : Option B) → i < length xs → out ≡ start ++ filter_map f (take i xs) → o ≡ f (get_or xs i d) → now ≡ out ++ cons_option o []
    → now ≡ start ++ filter_map f (take (i + 1) xs)
put_more f xs i d start out now o lt so_far is more =
    more ∙ ap (λ l. l ++ cons_option o []) so_far ∙ append_assoc start (filter_map f (take i xs)) (cons_option o []) ∙ ap (λ p. start ++ (filter_map f (take i xs) ++ cons_option p [])) is
    ∙ ap (λ l. start ++ l) (sym (filter_map-append f (take i xs) (get_or xs i d ∷ [])) ∙ ap (filter_map f) (sym (take_more xs i d lt)))

-- a moment more
pub with_more : {A : Type 0} (f : A → Option ℕ) (xs : List A) (i : ℕ) (d : A) (from : ℕ) (old between new : List ℕ) → i < length xs → AreWith from old (filter_map f (take i xs)) between → AreWith from between (cons_option (f (get_or xs i d)) []) new
    → AreWith from old (filter_map f (take (i + 1) xs)) new
with_more f xs i d from old between new lt so_far more =
    let is : filter_map f (take i xs) ++ cons_option (f (get_or xs i d)) [] ≡ filter_map f (take (i + 1) xs) = sym (filter_map-append f (take i xs) (get_or xs i d ∷ [])) ∙ ap (filter_map f) (sym (take_more xs i d lt)) in
    subst (λ l. AreWith from old l new) is (with_both from old (filter_map f (take i xs)) between (cons_option (f (get_or xs i d)) []) new so_far more)

-- that of the next row
pub number_more : {A : Type 0} (f : ℕ → Option ℕ) (xs : List A) (i from : ℕ) (old between new : List ℕ) → i < length xs → AreWith from old (filter_map (λ p. f p.0) (take i (enumerate_from 0 xs))) between → AreWith from between (cons_option (f i) []) new
    → AreWith from old (filter_map (λ p. f p.0) (take (i + 1) (enumerate_from 0 xs))) new
number_more f [] i from old between new lt so_far more = absurd (omega (arith, lt))
number_more f (x ∷ xs) i from old between new lt so_far more =
    let is : (get_or (enumerate_from 0 (x ∷ xs)) i (0, x)).0 ≡ i = row_number (x ∷ xs) i (0, x) lt in
    with_more (λ p. f p.0) (enumerate_from 0 (x ∷ xs)) i (0, x) from old between new (omega (arith, lt, length-enumerate_from 0 (x ∷ xs))) so_far (subst (λ n. AreWith from between (cons_option (f n) []) new) (sym is) more)

-- the items of an actor more
pub flat_more : {A B : Type 0} (f : A → List B) (xs : List A) (i : ℕ) (d : A) (start out now : List B) → i < length xs → out ≡ start ++ flat_map f (take i xs) → now ≡ out ++ f (get_or xs i d) → now ≡ start ++ flat_map f (take (i + 1) xs)
flat_more f xs i d start out now lt so_far more =
    more ∙ ap (λ l. l ++ f (get_or xs i d)) so_far ∙ flat_map_more f start (take i xs) (get_or xs i d) ∙ ap (λ l. start ++ flat_map f l) (sym (take_more xs i d lt))

-- nothing is given
pub filter_none : {A B : Type 0} (f : A → Option B) → ((x : A) → f x ≡ None) → (xs : List A) → filter_map f xs ≡ []
filter_none f none [] = refl
filter_none f none (x ∷ xs) = ap (λ o. cons_option o (filter_map f xs)) (none x) ∙ filter_none f none xs
