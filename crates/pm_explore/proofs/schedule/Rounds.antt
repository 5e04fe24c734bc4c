-- Once round a list from somewhere is the same list to a test of any and to a least number.
use Rattle.std.proofs.Common.{ℕ, ◌≡◌, ◌≤◌, ◌⊎◌, ◌||◌, inl, inr, subst, Bool, true, false, List, [], ◌∷◌, ◌++◌, Option, Some, None, drop, min, take, refl, sym, ap, ◌∙◌, arith, find, if◌then◌else◌}
use Rattle.std.specs.List.{cons_option, filter_map, list_any}
use Rattle.std.specs.Option.{option_map_or}
use Rattle.std.proofs.lemmas.Bool.{cases_lt}
use Rattle.std.proofs.lemmas.List.{take-append-drop}
use Rattle.std.proofs.lemmas.List.Elements.{filter_map-append}
use Rattle.std.proofs.lemmas.List.Folds.{list_any-append}
use Rattle.pm_model.specs.Serial.{least}

-- the lesser of two numbers, of which each may be missing
lesser : Option ℕ → Option ℕ → Option ℕ
lesser None o = o
lesser (Some n) o = Some (option_map_or (min n) o n)

lesser-lesser : (a b c : Option ℕ) → lesser a (lesser b c) ≡ lesser (lesser a b) c
unfolding lesser
lesser-lesser None b c = refl
lesser-lesser (Some n) None c = refl
lesser-lesser (Some n) (Some m) None = refl
lesser-lesser (Some n) (Some m) (Some k) = let e : min n (min m k) ≡ min (min n m) k = omega arith in ap Some e

lesser-swap : (a b : Option ℕ) → lesser a b ≡ lesser b a
unfolding lesser
lesser-swap None None = refl
lesser-swap None (Some m) = refl
lesser-swap (Some n) None = refl
lesser-swap (Some n) (Some m) = let e : min n m ≡ min m n = omega arith in ap Some e

least-append : (xs ys : List ℕ) → least (xs ++ ys) ≡ lesser (least xs) (least ys)
unfolding lesser
least-append [] ys = refl
least-append (x ∷ xs) ys = ap (λ o. Some (option_map_or (min x) o x)) (least-append xs ys) ∙ lesser-lesser (Some x) (least xs) (least ys)

or-swap : (a b : Bool) → (a || b) ≡ (b || a)
or-swap true true = refl
or-swap true false = refl
or-swap false true = refl
or-swap false false = refl

any-swap : {A : Type 0} (p : A → Bool) (xs ys zs : List A) → list_any p (xs ++ ys ++ zs) ≡ list_any p (ys ++ xs ++ zs)
any-swap p xs ys zs =
    list_any-append p (xs ++ ys) zs ∙ ap (λ b. b || list_any p zs) (list_any-append p xs ys ∙ or-swap (list_any p xs) (list_any p ys) ∙ sym (list_any-append p ys xs)) ∙ sym (list_any-append p (ys ++ xs) zs)

least-swap : (xs ys zs : List ℕ) → least (xs ++ ys ++ zs) ≡ least (ys ++ xs ++ zs)
least-swap xs ys zs =
    least-append (xs ++ ys) zs ∙ ap (λ o. lesser o (least zs)) (least-append xs ys ∙ lesser-swap (least xs) (least ys) ∙ sym (least-append ys xs)) ∙ sym (least-append (ys ++ xs) zs)

pub any_round : {A : Type 0} (p : A → Bool) (n : ℕ) (xs zs : List A) → list_any p (drop n xs ++ take n xs ++ zs) ≡ list_any p (xs ++ zs)
any_round p n xs zs = any-swap p (drop n xs) (take n xs) zs ∙ ap (λ l. list_any p (l ++ zs)) (take-append-drop n xs)

pub least_round : {A : Type 0} (f : A → Option ℕ) (n : ℕ) (xs zs : List A) → least (filter_map f (drop n xs ++ take n xs ++ zs)) ≡ least (filter_map f (xs ++ zs))
least_round f n xs zs =
    let parts : filter_map f (drop n xs ++ take n xs ++ zs) ≡ filter_map f (drop n xs) ++ filter_map f (take n xs) ++ filter_map f zs =
    filter_map-append f (drop n xs ++ take n xs) zs ∙ ap (λ l. l ++ filter_map f zs) (filter_map-append f (drop n xs) (take n xs)) in
    let whole : filter_map f (take n xs) ++ filter_map f (drop n xs) ++ filter_map f zs ≡ filter_map f (xs ++ zs) =
    ap (λ l. l ++ filter_map f zs) (sym (filter_map-append f (take n xs) (drop n xs)) ∙ ap (filter_map f) (take-append-drop n xs)) ∙ sym (filter_map-append f xs zs) in
    ap least parts ∙ least-swap (filter_map f (drop n xs)) (filter_map f (take n xs)) (filter_map f zs) ∙ ap least whole

-- a test that some element passes finds one, and the other way round
pub any_found : {A : Type 0} (p : A → Bool) (xs : List A) (x : A) → find p xs ≡ Some x → list_any p xs ≡ true
any_found p [] x is = cc is
any_found p (y ∷ xs) x is = go (p y) (λ e. any_found p xs x e) is
  where
    go : (b : Bool) → (find p xs ≡ Some x → list_any p xs ≡ true) → (if b then Some y else find p xs) ≡ Some x → (b || list_any p xs) ≡ true
    go true rest e = refl
    go false rest e = rest e

pub none_found : {A : Type 0} (p : A → Bool) (xs : List A) → find p xs ≡ None → list_any p xs ≡ false
none_found p [] is = refl
none_found p (y ∷ xs) is = go (p y) (λ e. none_found p xs e) is
  where
    go : (b : Bool) → (find p xs ≡ None → list_any p xs ≡ false) → (if b then Some y else find p xs) ≡ None → (b || list_any p xs) ≡ false
    go true rest e = cc e
    go false rest e = rest e

min_either : (m k : ℕ) → (min m k ≡ m) ⊎ (min m k ≡ k)
min_either m k = elim (cases_lt m k) [ inl lt ↦ inl (omega (arith, lt)) | inr le ↦ inr (omega (arith, le)) ]

-- a least number is one of the list
pub least_passes : (P : ℕ → Type 0) {A : Type 0} (f : A → Option ℕ) → ((x : A) (n : ℕ) → f x ≡ Some n → P n) → (xs : List A) (n : ℕ) → least (filter_map f xs) ≡ Some n → P n
least_passes P f each [] n is = cc is
least_passes P {A} f each (x ∷ xs) n is = go (f x) refl (λ m e. least_passes P f each xs m e) is
  where
    two : (m : ℕ) (o : Option ℕ) → P m → ((k : ℕ) → o ≡ Some k → P k) → Some (option_map_or (min m) o m) ≡ Some n → P n
    two m None p rest e = let same : m ≡ n = cc e in subst P same p
    two m (Some k) p rest e =
        let same : min m k ≡ n = cc e in
        let either : (min m k ≡ m) ⊎ (min m k ≡ k) = min_either m k in
        elim either [ inl l ↦ subst P (sym l ∙ same) p | inr r ↦ subst P (sym r ∙ same) (rest k refl) ]

    go : (o : Option ℕ) → f x ≡ o → ((m : ℕ) → least (filter_map f xs) ≡ Some m → P m) → least (cons_option o (filter_map f xs)) ≡ Some n → P n
    go None e rest i = rest n i
    go (Some m) e rest i = two m (least (filter_map f xs)) (each x m e) rest i
