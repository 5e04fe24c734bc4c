-- Lists over ranges of which only some places give anything.
use Rattle.std.proofs.Common.{ℕ, zero, suc, ◌≡◌, ◌+◌, ◌<◌, ◌≤◌, ◌⊎◌, inl, inr, Bool, true, false, ◌++◌, List, [], ◌∷◌, Option, Some, None, nat_eq, if◌then◌else◌, refl, arith}
use Rattle.std.specs.Prelude.{is_some}
use Rattle.std.specs.List.{filter, flat_map, range_with_len}
use Rattle.std.specs.Option.{option_to_list}
use Rattle.std.proofs.lemmas.Bool.{eqb-false}
use Rattle.std.proofs.lemmas.Bool.Decides.{eqb_tells}
use Rattle.std.proofs.lemmas.List.{append-nil}
use Rattle.pm_safety.specs.declared.dependencies.bond.Bond.{Bond}
use Rattle.pm_safety.specs.dependencies.Broken.{newly}

-- off after only where it was off before
pub kept : (before after : Option Bond) → (is_some after ≡ true → is_some before ≡ true) → newly before after ≡ []
kept (Some x) after only = refl
kept None None only = refl
kept None (Some y) only = let k : false ≡ true = only refl in cc

-- not off before
pub fresh : (before after : Option Bond) → is_some before ≡ false → newly before after ≡ option_to_list after
fresh (Some x) after none = cc
fresh None after none = refl

pub nothing : (after : Option Bond) → is_some after ≡ false → option_to_list after ≡ []
nothing (Some x) none = cc
nothing None none = refl

-- no place gives anything
all_empty : {A : Type 0} (f : ℕ → List A) (a n : ℕ) → ((x : ℕ) → x < a + n → f x ≡ []) → flat_map f (range_with_len a n) ≡ []
all_empty f a zero none = refl
all_empty f a (suc n) none = rw (none a (omega arith), all_empty f (a + 1) n (λ x lt. none x (omega arith))) refl

-- the places that pass a test give what another gives
picked : {A : Type 0} (f g : ℕ → List A) (p : ℕ → Bool) (a n : ℕ) → ((x : ℕ) → x < a + n → p x ≡ true → f x ≡ g x) → ((x : ℕ) → x < a + n → p x ≡ false → f x ≡ [])
    → flat_map f (range_with_len a n) ≡ flat_map g (filter p (range_with_len a n))
picked f g p a zero same none = refl
picked {A} f g p a (suc n) same none = go (p a) refl (picked f g p (a + 1) n (λ x lt. same x (omega arith)) (λ x lt. none x (omega arith)))
  where
    go : (b : Bool) → p a ≡ b → flat_map f (range_with_len (a + 1) n) ≡ flat_map g (filter p (range_with_len (a + 1) n))
        → f a ++ flat_map f (range_with_len (a + 1) n) ≡ flat_map g (if b then a ∷ filter p (range_with_len (a + 1) n) else filter p (range_with_len (a + 1) n))
    go true is later = rw (same a (omega arith) is, later) refl
    go false is later = rw (none a (omega arith) is, later) refl

same_or : (x y : ℕ) → (x ≡ y) ⊎ (nat_eq x y ≡ false)
same_or x y = elim (eqb_tells x y) [ inl q ↦ inl q.1 | inr q ↦ inr q.0 ]

pub past : (x d : ℕ) → d < x → nat_eq x d ≡ false
past x d above = elim (same_or x d) [ inl e ↦ absurd (omega arith) | inr e ↦ e ]

all_empty_from : {A : Type 0} (f : ℕ → List A) (a n : ℕ) → ((x : ℕ) → a ≤ x → x < a + n → f x ≡ []) → flat_map f (range_with_len a n) ≡ []
all_empty_from f a zero none = refl
all_empty_from f a (suc n) none = rw (none a (omega arith) (omega arith), all_empty_from f (a + 1) n (λ x le lt. none x (omega arith) (omega arith))) refl

-- one place alone gives something
only_at : {A : Type 0} (f : ℕ → List A) (d a n : ℕ) → a ≤ d → d < a + n → ((x : ℕ) → x < a + n → nat_eq x d ≡ false → f x ≡ []) → flat_map f (range_with_len a n) ≡ f d
only_at f d a zero le lt none = absurd (omega arith)
only_at {A} f d a (suc n) le lt none =
    elim (same_or a d) [
      | inl is ↦ rw (all_empty_from f (a + 1) n (λ x above below. none x (omega arith) (past x d (omega arith))), is) (append-nil (f d))
      | inr other ↦ rw (none a (omega arith) other) (only_at f d (a + 1) n (omega (arith, eqb-false a d other)) (omega arith) (λ x lt. none x (omega arith)))
    ]

-- the same over the first n places
pub none_below : {A : Type 0} (f : ℕ → List A) (n : ℕ) → ((x : ℕ) → x < n → f x ≡ []) → flat_map f (range_with_len 0 n) ≡ []
none_below f n none = all_empty f 0 n (λ x lt. none x (omega arith))

pub picked_below : {A : Type 0} (f g : ℕ → List A) (p : ℕ → Bool) (n : ℕ) → ((x : ℕ) → x < n → p x ≡ true → f x ≡ g x) → ((x : ℕ) → x < n → p x ≡ false → f x ≡ [])
    → flat_map f (range_with_len 0 n) ≡ flat_map g (filter p (range_with_len 0 n))
picked_below f g p n same none = picked f g p 0 n (λ x lt. same x (omega arith)) (λ x lt. none x (omega arith))

pub one_below : {A : Type 0} (f : ℕ → List A) (d n : ℕ) → d < n → ((x : ℕ) → x < n → nat_eq x d ≡ false → f x ≡ []) → flat_map f (range_with_len 0 n) ≡ f d
one_below f d n lt none = only_at f d 0 n (omega arith) (omega arith) (λ x below. none x (omega arith))
