-- What it says of each item that there is no first fault.
use Rattle.std.proofs.Common.{◌≡◌, ℕ, zero, suc, ◌+◌, ◌<◌, Bool, true, false, ◌&&◌, List, [], ◌∷◌, length, map, get_or, Option, Some, None, refl, ap, arith}
use Rattle.std.proofs.lemmas.Bool.{and_from, and_parts}
use Rattle.std.specs.List.{list_all}
use Rattle.std.specs.Option.{option_or}
use Rattle.pm_model.specs.IsPlan.{each_at}
use Rattle.pm_planread.specs.tree.Places.{first_fault}
use Rattle.pm_planread.specs.declared.tree.place.Place.{Place}
use Rattle.pm_planread.specs.declared.tree.place.Section.{Section}
use Rattle.pm_planread.specs.rows.Faults.{fault_if}

-- neither is there
pub neither : {A : Type 0} (a b : Option A) → option_or a b ≡ None → (a ≡ None) × (b ≡ None)
neither None b none = (refl, none)
neither (Some x) b none = cc

pub right : (section : Section) (i : ℕ) (wrong : Bool) → fault_if section i wrong ≡ None → wrong ≡ false
right section i false none = refl
right section i true none = cc

-- an item without a fault passes
pub each_of : {A : Type 0} (f : ℕ → A → Option Place) (p : ℕ → A → Bool) → ((i : ℕ) (x : A) → f i x ≡ None → p i x ≡ true) → (i : ℕ) (xs : List A) → first_fault f i xs ≡ None → each_at p i xs ≡ true
each_of f p passes i [] none = refl
each_of f p passes i (x ∷ xs) none =
    let (here, after) = neither (f i x) (first_fault f (i + 1) xs) none in
    and_from (p i x) (each_at p (i + 1) xs) (passes i x here) (each_of f p passes (i + 1) xs after)

pub each_both : {A : Type 0} (p q r : ℕ → A → Bool) → ((i : ℕ) (x : A) → p i x ≡ true → q i x ≡ true → r i x ≡ true) → (i : ℕ) (xs : List A) → each_at p i xs ≡ true → each_at q i xs ≡ true → each_at r i xs ≡ true
each_both p q r both i [] first second = refl
each_both p q r both i (x ∷ xs) first second =
    let (p_here, p_after) = and_parts (p i x) (each_at p (i + 1) xs) first in
    let (q_here, q_after) = and_parts (q i x) (each_at q (i + 1) xs) second in
    and_from (r i x) (each_at r (i + 1) xs) (both i x p_here q_here) (each_both p q r both (i + 1) xs p_after q_after)

pub each_map : {A B : Type 0} (g : A → B) (p : ℕ → B → Bool) (i : ℕ) (xs : List A) → each_at p i (map g xs) ≡ each_at (λ j x. p j (g x)) i xs
each_map g p i [] = refl
each_map g p i (x ∷ xs) = ap (λ rest. p i (g x) && rest) (each_map g p (i + 1) xs)

pub each_all : {A : Type 0} (p : A → Bool) (i : ℕ) (xs : List A) → each_at (λ j x. p x) i xs ≡ list_all p xs
each_all p i [] = refl
each_all p i (x ∷ xs) = ap (λ rest. p x && rest) (each_all p (i + 1) xs)

pub fault_map : {A B : Type 0} (g : A → B) (f : ℕ → B → Option Place) (i : ℕ) (xs : List A) → first_fault f i (map g xs) ≡ first_fault (λ j x. f j (g x)) i xs
fault_map g f i [] = refl
fault_map g f i (x ∷ xs) = ap (λ rest. option_or (f i (g x)) rest) (fault_map g f (i + 1) xs)

pub fault_same : {A : Type 0} (f h : ℕ → A → Option Place) → ((i : ℕ) (x : A) → f i x ≡ h i x) → (i : ℕ) (xs : List A) → first_fault f i xs ≡ first_fault h i xs
fault_same f h same i [] = refl
fault_same f h same i (x ∷ xs) = cc (same i x, fault_same f h same (i + 1) xs)

-- the item at a place has no fault
pub none_at : {A : Type 0} (f : ℕ → A → Option Place) (i : ℕ) (xs : List A) (k j : ℕ) (d : A) → first_fault f i xs ≡ None → k < length xs → j ≡ i + k → f j (get_or xs k d) ≡ None
none_at f i [] k j d none below is = absurd (omega arith)
none_at f i (x ∷ xs) zero j d none below is =
    let same : j ≡ i = omega arith in
    rw same ((neither (f i x) (first_fault f (i + 1) xs) none).0)
none_at f i (x ∷ xs) (suc k) j d none below is =
    none_at f (i + 1) xs k j d ((neither (f i x) (first_fault f (i + 1) xs) none).1) (omega arith) (omega arith)
