-- When receipts and calls agree, place by place.
use Rattle.std.proofs.Common.{ℕ, zero, suc, ◌≡◌, ◌≢◌, ◌+◌, ◌-◌, ◌<◌, ◌≤◌, ◌⊎◌, ◌∙◌, ◌++◌, List, [], ◌∷◌, Option, Some, None, IfNone, length, max, slice_get, ap, arith, inl, inr, refl, subst, sym}
use Rattle.pm_desk.specs.declared.pass.Receipt.{Receipt}
use Rattle.pm_desk.specs.declared.pass.Stop.{Stop}
use Rattle.pm_desk.specs.Agreeing.{Agrees, AgreesBy, AreSameBelow, BeginsWith, compared}
use Rattle.pm_desk.specs.Slips.{Slip, kept_by, stopped_of}

-- lists that are the same at all places of either
same_all : (kept found : List Receipt) (n : ℕ) → length kept ≤ n → length found ≤ n → AreSameBelow kept found n → kept ≡ found
same_all [] [] n few less same = refl
same_all [] (y ∷ found) n few less same = cc (same 0 (omega (arith, less)))
same_all (x ∷ kept) [] n few less same = cc (same 0 (omega (arith, few)))
same_all (x ∷ kept) (y ∷ found) n few less same =
    let one : Some x ≡ Some y = same 0 (omega (arith, few)) in
    let head : x ≡ y = cc one in
    let rest = same_all kept found (n - 1) (omega (arith, few)) (omega (arith, less)) (λ i below. same (suc i) (omega (arith, below))) in
    ap (λ a. a ∷ kept) head ∙ ap (λ l. y ∷ l) rest

-- and at all places of the first
begins : (kept found : List Receipt) → AreSameBelow kept found (length kept) → BeginsWith kept found
begins [] found same = (found, refl)
begins (x ∷ kept) [] same = cc (same 0 (omega arith))
begins (x ∷ kept) (y ∷ found) same =
    let one : Some x ≡ Some y = same 0 (omega arith) in
    let head : x ≡ y = cc one in
    let rest = begins kept found (λ i below. same (suc i) (omega (arith, below))) in
    (rest.0, ap (λ a. a ∷ found) (sym head) ∙ ap (λ l. x ∷ l) rest.1)

front : (kept rest : List Receipt) (i : ℕ) → i < length kept → slice_get kept i ≡ slice_get (kept ++ rest) i
front [] rest i below = absurd (omega (arith, below))
front (x ∷ kept) rest zero below = refl
front (x ∷ kept) rest (suc i) below = front kept rest i (omega (arith, below))

begins_same : (kept found : List Receipt) → BeginsWith kept found → AreSameBelow kept found (length kept)
begins_same kept found (rest, is) i below = subst (λ l. slice_get kept i ≡ slice_get l i) (sym is) (front kept rest i below)

-- no place further than one past the end of the second differs first
pub place_within : (kept found : List Receipt) (place : ℕ) → AreSameBelow kept found place → slice_get kept place ≢ slice_get found place → place ≤ length found
place_within kept found zero before differs = omega arith
place_within [] [] (suc n) before differs = absurd (differs refl)
place_within (x ∷ kept) [] (suc n) before differs = cc (before 0 (omega arith))
place_within [] (y ∷ found) (suc n) before differs = cc (before 0 (omega arith))
place_within (x ∷ kept) (y ∷ found) (suc n) before differs =
    let shorter = place_within kept found n (λ i below. before (suc i) (omega (arith, below))) differs in omega (arith, shorter)

-- by whether a call of the pass was stopped
agrees_slip : (slip : Slip) (found : List Receipt) (s : Option Stop) → AreSameBelow slip.receipts found (compared s (length slip.receipts) (length found)) → AgreesBy s slip.receipts found
agrees_slip slip found (Some why) same = begins slip.receipts found same
agrees_slip slip found None same = same_all slip.receipts found (max (length slip.receipts) (length found)) (omega arith) (omega arith) same

pub agrees_by : (o : Option Slip) (found : List Receipt) → AreSameBelow (kept_by o) found (compared (stopped_of o) (length (kept_by o)) (length found)) → Agrees o found
agrees_by None found same = same_all [] found (max 0 (length found)) (omega arith) (omega arith) same
agrees_by (Some slip) found same = agrees_slip slip found slip.stopped same

differs_slip : (slip : Slip) (found : List Receipt) (s : Option Stop) (place : ℕ) → place < compared s (length slip.receipts) (length found)
    → slice_get slip.receipts place ≢ slice_get found place → ¬ AgreesBy s slip.receipts found
differs_slip slip found (Some why) place below differs agrees = differs (begins_same slip.receipts found agrees place below)
differs_slip slip found None place below differs agrees = differs (ap (λ l. slice_get l place) agrees)

pub differs_by : (o : Option Slip) (found : List Receipt) (place : ℕ) → place < compared (stopped_of o) (length (kept_by o)) (length found)
    → slice_get (kept_by o) place ≢ slice_get found place → ¬ Agrees o found
differs_by None found place below differs agrees = differs (ap (λ l. slice_get l place) agrees)
differs_by (Some slip) found place below differs agrees = differs_slip slip found slip.stopped place below differs agrees

-- one place more, one caller more
at_most : (c n : ℕ) → c < n + 1 → (c < n) ⊎ (c ≡ n)
at_most zero zero below = inr refl
at_most zero (suc n) below = inl (omega arith)
at_most (suc c) zero below = absurd (omega (arith, below))
at_most (suc c) (suc n) below = elim (at_most c n (omega (arith, below))) [ inl less ↦ inl (omega (arith, less)) | inr same ↦ inr (ap suc same) ]

pub all_more : (P : ℕ → Type 0) (n : ℕ) → ((c : ℕ) → c < n → P c) → P n → (c : ℕ) → c < n + 1 → P c
all_more P n each one c below = elim (at_most c n below) [ inl less ↦ each c less | inr same ↦ subst P (sym same) one ]

pub if_none : {A : Type 0} (o : Option A) (P : Type 0) → P → IfNone o P
if_none None P p = p
if_none (Some x) P p = tt
