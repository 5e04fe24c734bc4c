-- What is made in turn.
use Rattle.std.proofs.Common.{◌≡◌, ℕ, zero, suc, ◌+◌, ◌*◌, ◌<◌, ◌≤◌, Bool, true, List, [], ◌∷◌, ◌++◌, length, map, refl, sym, ap, ◌∙◌, arith}
use Rattle.std.specs.List.{list_all, range_with_len}
use Rattle.std.proofs.lemmas.Bool.{and_from, and_parts}
use Rattle.std.proofs.lemmas.List.{length-append, map-append}
use Rattle.std.proofs.lemmas.List.Folds.{list_all-append}
use Rattle.std.proofs.lemmas.List.FromFn.{map-range_with_len_more}
use mathlib.Core.List.{append_assoc}
use Rattle.pm_model.specs.IsPlan.{each_at}
use Rattle.pm_make.specs.Draws.{Drawn, in_turn}

-- one step more
pub map_more : {A : Type 0} (f : ℕ → A) (i : ℕ) → map f (range_with_len 0 (i + 1)) ≡ map f (range_with_len 0 i) ++ f i ∷ []
map_more f i = map-range_with_len_more f 0 i i (omega arith)

pub item_more : {A : Type 0} (step : ℕ → ℕ → Drawn (List A)) (i x : ℕ) → (in_turn step (i + 1) x).item ≡ (in_turn step i x).item ++ (step i (in_turn step i x).state).item
item_more step i x = let next : i + 1 ≡ suc i = omega arith in rw next refl

pub state_more : {A : Type 0} (step : ℕ → ℕ → Drawn (List A)) (i x : ℕ) → (in_turn step (i + 1) x).state ≡ (step i (in_turn step i x).state).state
state_more step i x = let next : i + 1 ≡ suc i = omega arith in rw next refl

pub behind_more : {A : Type 0} (step : ℕ → ℕ → Drawn (List A)) (i x : ℕ) (xs : List A) → (xs ++ (in_turn step i x).item) ++ (step i (in_turn step i x).state).item ≡ xs ++ (in_turn step (i + 1) x).item
behind_more step i x xs = append_assoc xs (in_turn step i x).item (step i (in_turn step i x).state).item ∙ ap (λ s. xs ++ s) (sym (item_more step i x))

pub all_in_turn : {A : Type 0} (p : A → Bool) (step : ℕ → ℕ → Drawn (List A)) (n x : ℕ) → ((i y : ℕ) → i < n → list_all p (step i y).item ≡ true) → list_all p (in_turn step n x).item ≡ true
all_in_turn p step zero x each = refl
all_in_turn p step (suc i) x each =
    list_all-append p (in_turn step i x).item (step i (in_turn step i x).state).item
    ∙ and_from _ _ (all_in_turn p step i x (λ j y below. each j y (omega arith))) (each i (in_turn step i x).state (omega arith))

pub length_at_most : {A : Type 0} (step : ℕ → ℕ → Drawn (List A)) (n x : ℕ) → ((i y : ℕ) → length (step i y).item ≤ 1) → length (in_turn step n x).item ≤ n
length_at_most step zero x each = omega arith
length_at_most step (suc i) x each =
    omega (arith, length-append (in_turn step i x).item (step i (in_turn step i x).state).item, length_at_most step i x each, each i (in_turn step i x).state)

pub length_of_threes : {A : Type 0} (step : ℕ → ℕ → Drawn (List A)) (n x : ℕ) → ((i y : ℕ) → length (step i y).item ≤ 3) → length (in_turn step n x).item ≤ 3 * n
length_of_threes step zero x each = omega arith
length_of_threes step (suc i) x each =
    omega (arith, length-append (in_turn step i x).item (step i (in_turn step i x).state).item, length_of_threes step i x each, each i (in_turn step i x).state)

pub length_of_ones : {A : Type 0} (step : ℕ → ℕ → Drawn (List A)) (n x : ℕ) → ((i y : ℕ) → length (step i y).item ≡ 1) → length (in_turn step n x).item ≡ n
length_of_ones step zero x each = refl
length_of_ones step (suc i) x each =
    omega (arith, length-append (in_turn step i x).item (step i (in_turn step i x).state).item, length_of_ones step i x each, each i (in_turn step i x).state)

each_more : {A : Type 0} (test : ℕ → A → Bool) (a k : ℕ) (xs : List A) (y : A) → k ≡ a + length xs → each_at test a xs ≡ true → test k y ≡ true → each_at test a (xs ++ y ∷ []) ≡ true
each_more test a k [] y is all here = let e : a ≡ k = omega arith in rw e (and_from (test k y) true here refl)
each_more test a k (x ∷ xs) y is all here =
    let (first, rest) = and_parts (test a x) (each_at test (a + 1) xs) all in
    and_from (test a x) (each_at test (a + 1) (xs ++ y ∷ [])) first (each_more test (a + 1) k xs y (omega arith) rest here)

-- where each step makes one row, row i passes the test of i
pub each_in_turn : {A : Type 0} (test : ℕ → A → Bool) (step : ℕ → ℕ → Drawn (List A)) (row : ℕ → ℕ → A) (n x : ℕ) → ((i y : ℕ) → (step i y).item ≡ row i y ∷ [])
    → ((i y : ℕ) → i < n → test i (row i y) ≡ true) → each_at test 0 (in_turn step n x).item ≡ true
each_in_turn test step row zero x one holds = refl
each_in_turn test step row (suc i) x one holds =
    let y = (in_turn step i x).state in
    let count : length (in_turn step i x).item ≡ i = length_of_ones step i x (λ j z. ap length (one j z)) in
    rw (one i y) (each_more test 0 i (in_turn step i x).item (row i y) (omega arith) (each_in_turn test step row i x one (λ j z below. holds j z (omega arith))) (holds i y (omega arith)))

-- where each step makes one row, the rows have the names of the steps
pub names_in_turn : {A : Type 0} (name_of : A → List ℕ) (named : ℕ → List ℕ) (step : ℕ → ℕ → Drawn (List A)) (row : ℕ → ℕ → A) (n x : ℕ) → ((i y : ℕ) → (step i y).item ≡ row i y ∷ [])
    → ((i y : ℕ) → name_of (row i y) ≡ named i) → map name_of (in_turn step n x).item ≡ map named (range_with_len 0 n)
names_in_turn name_of named step row zero x one holds = refl
names_in_turn name_of named step row (suc i) x one holds =
    let y = (in_turn step i x).state in
    let next : i + 1 ≡ suc i = omega arith in
    let last : map name_of (step i y).item ≡ named i ∷ [] = ap (map name_of) (one i y) ∙ ap (λ s. s ∷ []) (holds i y) in
    map-append name_of (in_turn step i x).item (step i y).item
    ∙ ap (λ s. s ++ map name_of (step i y).item) (names_in_turn name_of named step row i x one holds)
    ∙ ap (λ s. map named (range_with_len 0 i) ++ s) last
    ∙ sym (map-range_with_len_more named 0 i i (omega arith))
    ∙ ap (λ k. map named (range_with_len 0 k)) next
