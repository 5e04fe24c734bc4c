-- The callers are those of a plan.
use Rattle.std.proofs.Common.{◌≡◌, ◌≢◌, ℕ, zero, suc, ◌+◌, ◌-◌, ◌/◌, ◌%◌, ◌<◌, ◌≤◌, Bool, true, false, List, [], ◌∷◌, ◌++◌, length, map, nat_eq, filter, le-leb, refl, ap, ◌∙◌, arith, if◌then◌else◌}
use Rattle.std.specs.List.{list_all, range_with_len}
use Rattle.std.specs.Str.{bytes_eq}
use Rattle.std.proofs.Math.Nat.{mod-lt}
use Rattle.std.proofs.lemmas.Bool.{and_from, lt-ltb}
use Rattle.std.proofs.lemmas.Bool.Decides.{nat_tests}
use Rattle.std.proofs.lemmas.List.{append-nil, length-append, length-map, map-append}
use Rattle.std.proofs.lemmas.List.Elements.{filter-append}
use Rattle.std.proofs.lemmas.List.Folds.{list_all-append}
use Rattle.pm_base.specs.declared.limits.TheConstants.{MAX_COMMANDS, MAX_MS}
use Rattle.pm_model.specs.declared.event.Command.{Command}
use Rattle.pm_model.specs.declared.event.Helper.TheVariants as helper
use Rattle.pm_model.specs.IsPlan.{are_distinct, is_caller, is_command}
use Rattle.pm_make.specs.Draws.{draw, in_turn}
use Rattle.pm_make.specs.Generator.{caller, caller_step, command, enables, name, round, round_step}
use Rattle.pm_make.proofs.InTurn.{all_in_turn, length_of_ones, length_of_threes, names_in_turn}
use Rattle.pm_make.proofs.Names.{distinct_named, is_caller_named}

range_more : (a n : ℕ) → range_with_len a (suc n) ≡ range_with_len a n ++ (a + n) ∷ []
range_more a zero = let same : a ≡ a + 0 = omega arith in ap (λ k. k ∷ []) same
range_more a (suc n) =
    let same : a + 1 + n ≡ a + suc n = omega arith in
    ap (λ s. a ∷ s) (range_more (a + 1) n ∙ ap (λ k. range_with_len (a + 1) n ++ k ∷ []) same)

last_of : (j k : ℕ) (b : Bool) → nat_eq (k % 4) j ≡ b → map (λ i. command helper.Enable i 0) (filter (λ i. nat_eq (i % 4) j) (k ∷ [])) ≡ (if b then command helper.Enable k 0 ∷ [] else [])
last_of j k true is = rw is refl
last_of j k false is = rw is refl

enables_next : (i j : ℕ) (b : Bool) → nat_eq (i % 4) j ≡ b → enables (i + 1) j ≡ enables i j ++ (if b then command helper.Enable i 0 ∷ [] else [])
enables_next i j b is =
    let next : i + 1 ≡ suc i = omega arith in
    let here : 0 + i ≡ i = omega arith in
    let p : ℕ → Bool = λ k. nat_eq (k % 4) j in
    let f : ℕ → Command = λ k. command helper.Enable k 0 in
    ap (λ k. enables k j) next
    ∙ ap (λ s. map f (filter p s)) (range_more 0 i ∙ ap (λ k. range_with_len 0 i ++ k ∷ []) here)
    ∙ ap (λ s. map f s) (filter-append p (range_with_len 0 i) (i ∷ []))
    ∙ map-append f (filter p (range_with_len 0 i)) (filter p (i ∷ []))
    ∙ ap (λ s. enables i j ++ s) (last_of j i b is)

-- one device more is enabled, or not
pub enables_more : (i j : ℕ) → i % 4 ≡ j → enables (i + 1) j ≡ enables i j ++ command helper.Enable i 0 ∷ []
enables_more i j is = enables_next i j true (grind (arith, nat_tests))

pub enables_same : (i j : ℕ) → i % 4 ≢ j → enables (i + 1) j ≡ enables i j
enables_same i j differ = enables_next i j false (grind (arith, nat_tests)) ∙ append-nil (enables i j)

enable_ok : (n i : ℕ) → i < n → is_command n (command helper.Enable i 0) ≡ true
enable_ok n i below = and_from _ _ (lt-ltb i n below) refl

enables_if : (b : Bool) (n i : ℕ) (rest : List ℕ) → i < n → list_all (is_command n) (map (λ k. command helper.Enable k 0) rest) ≡ true
    → list_all (is_command n) (map (λ k. command helper.Enable k 0) (if b then i ∷ rest else rest)) ≡ true
enables_if true n i rest below all = and_from _ _ (enable_ok n i below) all
enables_if false n i rest below all = all

enables_from : (n j a k : ℕ) → a + k ≤ n → list_all (is_command n) (map (λ i. command helper.Enable i 0) (filter (λ i. nat_eq (i % 4) j) (range_with_len a k))) ≡ true
enables_from n j a zero within = refl
enables_from n j a (suc k) within = enables_if (nat_eq (a % 4) j) n a (filter (λ i. nat_eq (i % 4) j) (range_with_len (a + 1) k)) (omega arith) (enables_from n j (a + 1) k (omega arith))

-- of four numbers in a row one has the rest j
one_more : (b : Bool) (a j l n : ℕ) (rest : List ℕ) → nat_eq (a % 4) j ≡ b → j + l ≡ 3 → length rest + (a + 1 + l) / 4 ≤ (a + 1 + n + l) / 4
    → length (if b then a ∷ rest else rest) + (a + l) / 4 ≤ (a + suc n + l) / 4
one_more true a j l n rest is sum few = let same : a % 4 ≡ j = grind (arith, nat_tests) in omega arith
one_more false a j l n rest is sum few = omega arith

per_four : (j l a n : ℕ) → j + l ≡ 3 → length (filter (λ i. nat_eq (i % 4) j) (range_with_len a n)) + (a + l) / 4 ≤ (a + n + l) / 4
per_four j l a zero sum = omega arith
per_four j l a (suc n) sum = one_more (nat_eq (a % 4) j) a j l n (filter (λ i. nat_eq (i % 4) j) (range_with_len (a + 1) n)) refl sum (per_four j l (a + 1) n sum)

enables_few : (n j l : ℕ) → j + l ≡ 3 → n ≤ 1024 → length (enables n j) ≤ 256
enables_few n j l sum few =
    omega (arith, length-map (filter (λ i. nat_eq (i % 4) j) (range_with_len 0 n)) (λ i. command helper.Enable i 0), per_four j l 0 n sum)

delay_ok : (n w : ℕ) → w ≤ 10 → is_command n (command helper.Delay 0 w) ≡ true
delay_ok n w few = and_from _ _ refl (and_from _ _ (le-leb 0 w (omega arith)) (le-leb w MAX_MS (omega arith)))

tenth : (a : ℕ) → a % 10 + 1 ≤ 10
tenth a = omega arith

round_ok : (n x : ℕ) → 0 < n → list_all (is_command n) (round n x).item ≡ true
unfolding round
round_ok n x some =
    and_from _ _ (and_from _ _ (lt-ltb (draw n x).item n (mod-lt _ some)) refl)
    (and_from _ _ (delay_ok n ((draw 10 (draw n x).state).item + 1) (tenth _))
    (and_from _ _ (and_from _ _ (lt-ltb (draw n x).item n (mod-lt _ some)) refl) refl))

round_length : (n x : ℕ) → length (round n x).item ≤ 3
unfolding round
round_length n x = omega arith

caller_ok : (n j x : ℕ) → j < 4 → 0 < n → n ≤ 1024 → is_caller n (caller n j x).item ≡ true
unfolding caller
caller_ok n j x below some few =
    let sum : j + (3 - j) ≡ 3 = omega arith in
    let rounds = (in_turn (round_step n) 50 x).item in
    let count : length (enables n j ++ rounds) ≤ 1000 = omega (arith, length-append (enables n j) rounds, enables_few n j (3 - j) sum few, length_of_threes (round_step n) 50 x (λ i y. round_length n y)) in
    and_from _ _ (is_caller_named j below)
    (and_from _ _ (le-leb (length (enables n j ++ rounds)) MAX_COMMANDS count)
    (list_all-append (is_command n) (enables n j) rounds
    ∙ and_from _ _ (enables_from n j 0 n (omega arith)) (all_in_turn (is_command n) (round_step n) 50 x (λ i y below. round_ok n y some))))

pub callers_ok : (n x : ℕ) → 0 < n → n ≤ 1024 → list_all (is_caller n) (in_turn (caller_step n) 4 x).item ≡ true
callers_ok n x some few = all_in_turn (is_caller n) (caller_step n) 4 x (λ j y below. and_from _ _ (caller_ok n j y below some few) refl)

caller_name : (n j x : ℕ) → (caller n j x).item.name ≡ name (99 ∷ []) j
unfolding caller
caller_name n j x = refl

pub callers_distinct : (n m x : ℕ) → m ≤ 1024 → are_distinct bytes_eq (map (λ row. row.name) (in_turn (caller_step n) m x).item) ≡ true
callers_distinct n m x few =
    rw (names_in_turn (λ row. row.name) (name (99 ∷ [])) (caller_step n) (λ j y. (caller n j y).item) m x (λ j y. refl) (λ j y. caller_name n j y)) (distinct_named 99 0 m (omega arith))

pub caller_count : (n x : ℕ) → length (in_turn (caller_step n) 4 x).item ≡ 4
caller_count n x = length_of_ones (caller_step n) 4 x (λ j y. refl)
