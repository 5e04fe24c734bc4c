-- Lists without repeats.
use Rattle.std.proofs.Common.{◌≡◌, ℕ, suc, ◌<◌, ◌≤◌, Bool, true, false, List, [], ◌∷◌, length, get_or, Some, None, nat_lt, if◌then◌else◌, position, refl, arith}
use Rattle.std.proofs.lemmas.Bool.Decides.{nat_tests}
use Rattle.std.proofs.lemmas.List.Sums.{fails_before_first}
use Rattle.std.specs.List.{list_any, position_or_len}
use Rattle.pm_model.specs.IsPlan.{are_distinct}
use Rattle.pm_planread.specs.rows.Names.{is_earlier}

none_passes : {A : Type 0} (p : A → Bool) (xs : List A) → ((j : ℕ) (d : A) → j < length xs → p (get_or xs j d) ≡ false) → list_any p xs ≡ false
none_passes p [] fails = refl
none_passes p (x ∷ xs) fails =
    let here : p x ≡ false = fails 0 x (omega arith) in
    let after : list_any p xs ≡ false = none_passes p xs (λ j d below. fails (suc j) d (omega arith)) in
    rw (here, after) refl

-- no two are the same
pub distinct_by_place : {A : Type 0} (same : A → A → Bool) (xs : List A) → ((i j : ℕ) (d : A) → i < j → j < length xs → same (get_or xs i d) (get_or xs j d) ≡ false) → are_distinct same xs ≡ true
distinct_by_place same [] differ = refl
distinct_by_place same (x ∷ xs) differ =
    let here : list_any (same x) xs ≡ false = none_passes (same x) xs (λ j d below. differ 0 (suc j) d (omega arith) (omega arith)) in
    let after : are_distinct same xs ≡ true = distinct_by_place same xs (λ i j d less below. differ (suc i) (suc j) d (omega arith) (omega arith)) in
    rw (here, after) refl

late : (i n m : ℕ) → is_earlier i (if nat_lt n m then Some n else None) ≡ false → i < m → i ≤ n
late i n m is below = grind (arith, nat_tests)

-- where what passes at a place isn't earlier, nothing before it passes
pub none_before : {A : Type 0} (p : A → Bool) (xs : List A) (i j : ℕ) (d : A) → is_earlier j (position p xs) ≡ false → i < j → j < length xs → p (get_or xs i d) ≡ false
none_before p xs i j d is less below =
    let first : j ≤ position_or_len p xs = late j (position_or_len p xs) (length xs) is below in
    fails_before_first p xs i d (omega arith)
