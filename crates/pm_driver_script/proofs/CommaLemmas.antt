-- What cutting at a comma makes of the parts.
use Rattle.std.proofs.Common.{◌≡◌, ℕ, ◌+◌, ◌<◌, ◌≤◌, List, [], ◌∷◌, length, take, drop, Some, None, position, refl, add-one, zero, suc, ap, arith}
use Rattle.std.specs.List.{slice_split, position_or_len}
use Rattle.std.proofs.lemmas.Bool.Decides.{nat_tests}
use Rattle.std.proofs.lemmas.List.Splits.{slice_split_first, slice_split_none}
use Rattle.std.proofs.lemmas.List.Sums.{fails_before_first}
use Rattle.pm_driver_script.specs.Marks.{is_comma}

drop_suc : (bytes : List ℕ) (at : ℕ) → drop (suc at) bytes ≡ drop 1 (drop at bytes)
drop_suc bytes zero = refl
drop_suc [] (suc at) = refl
drop_suc (c ∷ bytes) (suc at) = drop_suc bytes at

drop_behind : (bytes : List ℕ) (at : ℕ) → drop (at + 1) bytes ≡ drop 1 (drop at bytes)
drop_behind bytes at = rw add-one (drop_suc bytes at)

pub split_at_comma : (bytes : List ℕ) (at : ℕ) → position is_comma bytes ≡ Some at → slice_split is_comma bytes ≡ take at bytes ∷ slice_split is_comma (drop 1 (drop at bytes))
split_at_comma bytes at is =
    let below : position_or_len is_comma bytes < length bytes = grind (arith, nat_tests, is) in
    let same : position_or_len is_comma bytes ≡ at = grind (arith, nat_tests, is) in
    cc (slice_split_first is_comma bytes 0 below, ap (λ n. take n bytes) same, ap (λ n. drop (n + 1) bytes) same, drop_behind bytes at)

pub split_without_comma : (bytes : List ℕ) → position is_comma bytes ≡ None → slice_split is_comma bytes ≡ bytes ∷ []
split_without_comma bytes is =
    let all : length bytes ≤ position_or_len is_comma bytes = grind (arith, nat_tests, is) in
    slice_split_none is_comma bytes (λ k d below. fails_before_first is_comma bytes k d (omega arith))
