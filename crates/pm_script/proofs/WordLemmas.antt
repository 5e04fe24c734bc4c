-- What cutting at a space makes of the words.
use Rattle.std.proofs.Common.{◌≡◌, ℕ, ◌+◌, ◌<◌, ◌≤◌, List, [], ◌∷◌, length, take, drop, filter, Some, None, position, slice_get, refl, add-one, zero, suc, sym, ap, ◌∙◌, arith}
use Rattle.std.specs.List.{slice_split, position_or_len}
use Rattle.std.proofs.lemmas.Bool.Decides.{nat_tests}
use Rattle.std.proofs.lemmas.Option.{slice_get_past}
use Rattle.std.proofs.lemmas.List.Splits.{slice_split_first, slice_split_none}
use Rattle.std.proofs.lemmas.List.Sums.{fails_before_first}
use Rattle.pm_script.specs.Words.{is_space, is_word, words_of}

drop_suc : (bytes : List ℕ) (at : ℕ) → drop (suc at) bytes ≡ drop 1 (drop at bytes)
drop_suc bytes zero = refl
drop_suc [] (suc at) = refl
drop_suc (c ∷ bytes) (suc at) = drop_suc bytes at

drop_behind : (bytes : List ℕ) (at : ℕ) → drop (at + 1) bytes ≡ drop 1 (drop at bytes)
drop_behind bytes at = rw add-one (drop_suc bytes at)

pub split_at_space : (bytes : List ℕ) (at : ℕ) → position is_space bytes ≡ Some at → filter is_word (slice_split is_space bytes) ≡ filter is_word (take at bytes ∷ slice_split is_space (drop 1 (drop at bytes)))
split_at_space bytes at is =
    let below : position_or_len is_space bytes < length bytes = grind (arith, nat_tests, is) in
    let same : position_or_len is_space bytes ≡ at = grind (arith, nat_tests, is) in
    let parts : slice_split is_space bytes ≡ take at bytes ∷ slice_split is_space (drop 1 (drop at bytes)) = cc (slice_split_first is_space bytes 0 below, ap (λ n. take n bytes) same, ap (λ n. drop (n + 1) bytes) same, drop_behind bytes at) in
    rw parts refl

pub split_without_space : (bytes : List ℕ) → position is_space bytes ≡ None → filter is_word (slice_split is_space bytes) ≡ filter is_word (bytes ∷ slice_split is_space [])
split_without_space bytes is =
    let all : length bytes ≤ position_or_len is_space bytes = grind (arith, nat_tests, is) in
    ap (filter is_word) (slice_split_none is_space bytes (λ k d below. fails_before_first is_space bytes k d (omega arith)))

-- a part that isn't empty is the first word
pub first_word : (bytes part behind : List ℕ) → words_of bytes ≡ filter is_word (part ∷ slice_split is_space behind) → 0 < length part → words_of bytes ≡ part ∷ words_of behind
first_word bytes [] behind is some = absurd (omega arith)
first_word bytes (c ∷ part) behind is some = is

-- an empty part is no word
pub no_word : (bytes part behind : List ℕ) → words_of bytes ≡ filter is_word (part ∷ slice_split is_space behind) → length part ≡ 0 → words_of bytes ≡ words_of behind
no_word bytes [] behind is none = is
no_word bytes (c ∷ part) behind is none = absurd (omega arith)

-- the words behind the first one
behind_first : (words : List (List ℕ)) (i : ℕ) → slice_get (drop 1 words) i ≡ slice_get words (suc i)
behind_first [] i = slice_get_past [] i (omega arith) ∙ sym (slice_get_past [] (suc i) (omega arith))
behind_first (word ∷ words) i = refl

pub second_word : (words behind : List (List ℕ)) → behind ≡ drop 1 words → slice_get behind 0 ≡ slice_get words 1
second_word words behind is = rw is (behind_first words 0)

pub third_word : (words behind last : List (List ℕ)) → behind ≡ drop 1 words → last ≡ drop 1 behind → slice_get last 0 ≡ slice_get words 2
third_word words behind last is more = second_word behind last more ∙ rw is (behind_first words 1)

pub fourth_word : (words behind next last : List (List ℕ)) → behind ≡ drop 1 words → next ≡ drop 1 behind → last ≡ drop 1 next → slice_get last 0 ≡ slice_get words 3
fourth_word words behind next last is more most = third_word behind next last more most ∙ rw is (behind_first words 2)
