-- Where a text is split: at the first byte that passes a test.
use Rattle.std.proofs.Common.{◌≡◌, ℕ, ◌+◌, ◌<◌, ◌≤◌, Bool, true, false, cond, not, List, [], ◌∷◌, length, take, drop, Some, None, refl, ap, ◌∙◌, sym, arith, nat_lt}
use Rattle.std.specs.List.{after_first, before_first, position, position_or_len}
use Rattle.std.proofs.lemmas.Grind.{common_steps}
use Rattle.std.proofs.lemmas.Bool.Decides.{nat_tests}
use Rattle.std.proofs.lemmas.List.{drop_all, take_all}
use Rattle.std.proofs.lemmas.List.Sums.{prefix_len-le-length}
use Rattle.pm_outcomes.specs.kernel_log.Lines.{is_newline, lines_of, onto_first}

some_place : (n len i : ℕ) → cond (nat_lt n len) (Some n) None ≡ Some i → (n ≡ i) × (n < len)
some_place n len i is = grind (arith, nat_tests)

no_place : (n len : ℕ) → n ≤ len → cond (nat_lt n len) (Some n) None ≡ None → n ≡ len
no_place n len most is = grind (arith, nat_tests)

pub place_is : (p : ℕ → Bool) (xs : List ℕ) (i : ℕ) → position p xs ≡ Some i → (position_or_len p xs ≡ i) × (position_or_len p xs < length xs)
place_is p xs i is = some_place (position_or_len p xs) (length xs) i is

pub no_place_is : (p : ℕ → Bool) (xs : List ℕ) → position p xs ≡ None → position_or_len p xs ≡ length xs
no_place_is p xs is = no_place (position_or_len p xs) (length xs) (prefix_len-le-length (λ x. not (p x)) xs) is

pub whole_before : (p : ℕ → Bool) (xs : List ℕ) → position_or_len p xs ≡ length xs → xs ≡ before_first p xs
whole_before p xs is = sym (ap (λ n. take n xs) is ∙ take_all (length xs) xs (omega arith))

taken : (n b : ℕ) (text : List ℕ) → take (1 + n) (b ∷ text) ≡ b ∷ take n text
taken n b text = grind (arith, common_steps)

dropped : (n b : ℕ) (text : List ℕ) → drop (1 + n + 1) (b ∷ text) ≡ drop (n + 1) text
dropped n b text = grind (arith, common_steps)

-- the first line, and the others
first_from : (b : ℕ) (text : List ℕ) (t : Bool) → is_newline b ≡ t
    → (position_or_len is_newline text < length text → lines_of text ≡ before_first is_newline text ∷ lines_of (after_first is_newline text))
    → position_or_len is_newline (b ∷ text) < length (b ∷ text) → lines_of (b ∷ text) ≡ before_first is_newline (b ∷ text) ∷ lines_of (after_first is_newline (b ∷ text))
unfolding lines_of
first_from b text true is others less = rw is refl
first_from b text false is others less =
    let n = position_or_len is_newline text in
    rw is (ap (onto_first b) (others (grind (arith, common_steps)))
    ∙ (ap (λ l. l ∷ lines_of (drop (n + 1) text)) (sym (taken n b text)) ∙ ap (λ l. take (1 + n) (b ∷ text) ∷ lines_of l) (sym (dropped n b text))))

pub first_line : (text : List ℕ) → position_or_len is_newline text < length text → lines_of text ≡ before_first is_newline text ∷ lines_of (after_first is_newline text)
first_line [] less = absurd (grind (arith))
first_line (b ∷ text) less = first_from b text (is_newline b) refl (first_line text) less

only_from : (b : ℕ) (text : List ℕ) (t : Bool) → is_newline b ≡ t → (position_or_len is_newline text ≡ length text → lines_of text ≡ text ∷ [])
    → position_or_len is_newline (b ∷ text) ≡ length (b ∷ text) → lines_of (b ∷ text) ≡ (b ∷ text) ∷ []
unfolding lines_of
only_from b text true is others same = absurd (grind (arith, common_steps))
only_from b text false is others same = rw is (ap (onto_first b) (others (grind (arith, common_steps))))

pub only_line : (text : List ℕ) → position_or_len is_newline text ≡ length text → lines_of text ≡ text ∷ []
unfolding lines_of
only_line [] same = refl
only_line (b ∷ text) same = only_from b text (is_newline b) refl (only_line text) same

pub nothing_behind : (p : ℕ → Bool) (xs : List ℕ) → position_or_len p xs ≡ length xs → [] ≡ after_first p xs
nothing_behind p xs is = sym (ap (λ n. drop (n + 1) xs) is ∙ drop_all (length xs + 1) xs (omega arith))
