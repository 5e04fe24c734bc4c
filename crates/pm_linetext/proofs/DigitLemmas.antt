-- The value of 1 to 20 decimal digits, as far as they are read.
use Rattle.std.proofs.Common.{◌≡◌, ℕ, ◌+◌, ◌-◌, ◌*◌, ◌^◌, ◌<◌, ◌≤◌, true, List, length, take, get_or, refl, ap, ◌∙◌, arith}
use Rattle.std.specs.Char.{is_ascii_digit, digit_value}
use Rattle.std.specs.List.{list_all}
use Rattle.std.specs.Str.Parse.{digits_value}
use Rattle.std.specs.Int.{IsInRange}
use Rattle.std.proofs.lemmas.Bool.{and_parts}
use Rattle.std.proofs.lemmas.Bool.Decides.{nat_tests}
use Rattle.std.proofs.lemmas.Int.Digits.{digits_value_more}
use Rattle.std.proofs.lemmas.Str.Parse.{IsDigitsTest, IsNumeralModel, numerals_by_value, digits_value_short, digits_value-take-le, digit_at}
use Rattle.pm_linetext.specs.Digits.{are_digits}

tells_digits : IsDigitsTest (λ text. list_all is_ascii_digit text ≡ true)
tells_digits = record {
  empty = refl;
  parts = λ c text are. grind (arith, nat_tests);
  more = λ c text is are. grind (arith, nat_tests);
}

numerals : IsNumeralModel (λ text. list_all is_ascii_digit text ≡ true) (digits_value 10)
numerals = numerals_by_value (λ text. list_all is_ascii_digit text ≡ true) tells_digits

-- the parts of the test
has_count : (most : ℕ) (text : List ℕ) → are_digits most text ≡ true → length text ≤ most
has_count most text are = grind (arith, nat_tests)

has_digits : (most : ℕ) (text : List ℕ) → are_digits most text ≡ true → list_all is_ascii_digit text ≡ true
has_digits most text are = (and_parts _ _ are).1

-- fewer digits pass the test of more
pub fewer : (most : ℕ) (text : List ℕ) → are_digits most text ≡ true → most ≤ 20 → are_digits 20 text ≡ true
fewer most text are few = grind (arith, nat_tests)

-- and have a small value
pub value_short : (most : ℕ) (text : List ℕ) → are_digits most text ≡ true → digits_value 10 text < 10 ^ most
value_short most text are = digits_value_short numerals text most (has_digits most text are) (has_count most text are)

value_of_digit : (c : ℕ) → IsInRange 48 57 c → digit_value c ≡ c - 48
value_of_digit c is = grind (arith, nat_tests)

-- each byte of the text is a digit
pub digit_there : (text : List ℕ) (i : ℕ) → are_digits 20 text ≡ true → i < length text → (48 ≤ get_or text i 0) × (get_or text i 0 ≤ 57)
digit_there text i are below = digit_at text i (numerals.to text (has_digits 20 text are)) below

pub value_small : (text : List ℕ) (i : ℕ) → are_digits 20 text ≡ true → digits_value 10 (take i text) < 10 ^ 20
value_small text i are =
    let less = digits_value-take-le 10 text i (omega arith) in
    let small = value_short 20 text are in
    omega (arith, less, small)

-- one more digit
pub value_more : (text : List ℕ) (i : ℕ) → are_digits 20 text ≡ true → i < length text → digits_value 10 (take (i + 1) text) ≡ digits_value 10 (take i text) * 10 + (get_or text i 0 - 48)
value_more text i are below =
    digits_value_more 10 text i below ∙ ap (λ d. digits_value 10 (take i text) * 10 + d) (value_of_digit (get_or text i 0) (digit_there text i are below))
