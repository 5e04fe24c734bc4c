-- The pieces of a line: names, flags and counts.
use Rattle.std.proofs.Common.{◌≡◌, ℕ, ◌+◌, ◌/◌, ◌%◌, ◌^◌, ◌<◌, ◌≤◌, false, List, [], ◌∷◌, ◌++◌, map, slice_get, slice_index_or, Option, Some, None, option_map, unwrap_or, decimal, nat_lt, if◌then◌else◌, refl, ap, sym, ◌∙◌, arith, length-append}
use Rattle.std.specs.Fmt.{digits, digit_glyph}
use Rattle.std.specs.Option.{option_map_or}
use Rattle.std.proofs.lemmas.Fmt.{decimal_digit, decimal_step, decimal_nonempty, hex_one_digit, hex_two_digits}
use Rattle.std.proofs.lemmas.Grind.{common_steps}
use Rattle.std.proofs.lemmas.Option.{slice_get-map, unwrap_or-slice_get}
use Rattle.pm_model.specs.Spelling.{padded}

mapped : {X : Type 0} (f : X → List ℕ) (o : Option X) → unwrap_or (option_map f o) [] ≡ option_map_or f o []
mapped f None = refl
mapped f (Some x) = refl

-- the name at a place is that of the row there
pub name_here : {X : Type 0} (name : X → List ℕ) (rows : List X) (place : ℕ) → slice_index_or (map name rows) place [] ≡ option_map_or name (slice_get rows place) []
name_here name rows place =
    sym (unwrap_or-slice_get (map name rows) place []) ∙ ap (λ o. unwrap_or o []) (slice_get-map name rows place) ∙ mapped name (slice_get rows place)

-- the digits of flags
pub hex_digits : (n : ℕ) → n < 2 ^ 8 → digits 16 false n ≡ (if nat_lt n 16 then digit_glyph false n ∷ [] else digit_glyph false (n / 16) ∷ digit_glyph false (n % 16) ∷ [])
hex_digits n small = grind (arith, common_steps, hex_one_digit false n, hex_two_digits false n)

-- a count of one digit is padded
pub padded_digit : (n : ℕ) → n < 10 → padded (decimal n) ≡ decimal n ++ 32 ∷ []
padded_digit n small = grind (arith, common_steps, decimal_digit n)

-- and no other
pub padded_digits : (n : ℕ) → 10 ≤ n → n < 2 ^ 32 → padded (decimal n) ≡ decimal n
padded_digits n large small = grind (arith, common_steps, decimal_step n, decimal_nonempty (n / 10), length-append (decimal (n / 10)) ((48 + n % 10) ∷ []))
