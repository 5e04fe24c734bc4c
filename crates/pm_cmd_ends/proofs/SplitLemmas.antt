-- Where words are split: at the first that passes a test of its bytes.
use Rattle.std.proofs.Common.{◌≡◌, ℕ, ◌+◌, ◌<◌, ◌≤◌, ◌||◌, Bool, true, false, cond, not, List, [], ◌∷◌, length, map, take, drop, Option, Some, None, refl, ap, ◌∙◌, sym, ◌++◌, append_assoc, option_map, arith, nat_lt}
use Rattle.std.specs.List.{after_first, before_first, list_any, position, position_or_len, prefix_len}
use Rattle.std.specs.Prelude.{slice_get, string_bytes}
use Rattle.pm_cmd_ends.specs.Words.{is_option}
use Rattle.std.specs.declared.string.String.{String}
use Rattle.std.proofs.lemmas.Bool.Decides.{nat_tests}
use Rattle.std.proofs.lemmas.List.{take-map, drop-map, take_all, drop_all, length-map, map-append}
use Rattle.std.proofs.lemmas.Option.{slice_get-map}
use Rattle.std.proofs.lemmas.List.Sums.{prefix_len-le-length}

prefix_len-map : {X Y : Type 0} (p : Y → Bool) (f : X → Y) (xs : List X) → prefix_len p (map f xs) ≡ prefix_len (λ x. p (f x)) xs
prefix_len-map p f [] = refl
prefix_len-map p f (x ∷ xs) = ap (λ n. cond (p (f x)) (1 + n) 0) (prefix_len-map p f xs)

-- the first place in the bytes is that in the words
place-map : {X Y : Type 0} (p : Y → Bool) (f : X → Y) (xs : List X) → position_or_len p (map f xs) ≡ position_or_len (λ x. p (f x)) xs
place-map p f xs = prefix_len-map (λ y. not (p y)) f xs

some_place : (n len i : ℕ) → cond (nat_lt n len) (Some n) None ≡ Some i → n ≡ i
some_place n len i is = grind (arith, nat_tests)

no_place : (n len : ℕ) → n ≤ len → cond (nat_lt n len) (Some n) None ≡ None → n ≡ len
no_place n len most is = grind (arith, nat_tests)

pub place_is : {X Y : Type 0} (p : Y → Bool) (f : X → Y) (xs : List X) (i : ℕ) → position (λ x. p (f x)) xs ≡ Some i → position_or_len p (map f xs) ≡ i
place_is p f xs i is = place-map p f xs ∙ some_place (position_or_len (λ x. p (f x)) xs) (length xs) i is

pub no_place_is : {X Y : Type 0} (p : Y → Bool) (f : X → Y) (xs : List X) → position (λ x. p (f x)) xs ≡ None → position_or_len p (map f xs) ≡ length (map f xs)
no_place_is p f xs is =
    place-map p f xs ∙ no_place (position_or_len (λ x. p (f x)) xs) (length xs) (prefix_len-le-length (λ x. not (p (f x))) xs) is ∙ sym (length-map xs f)

pub before_some : {X Y : Type 0} (p : Y → Bool) (f : X → Y) (xs : List X) (i : ℕ) → position (λ x. p (f x)) xs ≡ Some i → map f (take i xs) ≡ before_first p (map f xs)
before_some p f xs i is = sym (take-map f i xs) ∙ ap (λ n. take n (map f xs)) (sym (place_is p f xs i is))

pub from_some : {X Y : Type 0} (p : Y → Bool) (f : X → Y) (xs : List X) (i : ℕ) → position (λ x. p (f x)) xs ≡ Some i → map f (drop i xs) ≡ drop (position_or_len p (map f xs)) (map f xs)
from_some p f xs i is = sym (drop-map f i xs) ∙ ap (λ n. drop n (map f xs)) (sym (place_is p f xs i is))

pub behind_some : {X Y : Type 0} (p : Y → Bool) (f : X → Y) (xs : List X) (i : ℕ) → position (λ x. p (f x)) xs ≡ Some i → map f (drop (i + 1) xs) ≡ after_first p (map f xs)
behind_some p f xs i is = sym (drop-map f (i + 1) xs) ∙ ap (λ n. drop (n + 1) (map f xs)) (sym (place_is p f xs i is))

pub before_none : {X Y : Type 0} (p : Y → Bool) (f : X → Y) (xs : List X) → position (λ x. p (f x)) xs ≡ None → before_first p (map f xs) ≡ map f xs
before_none p f xs is =
    let end = no_place_is p f xs is in
    take_all (position_or_len p (map f xs)) (map f xs) (omega (arith, end))

pub from_none : {X Y : Type 0} (p : Y → Bool) (f : X → Y) (xs : List X) → position (λ x. p (f x)) xs ≡ None → drop (position_or_len p (map f xs)) (map f xs) ≡ []
from_none p f xs is =
    let end = no_place_is p f xs is in
    drop_all (position_or_len p (map f xs)) (map f xs) (omega (arith, end))

pub behind_none : {X Y : Type 0} (p : Y → Bool) (f : X → Y) (xs : List X) → position (λ x. p (f x)) xs ≡ None → after_first p (map f xs) ≡ []
behind_none p f xs is =
    let end = no_place_is p f xs is in
    drop_all (position_or_len p (map f xs) + 1) (map f xs) (omega (arith, end))

-- whether one of the words is an option, by their bytes
pub any_option : {A : Type 0} (words : List (String A)) → list_any is_option (map string_bytes words) ≡ list_any (λ word. is_option (string_bytes word)) words
any_option [] = refl
any_option (word ∷ words) = ap (λ more. is_option (string_bytes word) || more) (any_option words)

-- the word at a place of three lists, one behind the other, in bytes
pub nth_in_bytes : {A : Type 0} (front middle rear : List (String A)) (n : ℕ)
    → slice_get (map string_bytes front ++ (map string_bytes middle ++ map string_bytes rear)) n ≡ option_map string_bytes (slice_get ((front ++ middle) ++ rear) n)
nth_in_bytes front middle rear n =
    ap (λ words. slice_get words n)
    (sym (append_assoc (map string_bytes front) (map string_bytes middle) (map string_bytes rear))
    ∙ ap (λ words. words ++ map string_bytes rear) (sym (map-append string_bytes front middle)) ∙ sym (map-append string_bytes (front ++ middle) rear))
    ∙ slice_get-map string_bytes ((front ++ middle) ++ rear) n
