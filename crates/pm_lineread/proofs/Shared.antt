-- What two texts have in common from the front.
use Rattle.std.proofs.Common.{◌≡◌, ℕ, ◌+◌, ◌≤◌, Bool, true, not, List, [], ◌∷◌, ◌++◌, length, nat_eq, refl, ◌⊎◌, inl, inr, arith}
use Rattle.std.specs.List.{common_prefix_len, list_all}
use Rattle.std.proofs.lemmas.Bool.{ne_eqb, cases_eq}
use Rattle.std.proofs.lemmas.Bool.Decides.{nat_tests}
use Rattle.std.proofs.lemmas.Grind.{common_steps}
use Rattle.std.proofs.lemmas.List.Sums.{common_prefix_len-le}
use Rattle.pm_lineread.specs.Pieces.{ends}

-- how many bytes two texts have in common from the front
abbrev pub shared : List ℕ → List ℕ → ℕ
shared x y = common_prefix_len nat_eq x y

-- no byte of it is the stop
abbrev pub is_clean : ℕ → List ℕ → Bool
is_clean stop word = list_all (λ b. not (nat_eq b stop)) word

pub shared-le : (x y : List ℕ) → shared x y ≤ length x
shared-le x y = (common_prefix_len-le nat_eq x y).0

pub shared-le_right : (x y : List ℕ) → shared x y ≤ length y
shared-le_right x y = (common_prefix_len-le nat_eq x y).1

pub shared-append : (w x y : List ℕ) → shared (w ++ x) (w ++ y) ≡ length w + shared x y
shared-append [] x y = omega arith
shared-append (b ∷ w) x y = grind (arith, nat_tests, shared-append w x y)

pub shared_itself : (x : List ℕ) → shared x x ≡ length x
shared_itself [] = refl
shared_itself (b ∷ x) = grind (arith, nat_tests, shared_itself x)

pub shared_front : (x y : List ℕ) → shared (x ++ y) x ≡ length x
shared_front [] [] = refl
shared_front [] (b ∷ y) = refl
shared_front (b ∷ x) y = grind (arith, nat_tests, shared_front x y)

pub shared-longer : (x y z : List ℕ) → shared x y ≤ shared x (y ++ z)
shared-longer [] y z = omega arith
shared-longer (b ∷ x) [] z = omega arith
shared-longer (b ∷ x) (c ∷ y) z = grind (arith, nat_tests, shared-longer x y z)

-- two words with stops behind them are one word, or the texts differ within the first or at its stop
pub words_part : (stop : ℕ) (x y r q : List ℕ) → is_clean stop x ≡ true → is_clean stop y ≡ true → ends stop r ≡ true → ends stop q ≡ true → (x ≡ y) ⊎ (shared (x ++ r) (y ++ q) ≤ length x)
words_part stop [] [] r q cx cy er eq = inl refl
words_part stop [] (c ∷ y) [] q cx cy er eq = inr (omega arith)
words_part stop [] (c ∷ y) (b ∷ r) q cx cy er eq = inr (grind (arith, nat_tests, common_steps))
words_part stop (b ∷ x) [] r [] cx cy er eq = inr (omega arith)
words_part stop (b ∷ x) [] r (c ∷ q) cx cy er eq = inr (grind (arith, nat_tests, common_steps))
words_part stop (b ∷ x) (c ∷ y) r q cx cy er eq = elim (cases_eq b c) [
  | inl same ↦ elim (words_part stop x y r q (grind (arith, nat_tests, common_steps)) (grind (arith, nat_tests, common_steps)) er eq) [
    | inl rest ↦ inl (cc)
    | inr less ↦ inr (grind (arith, nat_tests, common_steps))
  ]
  | inr differ ↦ inr (grind (arith, nat_tests, ne_eqb b c differ))
]

-- or they have in common what the first text has with the second word
pub words_share : (stop : ℕ) (x y r q : List ℕ) → is_clean stop x ≡ true → is_clean stop y ≡ true → ends stop r ≡ true → ends stop q ≡ true → (x ≡ y) ⊎ (shared (x ++ r) (y ++ q) ≤ shared (x ++ r) y)
words_share stop [] [] r q cx cy er eq = inl refl
words_share stop [] (c ∷ y) [] q cx cy er eq = inr (omega arith)
words_share stop [] (c ∷ y) (b ∷ r) q cx cy er eq = inr (grind (arith, nat_tests, common_steps))
words_share stop (b ∷ x) [] r [] cx cy er eq = inr (omega arith)
words_share stop (b ∷ x) [] r (c ∷ q) cx cy er eq = inr (grind (arith, nat_tests, common_steps))
words_share stop (b ∷ x) (c ∷ y) r q cx cy er eq = elim (cases_eq b c) [
  | inl same ↦ elim (words_share stop x y r q (grind (arith, nat_tests, common_steps)) (grind (arith, nat_tests, common_steps)) er eq) [
    | inl rest ↦ inl (cc)
    | inr less ↦ inr (grind (arith, nat_tests, common_steps))
  ]
  | inr differ ↦ inr (grind (arith, nat_tests, ne_eqb b c differ))
]

-- a word that stands at the front of another and its stop is a front of that other
pub clean_front : (stop : ℕ) (x y z r : List ℕ) → is_clean stop x ≡ true → ends stop r ≡ true → x ++ y ≡ z ++ r → (q : List ℕ) × (z ≡ x ++ q)
clean_front stop [] y z r clean stops same = (z, refl)
clean_front stop (b ∷ x) y [] [] clean stops same = (cc)
clean_front stop (b ∷ x) y [] (c ∷ r) clean stops same = absurd (grind (arith, nat_tests, common_steps))
clean_front stop (b ∷ x) y (c ∷ z) r clean stops same =
    let (q, is) = clean_front stop x y z r (grind (arith, nat_tests, common_steps)) stops (cc) in
    (q, cc)

-- two words with stops behind them that are one text
pub words_alike : (stop : ℕ) (x y r q : List ℕ) → is_clean stop x ≡ true → is_clean stop y ≡ true → ends stop r ≡ true → ends stop q ≡ true → x ++ r ≡ y ++ q → (x ≡ y) × (r ≡ q)
words_alike stop [] [] r q cx cy er eq same = (refl, same)
words_alike stop [] (c ∷ y) [] q cx cy er eq same = (cc)
words_alike stop [] (c ∷ y) (b ∷ r) q cx cy er eq same = absurd (grind (arith, nat_tests, common_steps))
words_alike stop (b ∷ x) [] r [] cx cy er eq same = (cc)
words_alike stop (b ∷ x) [] r (c ∷ q) cx cy er eq same = absurd (grind (arith, nat_tests, common_steps))
words_alike stop (b ∷ x) (c ∷ y) r q cx cy er eq same =
    let (rest, stops) = words_alike stop x y r q (grind (arith, nat_tests, common_steps)) (grind (arith, nat_tests, common_steps)) er eq (cc) in
    (cc, stops)
