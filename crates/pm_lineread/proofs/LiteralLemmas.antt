-- A word at the front of bytes, by what the bytes and the word have in common from the front.
use Rattle.std.proofs.Common.{◌≡◌, ℕ, List, [], ◌∷◌, length, drop, Ok, Err, refl, inl, inr, arith}
use Rattle.std.proofs.lemmas.Bool.{cases_eq, eq-eqb, ne_eqb}
use Rattle.std.proofs.lemmas.Bool.Decides.{nat_tests}
use Rattle.std.proofs.lemmas.Grind.{common_steps}
use Rattle.pm_lineread.specs.Pieces.{literal_at}
use Rattle.pm_lineread.proofs.Shared.{shared}

pub literal_found : (word bytes : List ℕ) → shared bytes word ≡ length word → literal_at word bytes ≡ Ok (drop (shared bytes word) bytes)
unfolding literal_at
literal_found [] [] h = refl
literal_found [] (b ∷ bytes) h = refl
literal_found (c ∷ word) [] h = absurd (grind (arith, nat_tests, common_steps))
literal_found (c ∷ word) (b ∷ bytes) h = elim (cases_eq b c) [
  | inl same ↦ grind (arith, nat_tests, common_steps, eq-eqb b c same, literal_found word bytes)
  | inr differ ↦ absurd (grind (arith, nat_tests, common_steps, ne_eqb b c differ))
]

pub literal_missed : (word bytes : List ℕ) → (shared bytes word ≡ length word → ⊥) → literal_at word bytes ≡ Err (length (drop (shared bytes word) bytes))
unfolding literal_at
literal_missed [] [] h = absurd (h refl)
literal_missed [] (b ∷ bytes) h = absurd (h refl)
literal_missed (c ∷ word) [] h = refl
literal_missed (c ∷ word) (b ∷ bytes) h = elim (cases_eq b c) [
  | inl same ↦ grind (arith, nat_tests, common_steps, eq-eqb b c same, literal_missed word bytes)
  | inr differ ↦ grind (arith, nat_tests, common_steps, ne_eqb b c differ)
]
