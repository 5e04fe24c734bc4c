-- What stands behind the prefix of a line, seen from a place of it.
use Rattle.std.proofs.Common.{◌≡◌, ℕ, ◌<◌, true, false, List, [], ◌∷◌, None, Some, drop, length, refl, arith}
use Rattle.pm_outcomes.specs.kernel_log.Lines.{begins, behind_prefix}

pub marked_here : (text : List ℕ) → 0 < length text → begins text ≡ true → Some (drop 8 text) ≡ behind_prefix text
unfolding behind_prefix
marked_here [] more is = absurd (grind (arith))
marked_here (b ∷ text) more is = rw is refl

pub marked_later : (text : List ℕ) → 0 < length text → begins text ≡ false → behind_prefix (drop 1 text) ≡ behind_prefix text
unfolding behind_prefix
marked_later [] more is = absurd (grind (arith))
marked_later (b ∷ text) more is = rw is refl

pub not_marked : (text : List ℕ) → length text ≡ 0 → None ≡ behind_prefix text
unfolding behind_prefix
not_marked [] is = refl
not_marked (b ∷ text) is = absurd (grind (arith))
