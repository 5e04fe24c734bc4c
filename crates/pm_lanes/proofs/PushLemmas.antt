-- Pieces that are appended.
use Rattle.std.proofs.Common.{ℕ, ◌≡◌, List, [], ◌∷◌, ◌++◌, ap, refl, sym, ◌∙◌, append_assoc}
use Rattle.pm_lanes.specs.declared.shown.Shown.{Shown}
use Rattle.pm_lanes.specs.declared.shown.Piece.{Piece}
use Rattle.pm_lanes.specs.Pieces.{at_line}

pub at_line_append : (n : ℕ) (a b : List Shown) → at_line n (a ++ b) ≡ at_line n a ++ at_line n b
at_line_append n [] b = refl
at_line_append n (s ∷ a) b = ap (λ l. record { line = n; shown = s } ∷ l) (at_line_append n a b)

-- one more appended behind what was
pub at_line_more : (old now later : List Piece) (n : ℕ) (a b : List Shown) → now ≡ old ++ at_line n a → later ≡ now ++ at_line n b → later ≡ old ++ at_line n (a ++ b)
at_line_more old now later n a b is more =
    more ∙ ap (λ l. l ++ at_line n b) is ∙ append_assoc old (at_line n a) (at_line n b) ∙ ap (λ l. old ++ l) (sym (at_line_append n a b))
