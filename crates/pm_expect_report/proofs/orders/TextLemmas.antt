-- Pieces of a text.
use Rattle.std.proofs.Common.{◌≡◌, ◌++◌, ℕ, List, Result, Ok, Err, OnOk, ap, append_assoc, ◌∙◌}

-- a piece behind another
pub two_pieces : {T E : Type 0} (r : Result T E) (new mid old piece rest : List ℕ) → OnOk r (new ≡ mid ++ rest) → mid ≡ old ++ piece → OnOk r (new ≡ old ++ (piece ++ rest))
two_pieces (Ok x) new mid old piece rest is was = is ∙ ap (λ l. l ++ rest) was ∙ append_assoc old piece rest
two_pieces (Err e) new mid old piece rest is was = tt
