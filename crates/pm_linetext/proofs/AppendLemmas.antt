-- A text that is made piece by piece, behind an old one.
use Rattle.std.proofs.Common.{◌≡◌, ◌∙◌, ℕ, List, [], ◌++◌, Result, Ok, Err, OnOk, ap, append_assoc}

-- one more piece
pub more : (old now later piece last : List ℕ) → now ≡ old ++ piece → later ≡ now ++ last → later ≡ old ++ (piece ++ last)
more old now later piece last is more_is = more_is ∙ ap (λ x. x ++ last) is ∙ append_assoc old piece last

-- and the last one, where there was memory for it
pub done : {T E : Type 0} (old now later piece last : List ℕ) (r : Result T E) → now ≡ old ++ piece → OnOk r (later ≡ now ++ last) → OnOk r (later ≡ old ++ (piece ++ last))
done old now later piece last (Ok v) is last_is = more old now later piece last is last_is
done old now later piece last (Err e) is last_is = tt

-- a text that began with none
pub from_none : (old now whole : List ℕ) → old ≡ [] → now ≡ old ++ whole → now ≡ whole
from_none old now whole none is = is ∙ ap (λ x. x ++ whole) none
