-- One piece of a text behind another.
use Rattle.std.proofs.Common.{◌≡◌, ◌∙◌, ℕ, List, ◌++◌, Result, Ok, Err, OnOk, ap}
use Rattle.std.proofs.lemmas.List.{append_assoc}

pub last : {E : Type 0} (r : Result (Unit {0}) E) (s a b t u : List ℕ) → t ≡ s ++ a → OnOk r (u ≡ t ++ b) → OnOk r (u ≡ s ++ (a ++ b))
last (Ok x) s a b t u first more = more ∙ ap (λ l. l ++ b) first ∙ append_assoc s a b
last (Err e) s a b t u first more = tt
