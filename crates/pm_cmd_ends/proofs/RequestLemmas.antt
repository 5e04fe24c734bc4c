-- How many positional words there are, by their places.
use Rattle.std.proofs.Common.{◌≡◌, ℕ, List, [], ◌∷◌, Option, Some, None, refl}
use Rattle.std.specs.Prelude.{slice_get}
use Rattle.pm_cmd_ends.specs.Request.{asked_of, asked_of_one, asked_of_three, asked_of_two, run_with}

pub only_one : (words : List (List ℕ)) (a : List ℕ) → slice_get words 0 ≡ Some a → slice_get words 1 ≡ None → words ≡ a ∷ []
only_one [] a first none = cc
only_one (w ∷ []) a first none = cc
only_one (w ∷ v ∷ words) a first none = cc

pub only_two : (words : List (List ℕ)) (a b : List ℕ) → slice_get words 0 ≡ Some a → slice_get words 1 ≡ Some b → slice_get words 2 ≡ None → words ≡ a ∷ b ∷ []
only_two [] a b first second none = cc
only_two (w ∷ []) a b first second none = cc
only_two (w ∷ v ∷ []) a b first second none = cc
only_two (w ∷ v ∷ u ∷ words) a b first second none = cc

pub only_three : (words : List (List ℕ)) (a b c : List ℕ) → slice_get words 0 ≡ Some a → slice_get words 1 ≡ Some b → slice_get words 2 ≡ Some c → slice_get words 3 ≡ None → words ≡ a ∷ b ∷ c ∷ []
only_three [] a b c first second third none = cc
only_three (w ∷ []) a b c first second third none = cc
only_three (w ∷ v ∷ []) a b c first second third none = cc
only_three (w ∷ v ∷ u ∷ []) a b c first second third none = cc
only_three (w ∷ v ∷ u ∷ t ∷ words) a b c first second third none = cc
