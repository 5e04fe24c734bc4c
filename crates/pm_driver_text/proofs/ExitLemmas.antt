-- Exits, word by word.
use Rattle.std.proofs.Common.{◌≡◌, ℕ, List, [], ◌∷◌, ◌++◌, Result, Ok, Err, refl, ap, sym, ◌∙◌, append_assoc}
use Rattle.std.proofs.lemmas.List.{append-nil}
use Rattle.pm_driver_text.specs.Exits.{end_of, exits_from, found_in, next_in}
use Rattle.pm_driver_text.specs.Results.{◌>>=◌}
use Rattle.pm_driver_text.specs.declared.exits.Awaited.{Awaited}
use Rattle.pm_driver_text.specs.declared.exits.StepExit.{StepExit}
use Rattle.pm_driver_text.specs.declared.fault.StepFault.{StepFault}

-- behind exits that are there already
abbrev pub behind : List StepExit → Result (List StepExit) StepFault → Result (List StepExit) StepFault
behind xs read = read >>= λ ys. Ok (xs ++ ys)

pub behind_nothing : (read : Result (List StepExit) StepFault) → read ≡ behind [] read
behind_nothing (Ok xs) = refl
behind_nothing (Err e) = refl

one_more : (xs ys : List StepExit) (read : Result (List StepExit) StepFault) → behind xs (read >>= λ more. Ok (ys ++ more)) ≡ behind (xs ++ ys) read
one_more xs ys (Ok more) = ap Ok (sym (append_assoc xs ys more))
one_more xs ys (Err e) = refl

-- a word that is read
pub read_more : (xs : List StepExit) (a b : Awaited) (word : List ℕ) (words : List (List ℕ)) (all : Result (List StepExit) StepFault)
    → Ok b ≡ next_in a word → all ≡ behind xs (exits_from a (word ∷ words)) → all ≡ behind (xs ++ found_in a word) (exits_from b words)
read_more xs a b word words all is was =
    was ∙ ap (λ r. behind xs (r >>= λ b. exits_from b words >>= λ more. Ok (found_in a word ++ more))) (sym is) ∙ one_more xs (found_in a word) (exits_from b words)

-- and one that is refused
pub read_refused : (xs : List StepExit) (a : Awaited) (e : StepFault) (word : List ℕ) (words : List (List ℕ)) (all : Result (List StepExit) StepFault)
    → Err e ≡ next_in a word → all ≡ behind xs (exits_from a (word ∷ words)) → all ≡ Err e
read_refused xs a e word words all is was = was ∙ ap (λ r. behind xs (r >>= λ b. exits_from b words >>= λ more. Ok (found_in a word ++ more))) (sym is)

-- the end
pub read_all : (xs : List StepExit) (a : Awaited) (u : Unit {0}) (all : Result (List StepExit) StepFault)
    → Ok u ≡ end_of a → all ≡ behind xs (exits_from a []) → all ≡ Ok xs
read_all xs a u all is was = was ∙ ap (λ r. behind xs (r >>= λ u. Ok [])) (sym is) ∙ ap Ok (append-nil xs)

pub read_cut : (xs : List StepExit) (a : Awaited) (e : StepFault) (all : Result (List StepExit) StepFault)
    → Err e ≡ end_of a → all ≡ behind xs (exits_from a []) → all ≡ Err e
read_cut xs a e all is was = was ∙ ap (λ r. behind xs (r >>= λ u. Ok [])) (sym is)
