-- Programs, one after the other.
use Rattle.std.proofs.Common.{◌≡◌, ℕ, suc, All, length, subst, add-one, ◌+◌, List, [], ◌∷◌, ◌++◌, Option, Result, Ok, Err, refl, ap, sym, ◌∙◌, append_assoc}
use Rattle.std.proofs.lemmas.List.{append-nil, length-append}
use Rattle.std.proofs.lemmas.List.Elements.{All-drop}
use Rattle.pm_driver_text.specs.Results.{◌>>=◌}
use Rattle.pm_driver_read.specs.declared.refusal.DriverRefusal.{DriverRefusal}
use Rattle.pm_driver_read.specs.Programs.{AreFewSteps, program_or, programs_from}
use Rattle.pm_driver_read.specs.declared.managed.ManagedStep.{ManagedStep}
use Rattle.pm_driver_read.specs.declared.scripts.CallerSteps.{CallerSteps}
use Rattle.pm_driver_script.specs.declared.names.ScriptNames.{ScriptNames}
use Rattle.pm_driver_read.specs.declared.reading.LocatedProgram.{LocatedProgram}

-- behind those that are there already
abbrev pub behind : List LocatedProgram → Result (List LocatedProgram) DriverRefusal → Result (List LocatedProgram) DriverRefusal
behind xs read = read >>= λ ys. Ok (xs ++ ys)

pub begin : (read : Result (List LocatedProgram) DriverRefusal) → read ≡ behind [] read
begin (Ok xs) = refl
begin (Err e) = refl

one_more : (xs : List LocatedProgram) (x : LocatedProgram) (read : Result (List LocatedProgram) DriverRefusal) → behind xs (read >>= λ ys. Ok (x ∷ ys)) ≡ behind (xs ++ x ∷ []) read
one_more xs x (Ok ys) = ap Ok (sym (append_assoc xs (x ∷ []) ys))
one_more xs x (Err e) = refl

-- one that is read
pub read_more : (names : ScriptNames) (managed : List ManagedStep) (i : ℕ) (d : CallerSteps) (items : List CallerSteps) (xs : List LocatedProgram) (x : LocatedProgram) (all : Result (List LocatedProgram) DriverRefusal)
    → program_or names managed i d ≡ Ok x → all ≡ behind xs (programs_from names managed i (d ∷ items)) → all ≡ behind (xs ++ x ∷ []) (programs_from names managed (i + 1) items)
read_more names managed i d items xs x all is was =
    was ∙ ap (λ r. behind xs (r >>= λ y. programs_from names managed (i + 1) items >>= λ ys. Ok (y ∷ ys))) is ∙ one_more xs x (programs_from names managed (i + 1) items)

-- and one that is refused
pub read_refused : (names : ScriptNames) (managed : List ManagedStep) (i : ℕ) (d : CallerSteps) (items : List CallerSteps) (xs : List LocatedProgram) (e : DriverRefusal) (all : Result (List LocatedProgram) DriverRefusal)
    → program_or names managed i d ≡ Err e → all ≡ behind xs (programs_from names managed i (d ∷ items)) → all ≡ Err e
read_refused names managed i d items xs e all is was = was ∙ ap (λ r. behind xs (r >>= λ y. programs_from names managed (i + 1) items >>= λ ys. Ok (y ∷ ys))) is

pub read_all : (names : ScriptNames) (managed : List ManagedStep) (i : ℕ) (xs : List LocatedProgram) (all : Result (List LocatedProgram) DriverRefusal) → all ≡ behind xs (programs_from names managed i []) → all ≡ Ok xs
read_all names managed i xs all was = was ∙ ap Ok (append-nil xs)

-- the next of the callers
pub next_caller : (names : ScriptNames) (managed : List ManagedStep) (old rest : List CallerSteps) (c : CallerSteps) (n : ℕ) (xs new : List LocatedProgram) (x : LocatedProgram) (all : Result (List LocatedProgram) DriverRefusal)
    → old ≡ c ∷ rest → n ≡ length xs → program_or names managed n c ≡ Ok x → new ≡ xs ++ x ∷ []
    → all ≡ behind xs (programs_from names managed (length xs) old) → all ≡ behind new (programs_from names managed (length new) rest)
next_caller names managed old rest c n xs new x all cut count made pushed was =
    let here : program_or names managed (length xs) c ≡ Ok x = ap (λ m. program_or names managed m c) (sym count) ∙ made in
    let more : all ≡ behind (xs ++ x ∷ []) (programs_from names managed (length xs + 1) rest) =
    read_more names managed (length xs) c rest xs x all here (was ∙ ap (λ l. behind xs (programs_from names managed (length xs) l)) cut) in
    let counted : length xs + 1 ≡ length new = sym (ap length pushed ∙ length-append xs (x ∷ [])) in
    more ∙ ap (λ m. behind (xs ++ x ∷ []) (programs_from names managed m rest)) counted ∙ ap (λ l. behind l (programs_from names managed (length new) rest)) (sym pushed)

pub rest_few : (old rest : List CallerSteps) (c : CallerSteps) → old ≡ c ∷ rest → All AreFewSteps old → All AreFewSteps rest
rest_few old rest c cut few = All-drop AreFewSteps 1 (c ∷ rest) (subst (All AreFewSteps) cut few)
