-- Steps, one after the other.
use Rattle.std.proofs.Common.{◌≡◌, ℕ, suc, ◌<◌, ◌≤◌, drop, get_or, length, add-one, ◌+◌, List, [], ◌∷◌, ◌++◌, Option, Result, Ok, Err, refl, ap, sym, ◌∙◌, append_assoc}
use Rattle.std.proofs.Math.Seq.{drop-cons}
use Rattle.std.proofs.lemmas.List.{append-nil}
use Rattle.std.proofs.lemmas.List.Elements.{All-append, All-cons, All-nil}
use Rattle.pm_driver_script.specs.Fits.{HasFewExits}
use Rattle.pm_driver_text.specs.Results.{◌>>=◌}
use Rattle.pm_driver_read.specs.declared.refusal.DriverRefusal.{DriverRefusal}
use Rattle.pm_driver_read.specs.Programs.{located, steps_from}
use Rattle.pm_driver_text.specs.Steps.{step_of}
use Rattle.pm_driver_text.specs.declared.steps.ScriptStep.{ScriptStep}

-- behind those that are there already
abbrev pub behind : List ScriptStep → Result (List ScriptStep) DriverRefusal → Result (List ScriptStep) DriverRefusal
behind xs read = read >>= λ ys. Ok (xs ++ ys)

pub begin : (read : Result (List ScriptStep) DriverRefusal) → read ≡ behind [] read
begin (Ok xs) = refl
begin (Err e) = refl

one_more : (xs : List ScriptStep) (x : ScriptStep) (read : Result (List ScriptStep) DriverRefusal) → behind xs (read >>= λ ys. Ok (x ∷ ys)) ≡ behind (xs ++ x ∷ []) read
one_more xs x (Ok ys) = ap Ok (sym (append_assoc xs (x ∷ []) ys))
one_more xs x (Err e) = refl

-- one that is read
pub read_more : (devices : List (List ℕ)) (caller : ℕ) (i : ℕ) (d : (List ℕ)) (items : List (List ℕ)) (xs : List ScriptStep) (x : ScriptStep) (all : Result (List ScriptStep) DriverRefusal)
    → located caller i (step_of devices d) ≡ Ok x → all ≡ behind xs (steps_from devices caller i (d ∷ items)) → all ≡ behind (xs ++ x ∷ []) (steps_from devices caller (i + 1) items)
read_more devices caller i d items xs x all is was =
    was ∙ ap (λ r. behind xs (r >>= λ y. steps_from devices caller (i + 1) items >>= λ ys. Ok (y ∷ ys))) is ∙ one_more xs x (steps_from devices caller (i + 1) items)

-- and one that is refused
pub read_refused : (devices : List (List ℕ)) (caller : ℕ) (i : ℕ) (d : (List ℕ)) (items : List (List ℕ)) (xs : List ScriptStep) (e : DriverRefusal) (all : Result (List ScriptStep) DriverRefusal)
    → located caller i (step_of devices d) ≡ Err e → all ≡ behind xs (steps_from devices caller i (d ∷ items)) → all ≡ Err e
read_refused devices caller i d items xs e all is was = was ∙ ap (λ r. behind xs (r >>= λ y. steps_from devices caller (i + 1) items >>= λ ys. Ok (y ∷ ys))) is

pub read_all : (devices : List (List ℕ)) (caller : ℕ) (i : ℕ) (xs : List ScriptStep) (all : Result (List ScriptStep) DriverRefusal) → all ≡ behind xs (steps_from devices caller i []) → all ≡ Ok xs
read_all devices caller i xs all was = was ∙ ap Ok (append-nil xs)

-- one step more, with few exits
pub few_more : (xs : List ScriptStep) (x : ScriptStep) → HasFewExits xs → length x.exits ≤ 8 → HasFewExits (xs ++ x ∷ [])
few_more xs x few one = All-append (λ step. length step.exits ≤ 8) xs (x ∷ []) few (All-cons (λ step. length step.exits ≤ 8) x [] one (All-nil (λ step. length step.exits ≤ 8)))

-- the next of the strings
pub read_step : (devices : List (List ℕ)) (caller i : ℕ) (texts : List (List ℕ)) (text : List ℕ) (xs new : List ScriptStep) (x : ScriptStep) (all : Result (List ScriptStep) DriverRefusal)
    → i < length texts → text ≡ get_or texts i text → located caller i (step_of devices text) ≡ Ok x → new ≡ xs ++ x ∷ []
    → all ≡ behind xs (steps_from devices caller i (drop i texts)) → all ≡ behind new (steps_from devices caller (i + 1) (drop (i + 1) texts))
read_step devices caller i texts text xs new x all below is made pushed was =
    let cut : drop i texts ≡ text ∷ drop (i + 1) texts = drop-cons texts i text below ∙ ap (λ t. t ∷ drop (suc i) texts) (sym is) ∙ rw add-one refl in
    read_more devices caller i text (drop (i + 1) texts) xs x all made (was ∙ ap (λ l. behind xs (steps_from devices caller i l)) cut)
    ∙ ap (λ l. behind l (steps_from devices caller (i + 1) (drop (i + 1) texts))) (sym pushed)
