-- Callers, one after the other.
use Rattle.std.proofs.Common.{◌≡◌, ℕ, suc, ◌<◌, ◌≤◌, All, drop, get_or, length, map, add-one, ◌+◌, List, [], ◌∷◌, ◌++◌, Option, Result, Ok, Err, refl, ap, sym, ◌∙◌, append_assoc}
use Rattle.std.proofs.Math.Seq.{drop-cons}
use Rattle.std.proofs.lemmas.List.{append-nil, length-map}
use Rattle.std.proofs.lemmas.List.Elements.{All-append, All-cons, All-nil}
use Rattle.pm_driver_text.specs.Results.{◌>>=◌}
use Rattle.pm_driver_read.specs.declared.refusal.DriverRefusal.{DriverRefusal}
use Rattle.pm_model.specs.declared.rows.DeviceRow.{DeviceRow}
use Rattle.pm_model.specs.declared.rows.LinkRow.{LinkRow}
use Rattle.pm_driver_read.specs.Programs.{AreFewSteps, caller_steps, scripts_from}
use Rattle.pm_driver_read.specs.declared.words.CallerWords.{CallerWords}
use Rattle.pm_driver_read.specs.declared.scripts.CallerSteps.{CallerSteps}

-- behind those that are there already
abbrev pub behind : List CallerSteps → Result (List CallerSteps) DriverRefusal → Result (List CallerSteps) DriverRefusal
behind xs read = read >>= λ ys. Ok (xs ++ ys)

pub begin : (read : Result (List CallerSteps) DriverRefusal) → read ≡ behind [] read
begin (Ok xs) = refl
begin (Err e) = refl

one_more : (xs : List CallerSteps) (x : CallerSteps) (read : Result (List CallerSteps) DriverRefusal) → behind xs (read >>= λ ys. Ok (x ∷ ys)) ≡ behind (xs ++ x ∷ []) read
one_more xs x (Ok ys) = ap Ok (sym (append_assoc xs (x ∷ []) ys))
one_more xs x (Err e) = refl

-- one that is read
pub read_more : (devices : List DeviceRow) (links : List LinkRow) (i : ℕ) (d : CallerWords) (items : List CallerWords) (xs : List CallerSteps) (x : CallerSteps) (all : Result (List CallerSteps) DriverRefusal)
    → caller_steps devices links i d ≡ Ok x → all ≡ behind xs (scripts_from devices links i (d ∷ items)) → all ≡ behind (xs ++ x ∷ []) (scripts_from devices links (i + 1) items)
read_more devices links i d items xs x all is was =
    was ∙ ap (λ r. behind xs (r >>= λ y. scripts_from devices links (i + 1) items >>= λ ys. Ok (y ∷ ys))) is ∙ one_more xs x (scripts_from devices links (i + 1) items)

-- and one that is refused
pub read_refused : (devices : List DeviceRow) (links : List LinkRow) (i : ℕ) (d : CallerWords) (items : List CallerWords) (xs : List CallerSteps) (e : DriverRefusal) (all : Result (List CallerSteps) DriverRefusal)
    → caller_steps devices links i d ≡ Err e → all ≡ behind xs (scripts_from devices links i (d ∷ items)) → all ≡ Err e
read_refused devices links i d items xs e all is was = was ∙ ap (λ r. behind xs (r >>= λ y. scripts_from devices links (i + 1) items >>= λ ys. Ok (y ∷ ys))) is

pub read_all : (devices : List DeviceRow) (links : List LinkRow) (i : ℕ) (xs : List CallerSteps) (all : Result (List CallerSteps) DriverRefusal) → all ≡ behind xs (scripts_from devices links i []) → all ≡ Ok xs
read_all devices links i xs all was = was ∙ ap Ok (append-nil xs)

-- one caller more, whose script fits
pub fits_more : (xs : List CallerSteps) (x : CallerSteps) → All AreFewSteps xs → AreFewSteps x → All AreFewSteps (xs ++ x ∷ [])
fits_more xs x fits one = All-append AreFewSteps xs (x ∷ []) fits (All-cons AreFewSteps x [] one (All-nil AreFewSteps))

pub names_few : (scripts : List CallerSteps) (n : ℕ) → length scripts ≤ n → length (map (λ c. c.name) scripts) ≤ n
names_few scripts n few = rw (length-map scripts (λ (c : CallerSteps). c.name)) few

-- the next of the callers
pub read_step : (devices : List DeviceRow) (links : List LinkRow) (i : ℕ) (callers : List CallerWords) (words : CallerWords) (xs new : List CallerSteps) (x : CallerSteps) (all : Result (List CallerSteps) DriverRefusal)
    → i < length callers → words ≡ get_or callers i words → caller_steps devices links i words ≡ Ok x → new ≡ xs ++ x ∷ []
    → all ≡ behind xs (scripts_from devices links i (drop i callers)) → all ≡ behind new (scripts_from devices links (i + 1) (drop (i + 1) callers))
read_step devices links i callers words xs new x all below is made pushed was =
    let cut : drop i callers ≡ words ∷ drop (i + 1) callers = drop-cons callers i words below ∙ ap (λ t. t ∷ drop (suc i) callers) (sym is) ∙ rw add-one refl in
    read_more devices links i words (drop (i + 1) callers) xs x all made (was ∙ ap (λ l. behind xs (scripts_from devices links i l)) cut)
    ∙ ap (λ l. behind l (scripts_from devices links (i + 1) (drop (i + 1) callers))) (sym pushed)
