-- For which bytes an auditor stands, and what it says of them (this project's own). Lists have the newest line first.
use Rattle.std.specs.Prelude.{ℕ, suc, ◌≡◌, ◌≢◌, ◌<◌, ◌≤◌, Bool, true, false, List, [], ◌∷◌, ◌++◌, Option, Some, None, length, nat_le, if◌then◌else◌}
use Rattle.pm_model.specs.declared.event.Line.{Line}
use Rattle.pm_model.specs.declared.plan.Plan.{Plan}
use Rattle.pm_model.specs.FirstBad.{StandsFor, is_format2}
use Rattle.pm_model.specs.Lawful.{IsLawful, Permits, last_time}
use Rattle.pm_model.specs.NoWhy as model
use Rattle.pm_model.specs.NoWhy.{IsNeverPermitted, IsPermittedSometime, IsWhy, is_within_line}
use Rattle.pm_model.specs.Spelling.{newline}
use Rattle.pm_model.specs.Text.{IsTextBehind}
use Rattle.pm_model.specs.Verdict as verdicts
use Rattle.pm_law_texts.specs.Next.{IsNext}
use Rattle.pm_audit.specs.declared.auditor.Auditor.{Auditor}
use Rattle.pm_audit.specs.declared.auditor.BadLine.{BadLine}
use Rattle.pm_audit.specs.declared.auditor.Verdict.{Verdict}
use Rattle.pm_audit.specs.declared.auditor.Verdict.TheVariants as verdict
use Rattle.pm_audit.specs.declared.reading.Format.{Format}
use Rattle.pm_audit.specs.declared.reading.Format.TheVariants as format
use Rattle.pm_audit.specs.declared.reading.NoWhy.{NoWhy}
use Rattle.pm_audit.specs.declared.reading.NoWhy.TheVariants as why
use Rattle.pm_audit.specs.declared.rest.TheConstants.{REST_BYTES}
use Rattle.pm_audit.specs.Readings.{ReaderStandsFor, Reading}

-- the reason, in the words of the definitions
abbrev pub reason_of : NoWhy → model.NoWhy
reason_of why.Cut = model.Cut
reason_of why.Text = model.Text
reason_of why.Limit = model.Limit
reason_of why.Step = model.Step
reason_of why.Time = model.Time

abbrev pub verdict_of : Verdict → verdicts.Verdict
verdict_of verdict.YesFinished = verdicts.YesFinished
verdict_of verdict.YesOpen = verdicts.YesOpen
verdict_of (verdict.No n w) = verdicts.No n (reason_of w)

-- a rest is kept as it is, and of a longer one that it is longer
abbrev pub IsRest : Option (List ℕ) → List ℕ → Type 0
IsRest (Some kept) rest = rest ≡ kept
IsRest None rest = REST_BYTES < length rest

-- a rest that goes on
abbrev pub rest_with : Option (List ℕ) → List ℕ → Option (List ℕ)
rest_with (Some kept) piece = if nat_le (length (kept ++ piece)) REST_BYTES then Some (kept ++ piece) else None
rest_with None piece = None

-- the first whole line tells the format
abbrev pub IsToldBy : Format → List ℕ → Type 0
IsToldBy format.Untold whole = whole ≡ []
IsToldBy format.One whole = (whole ≢ []) × (is_format2 whole ≡ false)
IsToldBy format.Two whole = (whole ≢ []) × (is_format2 whole ≡ true)

-- whether it is format 2, where a line has told it
abbrev pub told_of : Format → Option Bool
told_of format.Untold = None
told_of format.One = Some false
told_of format.Two = Some true

-- why a piece behind a lawful list is bad, in format 2 where that is true
abbrev pub IsBad : Bool → Plan → List Line → List ℕ → NoWhy → Type 0
IsBad f plan h piece why.Cut = ⊥
IsBad f plan h piece why.Text = (line : Line) → IsTextBehind f plan (last_time h) line piece → ⊥
IsBad f plan h piece why.Limit = (line : Line) × IsTextBehind f plan (last_time h) line piece × (plan.lines ≤ length h)
IsBad f plan h piece why.Step = (line : Line) × IsTextBehind f plan (last_time h) line piece × (length h < plan.lines) × IsNeverPermitted plan h line
IsBad f plan h piece why.Time =
    (line : Line) × IsTextBehind f plan (last_time h) line piece × (length h < plan.lines) × IsPermittedSometime plan h line × (Permits plan h line → ⊥)

-- what is said of a piece behind a lawful list: nothing where it is the text of a line that may come next, and then what
-- stands for lists stands for the one with that line, else why it is bad
abbrev pub IsRead : Bool → Plan → List Line → List ℕ → (List Line → Type 0) → Option NoWhy → Type 0
IsRead f plan h piece After None = (next : IsNext f plan h piece) × After (next.line ∷ h)
IsRead f plan h piece After (Some w) = IsBad f plan h piece w

-- the bytes are whole lines that are the text of this lawful list, for which the reader stands; the first of them, if
-- there is one, tells the format
pub record IsGood {A : Type 0} (Stands : A → List Line → Type 0) (plan : Plan) (reader : Reading A) (f : Format) (whole : List ℕ) (h : List Line) : Type 0 where
  pub lawful : IsLawful plan h
  pub taken : ReaderStandsFor Stands reader h
  pub stands : StandsFor plan whole h
  pub told : IsToldBy f whole

-- what becomes of whole lines of this list with one more, of this piece: they are good still, or that line is bad for
-- this reason, whatever bytes follow
abbrev pub IsTaken : {A : Type 0} → (A → List Line → Type 0) → Plan → List ℕ → List Line → List ℕ → Format → Reading A → Option NoWhy → Type 0
IsTaken Stands plan whole h piece f reader None = (k : List Line) × IsGood Stands plan reader f (whole ++ (piece ++ newline)) k
IsTaken Stands plan whole h piece f reader (Some w) = (more : List ℕ) → IsWhy plan (whole ++ (piece ++ (newline ++ more))) (suc (length h)) (reason_of w)

-- no whole line of the bytes is bad, and behind them is this rest, which no newline ends
pub record IsGoodSoFar {A : Type 0} (Stands : A → List Line → Type 0) (a : Auditor A) (bytes : List ℕ) : Type 0 where
  pub whole : List ℕ
  pub list : List Line
  pub rest : List ℕ
  pub bytes_are : bytes ≡ whole ++ rest
  pub good : IsGood Stands a.reader.judge.plan a.reader a.format whole list
  pub within : is_within_line rest ≡ true
  pub kept : IsRest a.rest rest

abbrev pub SaysOf : {A : Type 0} → (A → List Line → Type 0) → Auditor A → Option BadLine → List ℕ → Type 0
SaysOf Stands a None bytes = IsGoodSoFar Stands a bytes
SaysOf Stands a (Some bad) bytes = (more : List ℕ) → IsWhy a.reader.judge.plan (bytes ++ more) bad.line (reason_of bad.why)

-- An auditor stands for bytes: its reader stands for the list of their whole lines, and the rest that it keeps is theirs;
-- or the first bad line of them is the one that it found, for that reason, whatever bytes follow.
abbrev pub AuditorStandsFor : {A : Type 0} → (A → List Line → Type 0) → Auditor A → List ℕ → Type 0
AuditorStandsFor Stands a bytes = SaysOf Stands a a.bad bytes

-- the bytes are the text of a lawful list of the plan, for which this stands: no line of theirs is bad, or lacks its
-- newline
pub record IsWhole (plan : Plan) (Stands : List Line → Type 0) (bytes : List ℕ) : Type 0 where
  pub list : List Line
  pub lawful : IsLawful plan list
  pub stands : StandsFor plan bytes list
  pub taken : Stands list

-- an auditor was fed a piece up to what is left of it
pub record HasRead {A : Type 0} (Stands : A → List Line → Type 0) (piece left : List ℕ) (old new : Auditor A) : Type 0 where
  pub done : List ℕ
  pub split : piece ≡ done ++ left
  pub stands : (b : List ℕ) → AuditorStandsFor Stands old b → AuditorStandsFor Stands new (b ++ done)
  pub plan : new.reader.judge.plan ≡ old.reader.judge.plan
  pub same : new.reader.subject ≡ old.reader.subject
