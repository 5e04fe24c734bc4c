-- A line that may come next and is read by its text (this project's own). Lists have the newest line first.
use Rattle.std.specs.Prelude.{ℕ, ◌≡◌, ◌<◌, ◌≤◌, ◌-◌, ◌^◌, ◌++◌, ◌∷◌, Bool, true, List, None, if◌then◌else◌, length}
use Rattle.pm_model.specs.declared.event.Line.{Line}
use Rattle.pm_model.specs.declared.stage.Change.{Change}
use Rattle.pm_model.specs.declared.stage.Then.{Then}
use Rattle.pm_model.specs.Lawful.{IsLawful}
use Rattle.pm_model.specs.NoWhy.{is_within_line}
use Rattle.pm_model.specs.LineOf.{is_actor_of}
use Rattle.pm_linetext.specs.Fronts.{front_text}
use Rattle.pm_model.specs.Spelling.{Names}
use Rattle.pm_model.specs.Text.{IsTextBehind}
use Rattle.pm_state.specs.Standing.{IsActor}
use Rattle.pm_book.specs.Judging.{Judged}
use Rattle.pm_book.specs.Sometime.{Writes}
use Rattle.pm_audit.specs.declared.offers.Start.{Start}
use Rattle.pm_audit.specs.Auditing.{IsRead}
use Rattle.pm_audit.specs.Readings.{ReaderStandsFor, Reading}

-- the time from which the text of a line counts, in format 2 where that is true, behind one of time `last`
abbrev pub base_of : Bool → ℕ → ℕ
base_of f last = if f then last else 0

-- this is when a line may be written, in format 2 where that is true, behind one of time `last`, and by whom, and this is the
-- front of its text
pub record IsStart (f : Bool) (names : Names) (last : ℕ) (text : List ℕ) (start : Start) : Type 0 where
  pub later : base_of f last ≤ start.time
  pub in_time : start.time < 2 ^ 63
  pub in_range : is_actor_of (length names.devices) (length names.callers) start.actor ≡ true
  pub front : text ≡ front_text names (start.time - base_of f last) start.actor

-- the bytes begin with a line, of this piece and a newline, and go on with these
pub record BeginsWith (bytes piece behind : List ℕ) : Type 0 where
  pub split : bytes ≡ piece ++ (10 ∷ behind)
  pub within : is_within_line piece ≡ true

-- the bytes begin with the text of this line, in format 2 where that is true, which may come next by this change and these
-- stages
pub record IsOffered (f : Bool) (j : Judged) (line : Line) (c : Change) (next : Then) (bytes behind : List ℕ) : Type 0 where
  pub piece : List ℕ
  pub begins : BeginsWith bytes piece behind
  pub spelled : IsTextBehind f j.plan j.last line piece
  pub in_range : IsActor j.plan line.actor
  pub in_time : line.time < 2 ^ 63
  pub room : j.lines < j.plan.lines
  pub writes : Writes j.plan j.world j.last line c next

-- the line with which the bytes begin was taken
pub record HasTakenFirst {A : Type 0} (Stands : A → List Line → Type 0) (f : Bool) (old new : Reading A) (bytes behind : List ℕ) : Type 0 where
  pub piece : List ℕ
  pub begins : BeginsWith bytes piece behind
  pub read : (h : List Line) → IsLawful old.judge.plan h → ReaderStandsFor Stands old h → IsRead f old.judge.plan h piece (ReaderStandsFor Stands new) None
  pub plan : new.judge.plan ≡ old.judge.plan
  pub same : new.subject ≡ old.subject
