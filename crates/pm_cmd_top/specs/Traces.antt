-- What a command that reads a trace may come to (this project's own). Lists of lines have the newest line first.
use Rattle.std.specs.Prelude.{ℕ, Bool, Option, List, ⊤}
use Rattle.pm_audit.specs.Auditing.{reason_of}
use Rattle.pm_io.specs.declared.reading.FileFault.{FileFault}
use Rattle.pm_io.specs.declared.reading.FileFault.TheVariants as file
use Rattle.pm_model.specs.declared.plan.Plan.{Plan}
use Rattle.pm_model.specs.FirstBad.{StandsFor}
use Rattle.pm_model.specs.History.{History}
use Rattle.pm_model.specs.Lawful.{IsLawful}
use Rattle.pm_model.specs.NoWhy.{NoWhy}
use Rattle.pm_model.specs.Verdict.{IsVerdict, No}
use Rattle.pm_cmd_ends.specs.Coming.{trace_too_long}
use Rattle.pm_cmd_ends.specs.Ending.{Ending, Refused}
use Rattle.pm_cmd_ends.specs.Reading.{Holds, IsTooLong}
use Rattle.pm_cmd_ends.specs.Said.{no_line}
use Rattle.pm_cmd_ends.specs.declared.ending.Fault.{Fault}
use Rattle.pm_cmd_ends.specs.declared.ending.Fault.TheVariants as fault

-- Of a command over a trace's file: it has too many bytes; or its bytes have a first bad line, and the ending tells it;
-- or they stand for a lawful list, over which the command has endings of its own.
pub data OfTrace (all : Bool) (told : Option (List ℕ)) (plan : Plan) (refuse : List ℕ → Ending) (Ends : History → Ending → Type 0) : Ending → Type 0 where
  too_many : IsTooLong all told 67108864 → OfTrace all told plan refuse Ends (Refused trace_too_long)
  bad : (bytes : List ℕ) → Holds all told 67108864 bytes → (n : ℕ) (why : NoWhy) → IsVerdict plan bytes (No n why) → OfTrace all told plan refuse Ends (refuse (no_line n why))
  stands : (bytes : List ℕ) → Holds all told 67108864 bytes → (h : History) → IsLawful plan h → StandsFor plan bytes h → (ending : Ending) → Ends h ending → OfTrace all told plan refuse Ends ending

-- the fault of its file, as that of a command
abbrev pub trace_fault : FileFault → Fault
trace_fault file.Failed = fault.ReadFailed
trace_fault file.TooLong = fault.TraceTooLong
trace_fault file.NoMemory = fault.NoMemory

-- why a trace's file isn't read to its end: it is too long, a read failed, or memory ran out
abbrev pub IsTraceUnread : Bool → Option (List ℕ) → Type 0 → Fault → Type 0
IsTraceUnread all told Unread fault.TraceTooLong = IsTooLong all told 67108864
IsTraceUnread all told Unread fault.ReadFailed = Unread
IsTraceUnread all told Unread fault.NoMemory = ⊤
IsTraceUnread all told Unread _ = ⊥

-- a trace's file stands for this lawful list
pub record IsLoaded (all : Bool) (told : Option (List ℕ)) (plan : Plan) (h : History) : Type 0 where
  pub bytes : List ℕ
  pub holds : Holds all told 67108864 bytes
  pub lawful : IsLawful plan h
  pub stands_for : StandsFor plan bytes h

-- why bytes are made no book: they have a first bad line, or memory ran out
abbrev pub IsNoBook : Plan → List ℕ → Fault → Type 0
IsNoBook plan bytes (fault.NotLawful n why) = IsVerdict plan bytes (No n (reason_of why))
IsNoBook plan bytes fault.NoMemory = ⊤
IsNoBook plan bytes _ = ⊥

-- why it stands for none, or isn't read: its bytes have a first bad line, or it isn't read to its end
abbrev pub IsUnloaded : Bool → Option (List ℕ) → Plan → Type 0 → Fault → Type 0
IsUnloaded all told plan Unread (fault.NotLawful n why) = (bytes : List ℕ) × Holds all told 67108864 bytes × IsVerdict plan bytes (No n (reason_of why))
IsUnloaded all told plan Unread f = IsTraceUnread all told Unread f
