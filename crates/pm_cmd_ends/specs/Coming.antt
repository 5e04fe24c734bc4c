-- What the work of a command came to, before its message is written (this project's own).
use Rattle.std.specs.Prelude.{⊤, ℕ, Bool, Option, List, [], Result, Ok, Err, codes}
use Rattle.pm_audit.specs.Auditing.{reason_of}
use Rattle.pm_io.specs.declared.reading.FileFault.{FileFault}
use Rattle.pm_io.specs.declared.reading.FileFault.TheVariants as file
use Rattle.pm_planread.specs.declared.tree.place.Section.TheVariants.{Top}
use Rattle.pm_planread.specs.declared.refusal.PlanFault.{PlanFault}
use Rattle.pm_planread.specs.declared.refusal.PlanFault.TheVariants as plan
use Rattle.pm_planread.specs.declared.refusal.PlanWhy.TheVariants.{TooLong}
use Rattle.pm_planread.specs.Messages.{refusal_text}
use Rattle.pm_cmd_ends.specs.Ending.{AtLimit, Done, Ending, Failed, NotLawful, Refused, SaidNo, Taking, Took, TookNothing, TookPart, TookTextPart, text_of}
use Rattle.pm_cmd_ends.specs.Reading.{OfPlan}
use Rattle.pm_cmd_ends.specs.Said.{no_line}
use Rattle.pm_cmd_ends.specs.declared.ending.Fault.{Fault}
use Rattle.pm_cmd_ends.specs.declared.ending.Fault.TheVariants as fault

-- the faults of a plan's reader and of its file's, as faults of a command; a file that is too long is refused as a whole
abbrev pub plan_fault : PlanFault → Fault
plan_fault (plan.Refused why section item part) = fault.Refused why section item part
plan_fault plan.NoMemory = fault.NoMemory

abbrev pub file_fault : FileFault → Fault
file_fault file.Failed = fault.ReadFailed
file_fault file.TooLong = fault.Refused TooLong Top 0 0
file_fault file.NoMemory = fault.NoMemory

-- the messages where the trace has too many bytes, and where no device has the name
abbrev pub trace_too_long : List ℕ
trace_too_long = codes "trace: too_long\n"

abbrev pub no_device : List ℕ
no_device = codes "device: unknown\n"

abbrev pub fault_status : Fault → ℕ
fault_status (fault.Refused why section item part) = 3
fault_status fault.TraceTooLong = 3
fault_status fault.NoDevice = 3
fault_status (fault.NotLawful line why) = 1
fault_status fault.SaidNo = 1
fault_status fault.ReadFailed = 4
fault_status fault.WriteFailed = 5
fault_status fault.AtLimit = 6
fault_status fault.NoMemory = 7

abbrev pub fault_message : Fault → List ℕ
fault_message (fault.Refused why section item part) = refusal_text why section item part
fault_message fault.TraceTooLong = trace_too_long
fault_message fault.NoDevice = no_device
fault_message (fault.NotLawful line why) = no_line line (reason_of why)
fault_message fault.SaidNo = []
fault_message fault.ReadFailed = codes "read\n"
fault_message fault.WriteFailed = codes "write\n"
fault_message fault.AtLimit = codes "limit\n"
fault_message fault.NoMemory = codes "memory\n"

-- the work of a command, with the status and the message that follow it
abbrev pub Work : Type 0
Work = Result (Unit {0}) Fault

abbrev pub work_status : Work → ℕ
work_status (Ok done) = 0
work_status (Err f) = fault_status f

abbrev pub work_message : Work → List ℕ
work_message (Ok done) = []
work_message (Err f) = fault_message f

-- the work of a command that may come to these endings is done, or has a fault; and so much `out` took
abbrev pub Came : (Ending → Type 0) → Work → Type 0 → Taking → Type 0
Came Ends (Ok done) Unread out = (text : List ℕ) × Ends (Done text) × Took out text
Came Ends (Err (fault.Refused why section item part)) Unread out = Ends (Refused (refusal_text why section item part)) × TookNothing out
Came Ends (Err fault.TraceTooLong) Unread out = Ends (Refused trace_too_long) × TookNothing out
Came Ends (Err fault.NoDevice) Unread out = Ends (Refused no_device) × TookNothing out
Came Ends (Err (fault.NotLawful line why)) Unread out = Ends (NotLawful (no_line line (reason_of why))) × TookNothing out
Came Ends (Err fault.SaidNo) Unread out = (text : List ℕ) × Ends (SaidNo text) × Took out text
Came Ends (Err fault.ReadFailed) Unread out = Unread × TookNothing out
Came Ends (Err fault.WriteFailed) Unread out = (ending : Ending) × Ends ending × TookTextPart out (text_of ending) × Failed out
Came Ends (Err fault.AtLimit) Unread out = (text : List ℕ) × Ends (AtLimit text) × Took out text
Came Ends (Err fault.NoMemory) Unread out = TookNothing out

-- a text was written, a prefix of it where a write failed, or nothing where memory ran out
abbrev pub Wrote : List ℕ → Work → Taking → Type 0
Wrote text (Ok done) out = Took out text
Wrote text (Err fault.WriteFailed) out = TookPart out text × Failed out
Wrote text (Err fault.NoMemory) out = TookNothing out
Wrote text (Err _) out = ⊥

-- why a plan isn't read: it is refused, a read failed, or memory ran out
abbrev pub IsUnread : Bool → Option (List ℕ) → Type 0 → Fault → Type 0
IsUnread all told Unread (fault.Refused why section item part) = OfPlan all told (λ _ _. ⊥) (Refused (refusal_text why section item part))
IsUnread all told Unread fault.ReadFailed = Unread
IsUnread all told Unread fault.NoMemory = ⊤
IsUnread all told Unread _ = ⊥
