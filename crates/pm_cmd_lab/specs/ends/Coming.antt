-- What the work of a command of pm_lab came to, before its message is written (this project's own).
use Rattle.std.specs.Prelude.{◌≡◌, ⊤, ℕ, Bool, Option, List, [], Result, Ok, Err, codes}
use Rattle.pm_cmd_ends.specs.Ending.{Failed, Taking, Took, TookNothing, TookTextPart}
use Rattle.pm_cmd_ends.specs.Reading.{IsTooLong}
use Rattle.pm_cmd_lab.specs.ends.Ending.{AtLimit, Done, Ending, Found, Refused, SaidRefused, read_message, text_of}
use Rattle.pm_cmd_lab.specs.ends.Reading.{OfPlan, TellsTooLong}
use Rattle.pm_cmd_lab.specs.declared.ends.ending.Fault.{Fault}
use Rattle.pm_cmd_lab.specs.declared.ends.ending.Fault.TheVariants as fault
use Rattle.pm_cmd_lab.specs.declared.ends.ending.Outcome.{Outcome}
use Rattle.pm_cmd_lab.specs.declared.ends.ending.Outcome.TheVariants as outcome

-- the work of a command, with the status and the message that follow it
abbrev pub Work : Type 0
Work = Result Outcome Fault

abbrev pub outcome_status : Outcome → ℕ
outcome_status outcome.Done = 0
outcome_status outcome.Found = 1
outcome_status outcome.Refused = 3
outcome_status outcome.AtLimit = 6

abbrev pub fault_status : Fault → ℕ
fault_status (fault.Refused text) = 3
fault_status fault.ReadFailed = 4
fault_status fault.WriteFailed = 5
fault_status fault.NoMemory = 7

abbrev pub work_status : Work → ℕ
work_status (Ok told) = outcome_status told
work_status (Err f) = fault_status f

-- the message that follows the work of a command over this file
abbrev pub work_message : List ℕ → Work → List ℕ
work_message file (Ok told) = []
work_message file (Err (fault.Refused text)) = text.items
work_message file (Err fault.ReadFailed) = read_message file
work_message file (Err fault.WriteFailed) = codes "write\n"
work_message file (Err fault.NoMemory) = codes "memory\n"

-- the ending of a text that was written
abbrev pub ending_of : Outcome → List ℕ → Ending
ending_of outcome.Done text = Done text
ending_of outcome.Found text = Found text
ending_of outcome.Refused text = SaidRefused text
ending_of outcome.AtLimit text = AtLimit text

-- the only ending of a command whose text is this
abbrev pub Writes : Outcome → List ℕ → Ending → Type 0
Writes told text ending = ending ≡ ending_of told text

-- the work of a command that may come to these endings is done, or has a fault; and so much `out` took
abbrev pub Came : (Ending → Type 0) → Work → Type 0 → Taking → Type 0
Came Ends (Ok told) Unread out = (text : List ℕ) × Ends (ending_of told text) × Took out text
Came Ends (Err (fault.Refused text)) Unread out = Ends (Refused text.items) × TookNothing out
Came Ends (Err fault.ReadFailed) Unread out = Unread × TookNothing out
Came Ends (Err fault.WriteFailed) Unread out = (ending : Ending) × Ends ending × TookTextPart out (text_of ending) × Failed out
Came Ends (Err fault.NoMemory) Unread out = TookNothing out

-- why the bytes of a plan's file aren't read whole: they are too many, a read failed, or memory ran out
abbrev pub IsUnheld : Bool → Option (List ℕ) → List ℕ → Type 0 → Fault → Type 0
IsUnheld all known file Unread (fault.Refused text) = IsTooLong all known 1048576 × TellsTooLong file text.items
IsUnheld all known file Unread fault.ReadFailed = Unread
IsUnheld all known file Unread fault.WriteFailed = ⊥
IsUnheld all known file Unread fault.NoMemory = ⊤

-- why a plan isn't read: it is refused, a read failed, or memory ran out
abbrev pub IsUnread : Bool → Option (List ℕ) → List ℕ → Type 0 → Fault → Type 0
IsUnread all known file Unread (fault.Refused text) = OfPlan all known file (λ _ _. ⊥) (Refused text.items)
IsUnread all known file Unread fault.ReadFailed = Unread
IsUnread all known file Unread fault.WriteFailed = ⊥
IsUnread all known file Unread fault.NoMemory = ⊤
