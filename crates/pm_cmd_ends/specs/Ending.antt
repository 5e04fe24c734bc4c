-- How a command ends: its status, what `out` took and what `err` took (this project's own).
use Rattle.std.specs.Prelude.{◌≡◌, ℕ, ◌⊎◌, Option, Some, None, List, [], codes}
use Rattle.std.specs.Io.KnownBytes.{append_known}
use Rattle.pm_io.specs.Faults.{Rose}
use Rattle.pm_io.specs.Sink.{TookPrefix}

abbrev pub usage : List ℕ
usage = codes "usage: pm_top serial PLAN | run PLAN [--hands N] | audit PLAN TRACE | check PLAN | make NUMBER DEVICES | convert PLAN TRACE | times PLAN TRACE | why PLAN TRACE DEVICE | desk PLAN\n"

-- what a command may come to where neither reading nor writing nor memory fails. What it comes to is its own: it is done,
-- and this is its text; its run has all the lines that the plan allows and isn't finished, and this is its text; its
-- trace is the text of no lawful list, and the line that says so is its text, or its message; it is refused with this
-- message
pub data Ending : Type 0 where
  Done AtLimit SaidNo : (text : List ℕ) → Ending
  NotLawful Refused : (message : List ℕ) → Ending

abbrev pub status_of : Ending → ℕ
status_of (Done text) = 0
status_of (AtLimit text) = 6
status_of (SaidNo text) = 1
status_of (NotLawful message) = 1
status_of (Refused message) = 3

-- the text, where one is written
abbrev pub text_of : Ending → Option (List ℕ)
text_of (Done text) = Some text
text_of (AtLimit text) = Some text
text_of (SaidNo text) = Some text
text_of (NotLawful message) = None
text_of (Refused message) = None

abbrev pub message_of : Ending → List ℕ
message_of (Done text) = []
message_of (AtLimit text) = codes "limit\n"
message_of (SaidNo text) = []
message_of (NotLawful message) = message
message_of (Refused message) = message

-- a sink before a call and after it: the bytes taken, where it tells them, and the count of faults
pub record Taking : Type 0 where
  pub old : Option (List ℕ)
  pub new : Option (List ℕ)
  pub faults_old : ℕ
  pub faults_new : ℕ

abbrev pub taking : {S : Type 0} → (S → Option (List ℕ)) → (S → ℕ) → S → S → Taking
taking taken faults old new = record { old = taken old; new = taken new; faults_old = faults old; faults_new = faults new }

-- it took exactly this, nothing, or a prefix of this; and its count of faults rose
abbrev pub Took : Taking → List ℕ → Type 0
Took sink bytes = sink.new ≡ append_known sink.old bytes

abbrev pub TookNothing : Taking → Type 0
TookNothing sink = sink.new ≡ sink.old

abbrev pub TookPart : Taking → List ℕ → Type 0
TookPart sink bytes = TookPrefix sink.old sink.new bytes

abbrev pub Failed : Taking → Type 0
Failed sink = Rose sink.faults_old sink.faults_new

-- it took the text, or nothing where there is none
abbrev pub TookText : Taking → Option (List ℕ) → Type 0
TookText sink (Some text) = Took sink text
TookText sink None = TookNothing sink

-- there is a text, and it took a prefix of it
abbrev pub TookTextPart : Taking → Option (List ℕ) → Type 0
TookTextPart sink (Some text) = TookPart sink text
TookTextPart sink None = ⊥

-- it took the message, or a prefix of it where its count of faults rose
abbrev pub Told : Taking → List ℕ → Type 0
Told sink message = Took sink message ⊎ (TookPart sink message × Failed sink)

-- What a call of any command answered and wrote, for a command that may come to these endings: an ending of its own; or
-- a read failed, which it says only where the count of faults of its files rose; or a write failed, which it says only
-- where that of `out` rose, and `out` took a prefix of the text of an ending; or memory ran out. Where it ends otherwise
-- than by an ending of its own or by a write that failed, `out` took nothing.
pub data Answered (Ends : Ending → Type 0) (status : ℕ) (Unread : Type 0) (out err : Taking) : Type 0 where
  ended : (ending : Ending) → Ends ending → status ≡ status_of ending → TookText out (text_of ending) → Told err (message_of ending) → Answered Ends status Unread out err
  unread : status ≡ 4 → Unread → TookNothing out → Told err (codes "read\n") → Answered Ends status Unread out err
  unwritten : (ending : Ending) → Ends ending → status ≡ 5 → Failed out → TookTextPart out (text_of ending) → Told err (codes "write\n") → Answered Ends status Unread out err
  no_memory : status ≡ 7 → TookNothing out → Told err (codes "memory\n") → Answered Ends status Unread out err
