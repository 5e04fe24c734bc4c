-- How a command of pm_lab ends: its status, what `out` took and what `err` took (this project's own). What sinks took is said as of pm_top's commands.
use Rattle.std.specs.Prelude.{◌≡◌, ℕ, List, [], ◌++◌, Option, Some, None, codes}
use Rattle.pm_cmd_ends.specs.Ending.{Failed, Taking, Told, TookNothing, TookText, TookTextPart}
use Rattle.pm_model.specs.Spelling.{newline}

abbrev pub usage : List ℕ
usage = codes "usage: pm_lab say PLAN | find PLAN TRACE [--expect FILE] [--ktap] [--notes] | find FILE [--eager|--late] [--most K] [--fail F] [--states N] [--notes] | picture PLAN TRACE [--json] | orders PLAN [--late] [--most K] [--states N] [--differ] [--expect FILE|--seen LOG] | order PLAN [--late] [--most K] [--states N] CALLER N CODE|end DEVICE STATUS USAGE ERROR|--expect FILE fails INDEX | order FILE [--plan] finding N, with the options of find FILE | kernel PLAN | help [COMMAND] | --version\n"

-- a read of this file failed
abbrev pub read_message : List ℕ → List ℕ
read_message file = codes "read: " ++ (file ++ newline)

-- What a command may come to where neither reading nor writing nor memory fails: it is done, it found something, it tells why
-- the plan is refused, or a limit came first, and this is its text; or the plan is refused, and this message tells of it; or what is
-- asked for isn't there, or it wasn't seen before a limit came, and this message says so.
pub data Ending : Type 0 where
  Done Found SaidRefused AtLimit : (text : List ℕ) → Ending
  Refused Absent Unseen : (message : List ℕ) → Ending

abbrev pub status_of : Ending → ℕ
status_of (Done text) = 0
status_of (Found text) = 1
status_of (SaidRefused text) = 3
status_of (AtLimit text) = 6
status_of (Refused message) = 3
status_of (Absent message) = 1
status_of (Unseen message) = 6

-- the text, where one is written
abbrev pub text_of : Ending → Option (List ℕ)
text_of (Done text) = Some text
text_of (Found text) = Some text
text_of (SaidRefused text) = Some text
text_of (AtLimit text) = Some text
text_of (Refused message) = None
text_of (Absent message) = None
text_of (Unseen message) = None

abbrev pub message_of : Ending → List ℕ
message_of (Done text) = []
message_of (Found text) = []
message_of (SaidRefused text) = []
message_of (AtLimit text) = []
message_of (Refused message) = message
message_of (Absent message) = message
message_of (Unseen message) = message

-- a read failed, and it was a read of this file
abbrev pub OfThis : List ℕ → Type 0 → List ℕ → Type 0
OfThis file Unread name = (name ≡ file) × Unread

-- What a call of any command answered and wrote, for a command that may come to these endings: an ending of its own; or a read
-- of the file that it names failed, which it says only where that holds of the name; or a write failed, which it says only where
-- the count of faults of `out` rose, and `out` took a prefix of the text of an ending; or memory ran out. Where it ends otherwise
-- than by an ending of its own or by a write that failed, `out` took nothing.
pub data Answered (Ends : Ending → Type 0) (status : ℕ) (Unread : List ℕ → Type 0) (out err : Taking) : Type 0 where
  ended : (ending : Ending) → Ends ending → status ≡ status_of ending → TookText out (text_of ending) → Told err (message_of ending) → Answered Ends status Unread out err
  unread : (file : List ℕ) → Unread file → status ≡ 4 → TookNothing out → Told err (read_message file) → Answered Ends status Unread out err
  unwritten : (ending : Ending) → Ends ending → status ≡ 5 → Failed out → TookTextPart out (text_of ending) → Told err (codes "write\n") → Answered Ends status Unread out err
  no_memory : status ≡ 7 → TookNothing out → Told err (codes "memory\n") → Answered Ends status Unread out err
