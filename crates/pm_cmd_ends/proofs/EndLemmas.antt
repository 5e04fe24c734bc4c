-- What the ending of a command says.
use Rattle.std.proofs.Common.{◌≡◌, ◌≢◌, ℕ, List, Ok, Err, subst, sym, ◌∙◌}
use Rattle.pm_cmd_ends.specs.Coming.{Came, Work, Wrote, work_message, work_status}
use Rattle.pm_cmd_ends.specs.Ending.{Answered, AtLimit, Done, Ending, Failed, NotLawful, Refused, SaidNo, Taking, Told, Took, TookPart, ended, no_memory, status_of, unread, unwritten}
use Rattle.pm_cmd_ends.specs.declared.ending.Fault.{Fault}
use Rattle.pm_cmd_ends.specs.declared.ending.Fault.TheVariants as fault
use Rattle.pm_cmd_ends.specs.declared.ending.TheConstants.{WRONG_WORDS}

-- the same for a command that may come to more endings
pub came_weaker : (E F : Ending → Type 0) (U V : Type 0) → ((ending : Ending) → E ending → F ending) → (U → V) → (out : Taking) (work : Work) → Came E work U out → Came F work V out
came_weaker E F U V more reads out (Ok done) came = (came.0, more (Done came.0) came.1, came.2)
came_weaker E F U V more reads out (Err (fault.Refused why section item part)) came = (more _ came.0, came.1)
came_weaker E F U V more reads out (Err fault.TraceTooLong) came = (more _ came.0, came.1)
came_weaker E F U V more reads out (Err fault.NoDevice) came = (more _ came.0, came.1)
came_weaker E F U V more reads out (Err (fault.NotLawful line why)) came = (more _ came.0, came.1)
came_weaker E F U V more reads out (Err fault.SaidNo) came = (came.0, more (SaidNo came.0) came.1, came.2)
came_weaker E F U V more reads out (Err fault.ReadFailed) came = (reads came.0, came.1)
came_weaker E F U V more reads out (Err fault.WriteFailed) came = (came.0, more came.0 came.1, came.2, came.3)
came_weaker E F U V more reads out (Err fault.AtLimit) came = (came.0, more (AtLimit came.0) came.1, came.2)
came_weaker E F U V more reads out (Err fault.NoMemory) came = came

-- a text of which a prefix was written, or all
pub wrote_part : (work : Work) (f : Fault) (bytes piece : List ℕ) (out : Taking) → work ≡ Err f → f ≡ fault.WriteFailed → piece ≡ bytes → TookPart out piece → Failed out → Wrote bytes work out
wrote_part work f bytes piece out is fails same part failed = rw (is, fails) (subst (TookPart out) same part, failed)

pub wrote_all : (bytes piece : List ℕ) (out : Taking) → piece ≡ bytes → Took out piece → Took out bytes
wrote_all bytes piece out same took = subst (Took out) same took

-- the text of a command that is done, of which a prefix was written
pub done_part : (Ends : Ending → Type 0) (Unread : Type 0) (work : Work) (f : Fault) (bytes piece : List ℕ) (out : Taking) → work ≡ Err f → f ≡ fault.WriteFailed → piece ≡ bytes → Ends (Done bytes) → TookPart out piece → Failed out → Came Ends work Unread out
done_part Ends Unread work f bytes piece out is fails same ends part failed = rw (is, fails) (Done bytes, ends, subst (TookPart out) same part, failed)

-- the work of a command, and behind it its message and its status
pub answered : (Ends : Ending → Type 0) (Unread : Type 0) (work : Work) (status : ℕ) (out err : Taking) → Came Ends work Unread out → status ≡ work_status work → Told err (work_message work) → Answered Ends status Unread out err
answered Ends Unread (Ok done) status out err came is told = ended (Done came.0) came.1 is came.2 told
answered Ends Unread (Err (fault.Refused why section item part)) status out err came is told = ended (Refused _) came.0 is came.1 told
answered Ends Unread (Err fault.TraceTooLong) status out err came is told = ended (Refused _) came.0 is came.1 told
answered Ends Unread (Err fault.NoDevice) status out err came is told = ended (Refused _) came.0 is came.1 told
answered Ends Unread (Err (fault.NotLawful line why)) status out err came is told = ended (NotLawful _) came.0 is came.1 told
answered Ends Unread (Err fault.SaidNo) status out err came is told = ended (SaidNo came.0) came.1 is came.2 told
answered Ends Unread (Err fault.ReadFailed) status out err came is told = unread is came.0 came.1 told
answered Ends Unread (Err fault.WriteFailed) status out err came is told = unwritten came.0 came.1 is came.3 came.2 told
answered Ends Unread (Err fault.AtLimit) status out err came is told = ended (AtLimit came.0) came.1 is came.2 told
answered Ends Unread (Err fault.NoMemory) status out err came is told = no_memory is came told

-- a command that reads no file never says that a read failed
pub answered_unread : (Ends : Ending → Type 0) (Unread : Type 0) (status : ℕ) (out err : Taking) → Answered Ends status ⊥ out err → Answered Ends status Unread out err
answered_unread Ends Unread status out err (ended ending ends is took told) = ended ending ends is took told
answered_unread Ends Unread status out err (unread is none nothing told) = absurd none
answered_unread Ends Unread status out err (unwritten ending ends is failed part told) = unwritten ending ends is failed part told
answered_unread Ends Unread status out err (no_memory is nothing told) = no_memory is nothing told

-- no command answers as wrong words are answered
own_status : (ending : Ending) → status_of ending ≢ WRONG_WORDS
own_status (Done bytes) = λ is. cc
own_status (AtLimit bytes) = λ is. cc
own_status (SaidNo bytes) = λ is. cc
own_status (NotLawful message) = λ is. cc
own_status (Refused message) = λ is. cc

pub not_wrong_words : (Ends : Ending → Type 0) (Unread : Type 0) (status : ℕ) (out err : Taking) → Answered Ends status Unread out err → status ≢ WRONG_WORDS
not_wrong_words Ends Unread status out err (ended ending ends is took told) = λ wrong. own_status ending (sym is ∙ wrong)
not_wrong_words Ends Unread status out err (unread is unread_is nothing told) = λ wrong. cc
not_wrong_words Ends Unread status out err (unwritten ending ends is failed part told) = λ wrong. cc
not_wrong_words Ends Unread status out err (no_memory is nothing told) = λ wrong. cc
