-- What the ending of a command of pm_lab says.
use Rattle.std.proofs.Common.{◌≡◌, ◌≢◌, ◌∙◌, ℕ, List, Ok, Err, refl, subst, sym}
use Rattle.pm_cmd_ends.specs.Ending.{Failed, Taking, Told, Took, TookPart}
use Rattle.pm_cmd_ends.specs.declared.ending.TheConstants.{WRONG_WORDS}
use Rattle.pm_cmd_lab.specs.ends.Coming.{Came, Work, ending_of, work_message, work_status}
use Rattle.pm_cmd_lab.specs.ends.Ending.{Absent, Answered, AtLimit, Done, Ending, Found, OfThis, Refused, SaidRefused, Unseen, ended, no_memory, status_of, unread, unwritten}
use Rattle.pm_cmd_lab.specs.declared.ends.ending.Fault.{Fault}
use Rattle.pm_cmd_lab.specs.declared.ends.ending.Fault.TheVariants as fault
use Rattle.pm_cmd_lab.specs.declared.ends.ending.Outcome.{Outcome}
use Rattle.pm_cmd_lab.specs.declared.ends.ending.Outcome.TheVariants as outcome

-- the same for a command that may come to more endings
pub came_weaker : (E F : Ending → Type 0) (U V : Type 0) → ((ending : Ending) → E ending → F ending) → (U → V) → (out : Taking) (work : Work) → Came E work U out → Came F work V out
came_weaker E F U V more reads out (Ok told) came = (came.0, more (ending_of told came.0) came.1, came.2)
came_weaker E F U V more reads out (Err (fault.Refused text)) came = (more (Refused text.items) came.0, came.1)
came_weaker E F U V more reads out (Err fault.ReadFailed) came = (reads came.0, came.1)
came_weaker E F U V more reads out (Err fault.WriteFailed) came = (came.0, more came.0 came.1, came.2, came.3)
came_weaker E F U V more reads out (Err fault.NoMemory) came = came

-- a text that was written, and one of which a prefix was
pub text_written : (Ends : Ending → Type 0) (Unread : Type 0) (told : Outcome) (bytes piece : List ℕ) (out : Taking) → piece ≡ bytes → Ends (ending_of told bytes) → Took out piece → Came Ends (Ok told) Unread out
text_written Ends Unread told bytes piece out same ends took = (bytes, ends, subst (Took out) same took)

pub text_part : (Ends : Ending → Type 0) (Unread : Type 0) (told : Outcome) (work : Work) (f : Fault) (bytes piece : List ℕ) (out : Taking) → work ≡ Err f → f ≡ fault.WriteFailed → piece ≡ bytes → Ends (ending_of told bytes) → TookPart out piece → Failed out → Came Ends work Unread out
text_part Ends Unread outcome.Done work f bytes piece out is fails same ends part failed = rw (is, fails) (Done bytes, ends, subst (TookPart out) same part, failed)
text_part Ends Unread outcome.Found work f bytes piece out is fails same ends part failed = rw (is, fails) (Found bytes, ends, subst (TookPart out) same part, failed)
text_part Ends Unread outcome.Refused work f bytes piece out is fails same ends part failed = rw (is, fails) (SaidRefused bytes, ends, subst (TookPart out) same part, failed)
text_part Ends Unread outcome.AtLimit work f bytes piece out is fails same ends part failed = rw (is, fails) (AtLimit bytes, ends, subst (TookPart out) same part, failed)

-- the work of a command over a file, and behind it its message and its status
pub answered : (Ends : Ending → Type 0) (file : List ℕ) (Unread : Type 0) (work : Work) (status : ℕ) (out err : Taking)
    → Came Ends work Unread out → status ≡ work_status work → Told err (work_message file work) → Answered Ends status (OfThis file Unread) out err
answered Ends file Unread (Ok outcome.Done) status out err came is told = ended (Done came.0) came.1 is came.2 told
answered Ends file Unread (Ok outcome.Found) status out err came is told = ended (Found came.0) came.1 is came.2 told
answered Ends file Unread (Ok outcome.Refused) status out err came is told = ended (SaidRefused came.0) came.1 is came.2 told
answered Ends file Unread (Ok outcome.AtLimit) status out err came is told = ended (AtLimit came.0) came.1 is came.2 told
answered Ends file Unread (Err (fault.Refused text)) status out err came is told = ended (Refused text.items) came.0 is came.1 told
answered Ends file Unread (Err fault.ReadFailed) status out err came is told = unread file (refl, came.0) is came.1 told
answered Ends file Unread (Err fault.WriteFailed) status out err came is told = unwritten came.0 came.1 is came.3 came.2 told
answered Ends file Unread (Err fault.NoMemory) status out err came is told = no_memory is came told

-- the same of more reads that may fail
pub answered_weaker : (Ends : Ending → Type 0) (U V : List ℕ → Type 0) (status : ℕ) (out err : Taking) → ((name : List ℕ) → U name → V name) → Answered Ends status U out err → Answered Ends status V out err
answered_weaker Ends U V status out err more (ended ending ends is took told) = ended ending ends is took told
answered_weaker Ends U V status out err more (unread file failed is nothing told) = unread file (more file failed) is nothing told
answered_weaker Ends U V status out err more (unwritten ending ends is failed part told) = unwritten ending ends is failed part told
answered_weaker Ends U V status out err more (no_memory is nothing told) = no_memory is nothing told

-- no command answers as wrong words are answered
own_status : (ending : Ending) → status_of ending ≢ WRONG_WORDS
own_status (Done text) = λ is. cc
own_status (Found text) = λ is. cc
own_status (SaidRefused text) = λ is. cc
own_status (AtLimit text) = λ is. cc
own_status (Refused message) = λ is. cc
own_status (Absent message) = λ is. cc
own_status (Unseen message) = λ is. cc

pub not_wrong_words : (Ends : Ending → Type 0) (Unread : List ℕ → Type 0) (status : ℕ) (out err : Taking) → Answered Ends status Unread out err → status ≢ WRONG_WORDS
not_wrong_words Ends Unread status out err (ended ending ends is took told) = λ wrong. own_status ending (sym is ∙ wrong)
not_wrong_words Ends Unread status out err (unread file unread_is is nothing told) = λ wrong. cc
not_wrong_words Ends Unread status out err (unwritten ending ends is failed part told) = λ wrong. cc
not_wrong_words Ends Unread status out err (no_memory is nothing told) = λ wrong. cc
