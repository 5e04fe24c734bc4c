-- What `say` comes to.
use Rattle.std.proofs.Common.{◌≡◌, ◌∙◌, ℕ, Bool, List, Option, ap, subst, sym}
use Rattle.pm_cmd_ends.specs.Ending.{Taking}
use Rattle.pm_cmd_ends.specs.Reading.{Holds, IsTooLong}
use Rattle.pm_cmd_lab.specs.ends.Coming.{Came, Work, Writes, ending_of}
use Rattle.pm_cmd_lab.specs.ends.Ending.{Ending, SaidRefused}
use Rattle.pm_cmd_lab.specs.ends.Reading.{TellsTooLong, held, too_long}
use Rattle.pm_cmd_lab.specs.declared.ends.ending.Outcome.{Outcome}
use Rattle.pm_cmd_lab.specs.declared.ends.ending.Outcome.TheVariants as outcome
use Rattle.pm_cmd_lab.proofs.ends.EndLemmas.{came_weaker}
use Rattle.pm_say_driver.specs.Told.{SaysFile}
use Rattle.pm_say.specs.declared.told.Said.{Said}
use Rattle.pm_cmd_lab.specs.others.Commands.{SayEnds, SayEndsOf, outcome_of}

-- what is said of bytes, written
pub said_written : (file handed_file bytes piece : List ℕ) (said : Said) (told : Outcome) (out : Taking) (work : Work) → SaysFile handed_file bytes said
    → handed_file ≡ file → told ≡ outcome_of said.kind → piece ≡ said.text.items → Came (Writes told piece) work ⊥ out → Came (SayEndsOf file bytes) work ⊥ out
said_written file handed_file bytes piece said told out work says same_file same_told same came =
    came_weaker (Writes told piece) (SayEndsOf file bytes) ⊥ ⊥
    (λ ending is. record {
      said = said;
      says = subst (λ (name : List ℕ). SaysFile name bytes said) same_file says;
      is = is ∙ (ap (λ (o : Outcome). ending_of o piece) same_told ∙ ap (λ (text : List ℕ). ending_of (outcome_of said.kind) text) same);
    })
    (λ none. none) out work came

-- what is said of the bytes of a file
pub said_of_file : (all : Bool) (known : Option (List ℕ)) (file bytes handed : List ℕ) (Unread : Type 0) (out : Taking) (work : Work) → Holds all known 1048576 bytes
    → handed ≡ bytes → Came (SayEndsOf file handed) work ⊥ out → Came (SayEnds all known file) work Unread out
said_of_file all known file bytes handed Unread out work holds same came =
    came_weaker (SayEndsOf file handed) (SayEnds all known file) ⊥ Unread
    (λ ending ends. held bytes holds ending (subst (λ (x : List ℕ). SayEndsOf file x ending) same ends)) (λ none. absurd none) out work came

-- what is said of a file that is too long, written
pub long_written : (all : Bool) (known : Option (List ℕ)) (file text piece : List ℕ) (Unread : Type 0) (out : Taking) (work : Work) → IsTooLong all known 1048576
    → TellsTooLong file text → piece ≡ text → Came (Writes outcome.Refused piece) work ⊥ out → Came (SayEnds all known file) work Unread out
long_written all known file text piece Unread out work long tells same came =
    came_weaker (Writes outcome.Refused piece) (SayEnds all known file) ⊥ Unread
    (λ ending is. subst (λ (e : Ending). SayEnds all known file e) (sym (is ∙ ap (λ (x : List ℕ). SaidRefused x) same)) (too_long long text tells))
    (λ none. absurd none) out work came
