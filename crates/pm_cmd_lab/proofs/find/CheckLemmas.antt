-- What `find --expect` comes to.
use Rattle.std.proofs.Common.{◌≡◌, ℕ, Bool, List, [], Option, Result, Ok, Err, Vec, Global, refl, subst, sym}
use Rattle.std.specs.Prelude.{IfErr, IsSome}
use Rattle.pm_cmd_ends.specs.Coming.{trace_too_long}
use Rattle.pm_cmd_ends.specs.Ending.{Taking, TookNothing}
use Rattle.pm_cmd_ends.specs.Reading.{Holds, IsRead, IsTooLong}
use Rattle.pm_expect.specs.declared.expectation.Expectations.{Expectations}
use Rattle.pm_expect_report.specs.refused.Tells.{Tells}
use Rattle.pm_find.specs.declared.trace.telling.Found.{Found}
use Rattle.pm_model.specs.declared.plan.Plan.{Plan}
use Rattle.pm_planread.specs.PlanOf.{contents_of, plan_of}
use Rattle.pm_cmd_lab.specs.ends.Coming.{Came, Work, Writes}
use Rattle.pm_cmd_lab.specs.ends.Ending.{Answered, Ending, OfThis, Refused, SaidRefused, ended, no_memory, unread, unwritten}
use Rattle.pm_cmd_lab.specs.ends.Reading.{OfPlan, held, read as plan_read}
use Rattle.pm_cmd_lab.specs.declared.ends.ending.Fault.{Fault}
use Rattle.pm_cmd_lab.specs.declared.ends.ending.Fault.TheVariants as fault
use Rattle.pm_cmd_lab.specs.declared.ends.ending.Outcome.TheVariants as outcome
use Rattle.pm_cmd_lab.proofs.ends.EndLemmas.{came_weaker}
use Rattle.pm_cmd_lab.specs.find.Find.{FindEnds}
use Rattle.pm_cmd_lab.specs.find.Check.{AreRead, CheckUnread, IsNotRead, IsTextUnread, IsTold, IsToldUnread, OfCheck, OfExpectations, RunUnread, long_refusal, of_expect, of_plan, of_trace, read, refused, told, too_long, too_many}

-- the same of a command that may come to more endings, and of which more reads may fail
pub answered_more : (E F : Ending → Type 0) (U V : List ℕ → Type 0) (status : ℕ) (out err : Taking) → ((ending : Ending) → E ending → F ending) → ((name : List ℕ) → U name → V name)
    → Answered E status U out err → Answered F status V out err
answered_more E F U V status out err more reads (ended ending ends is took said) = ended ending (more ending ends) is took said
answered_more E F U V status out err more reads (unread file failed is nothing said) = unread file (reads file failed) is nothing said
answered_more E F U V status out err more reads (unwritten ending ends is failed part said) = unwritten ending (more ending ends) is failed part said
answered_more E F U V status out err more reads (no_memory is nothing said) = no_memory is nothing said

-- over a plan that was read
pub over_plan : (all : Bool) (known : Option (List ℕ)) (file : List ℕ) (plan : Plan) (Ends : Plan → Ending → Type 0) → IsRead all known plan → (ending : Ending) → Ends plan ending → OfPlan all known file Ends ending
over_plan all known file plan Ends reads ending ends = held reads.bytes reads.holds ending (plan_read plan reads.is ending ends)

-- a refusal, whatever the command's own endings are
refused_too : {all : Bool} {known : Option (List ℕ)} {file : List ℕ} {Ends : Plan → List ℕ → Expectations → Ending → Type 0} {plan : Plan} {ending : Ending}
    → OfExpectations all known file (λ _ _ _ _. ⊥) plan ending → OfExpectations all known file Ends plan ending
refused_too (too_long long said tells) = too_long long said tells
refused_too (refused text holds refusal is said tells) = refused text holds refusal is said tells
refused_too (read text expected are ending none) = absurd none

-- a file of expectations that is refused, written
pub refusal_written : (all : Bool) (known : Option (List ℕ)) (file : List ℕ) (Ends : Plan → List ℕ → Expectations → Ending → Type 0) (plan : Plan) (text : Vec ℕ Global) (piece : List ℕ) (Unread : Type 0) (out : Taking) (work : Work)
    → piece ≡ text.items → IsNotRead all known file plan Unread (fault.Refused text) → Came (Writes outcome.Refused piece) work ⊥ out → Came (OfExpectations all known file Ends plan) work Unread out
refusal_written all known file Ends plan text piece Unread out work same is came =
    came_weaker (Writes outcome.Refused piece) (OfExpectations all known file Ends plan) ⊥ Unread
    (λ ending writes. subst (OfExpectations all known file Ends plan) (sym writes)
    (subst (λ (bytes : List ℕ). OfExpectations all known file Ends plan (SaidRefused bytes)) (sym same) (refused_too is)))
    (λ none. absurd none) out work came

-- over what it expects
pub over_expected : (all : Bool) (known : Option (List ℕ)) (file : List ℕ) (Ends : Plan → List ℕ → Expectations → Ending → Type 0) (plan : Plan) (text : List ℕ) (expected : Expectations) (U V : Type 0) (out : Taking) (work : Work)
    → (U → V) → AreRead all known plan text expected → Came (Ends plan text expected) work U out → Came (OfExpectations all known file Ends plan) work V out
over_expected all known file Ends plan text expected U V out work later are came =
    came_weaker (Ends plan text expected) (OfExpectations all known file Ends plan) U V (λ ending ends. read text expected are ending ends) later out work came

-- of the trace's file
pub found_of_trace : (all : Bool) (known : Option (List ℕ)) (name trace file source named given : List ℕ) (ktap notes : Bool) (plan : Plan) (text : List ℕ) (expected : Expectations) (found : Found) (Unread : Type 0) (out : Taking) (work : Work)
    → plan_of source ≡ Ok (contents_of plan) → named ≡ name → given ≡ source → IsTold all known plan file text expected (record { trace = trace; plan = named; text = given }) ktap notes found
    → Came (FindEnds found) work ⊥ out → Came (OfCheck all known name trace file ktap notes plan text expected) work Unread out
found_of_trace all known name trace file source named given ktap notes plan text expected found Unread out work reads same_name same_text is came =
    came_weaker (FindEnds found) (OfCheck all known name trace file ktap notes plan text expected) ⊥ Unread
    (λ ending ends. told source reads found
    (subst (λ (n : List ℕ). IsTold all known plan file text expected (record { trace = trace; plan = n; text = source }) ktap notes found) same_name
    (subst (λ (t : List ℕ). IsTold all known plan file text expected (record { trace = trace; plan = named; text = t }) ktap notes found) same_text is)) ending ends) (λ none. absurd none) out work came

pub trace_long : (all : Bool) (known : Option (List ℕ)) (name trace file : List ℕ) (ktap notes : Bool) (plan : Plan) (text : List ℕ) (expected : Expectations) (said : Vec ℕ Global) (Unread : Type 0) (out : Taking)
    → IsTooLong all known 67108864 → said.items ≡ trace_too_long → TookNothing out → Came (OfCheck all known name trace file ktap notes plan text expected) (Err (fault.Refused said)) Unread out
trace_long all known name trace file ktap notes plan text expected said Unread out long same nothing =
    (subst (λ (bytes : List ℕ). OfCheck all known name trace file ktap notes plan text expected (Refused bytes)) (sym same) (too_many long), nothing)

-- which file's read failed
pub plan_failed : (all : Bool) (known : List ℕ → Option (List ℕ)) (plan expect trace name : List ℕ) (Alone Failed : Type 0) → (IsSome (known plan) → Alone) → OfThis plan Failed name → CheckUnread all known plan expect trace Alone Failed name
plan_failed all known plan expect trace name Alone Failed alone this =
    subst (λ (file : List ℕ). CheckUnread all known plan expect trace Alone Failed file) (sym this.0) (of_plan alone this.1)

pub expect_failed : (all : Bool) (known : Option (List ℕ)) (plan : Plan) (expect trace name : List ℕ) (Failed : Type 0) → OfThis expect Failed name → RunUnread all known plan expect trace Failed name
expect_failed all known plan expect trace name Failed this =
    subst (λ (file : List ℕ). RunUnread all known plan expect trace Failed file) (sym this.0) (of_expect this.1)

pub trace_failed : (all : Bool) (known : Option (List ℕ)) (plan : Plan) (expect trace name text : List ℕ) (expected : Expectations) (Failed : Type 0) → AreRead all known plan text expected → OfThis trace Failed name
    → RunUnread all known plan expect trace Failed name
trace_failed all known plan expect trace name text expected Failed are this =
    subst (λ (file : List ℕ). RunUnread all known plan expect trace Failed file) (sym this.0) (of_trace text expected are this.1)

-- with a read that failed later
pub run_later : (all : Bool) (known : Option (List ℕ)) (plan : Plan) (expect trace name : List ℕ) (Failed Later : Type 0) → (Failed → Later) → RunUnread all known plan expect trace Failed name → RunUnread all known plan expect trace Later name
run_later all known plan expect trace name Failed Later later (of_expect failed) = of_expect (later failed)
run_later all known plan expect trace name Failed Later later (of_trace text expected are failed) = of_trace text expected are (later failed)

-- the texts of files that are refused
pub long_file : (all : Bool) (known : Option (List ℕ)) (file handed : List ℕ) (plan : Plan) (text : Vec ℕ Global) (Unread : Type 0) → IsTooLong all known 262144 → handed ≡ file
    → Tells handed [] long_refusal text.items → IsNotRead all known file plan Unread (fault.Refused text)
long_file all known file handed plan text Unread long same tells =
    too_long long text.items (subst (λ (name : List ℕ). Tells name [] long_refusal text.items) same tells)

pub text_refused : (all : Bool) (known : Option (List ℕ)) (file : List ℕ) (plan : Plan) (text : List ℕ) (Unread : Type 0) (f : Fault) → Holds all known 262144 text → IsTextUnread plan file text f
    → IsNotRead all known file plan Unread f
text_refused all known file plan text Unread (fault.Refused said) holds is = refused text holds is.0 is.1 said.items is.2
text_refused all known file plan text Unread fault.ReadFailed holds is = absurd is
text_refused all known file plan text Unread fault.WriteFailed holds is = absurd is
text_refused all known file plan text Unread fault.NoMemory holds is = tt

pub texts_refused : {T : Type 0} (r : Result T Fault) (all : Bool) (known : Option (List ℕ)) (file : List ℕ) (plan : Plan) (text : List ℕ) (Unread : Type 0) → Holds all known 262144 text → IfErr r (IsTextUnread plan file text)
    → IfErr r (IsNotRead all known file plan Unread)
texts_refused (Ok x) all known file plan text Unread holds is = tt
texts_refused (Err f) all known file plan text Unread holds is = text_refused all known file plan text Unread f holds is

-- why a file of expectations isn't read, told
pub unread_told : (all : Bool) (known : Option (List ℕ)) (file : List ℕ) (Ends : Plan → List ℕ → Expectations → Ending → Type 0) (plan : Plan) (f : Fault) (Unread : Type 0) (out : Taking) (work : Work)
    → IsNotRead all known file plan Unread f → IsToldUnread f work out → Came (OfExpectations all known file Ends plan) work Unread out
unread_told all known file Ends plan (fault.Refused text) Unread out work is shown = refusal_written all known file Ends plan text text.items Unread out work refl is shown
unread_told all known file Ends plan fault.ReadFailed Unread out work is shown = subst (λ (w : Work). Came (OfExpectations all known file Ends plan) w Unread out) (sym shown.0) (is, shown.1)
unread_told all known file Ends plan fault.WriteFailed Unread out work is shown = absurd is
unread_told all known file Ends plan fault.NoMemory Unread out work is shown = subst (λ (w : Work). Came (OfExpectations all known file Ends plan) w Unread out) (sym shown.0) shown.1
