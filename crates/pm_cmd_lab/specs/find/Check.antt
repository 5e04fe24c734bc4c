-- What `find --expect` may come to (this project's own).
use Rattle.std.specs.Prelude.{◌≡◌, ⊤, ℕ, Bool, Option, List, [], Ok, Err, IsSome}
use Rattle.pm_expect_report.specs.trace.Checks.{IsToldOf}
use Rattle.pm_cmd_ends.specs.Coming.{trace_too_long}
use Rattle.pm_cmd_ends.specs.Ending.{Taking, TookNothing}
use Rattle.pm_cmd_ends.specs.Reading.{Holds, IsRead, IsTooLong}
use Rattle.pm_expect.specs.Expected.{expected_in}
use Rattle.pm_expect.specs.declared.expectation.Expectations.{Expectations}
use Rattle.pm_expect.specs.declared.refusal.Refusal.{Refusal}
use Rattle.pm_expect.specs.declared.refusal.Section.TheVariants.{Top}
use Rattle.pm_expect.specs.declared.refusal.Why.TheVariants.{TooLong}
use Rattle.pm_expect_report.specs.refused.Tells.{Tells}
use Rattle.pm_find.specs.declared.trace.telling.Found.{Found}
use Rattle.pm_find.specs.trace.Texts.{Files}
use Rattle.pm_cmd_lab.specs.ends.Coming.{Came, Work, Writes}
use Rattle.pm_cmd_lab.specs.ends.Ending.{Ending, Refused, SaidRefused}
use Rattle.pm_cmd_lab.specs.declared.ends.ending.Fault.{Fault}
use Rattle.pm_cmd_lab.specs.declared.ends.ending.Fault.TheVariants as fault
use Rattle.pm_cmd_lab.specs.declared.ends.ending.Outcome.TheVariants as outcome
use Rattle.pm_cmd_lab.specs.find.Find.{FindEnds}
use Rattle.pm_model.specs.declared.plan.Plan.{Plan}
use Rattle.pm_planread.specs.PlanOf.{contents_of, plan_of}

-- the file of expectations has this text, and this is what it expects of the plan's runs
pub record AreRead (all : Bool) (known : Option (List ℕ)) (plan : Plan) (text : List ℕ) (expected : Expectations) : Type 0 where
  pub holds : Holds all known 262144 text
  pub is : expected_in plan text ≡ Ok expected

-- the refusal of a file that is too long
abbrev pub long_refusal : Refusal
long_refusal = record { section = Top; item = 0; why = TooLong }

-- Over a plan, of a file of expectations of this name: it has more bytes than such a file may have, or it is refused, and the text tells
-- so; or it is read, and the command has endings over its text and what it expects.
pub data OfExpectations (all : Bool) (known : Option (List ℕ)) (file : List ℕ) (Ends : Plan → List ℕ → Expectations → Ending → Type 0) (plan : Plan) : Ending → Type 0 where
  too_long : IsTooLong all known 262144 → (told : List ℕ) → Tells file [] long_refusal told → OfExpectations all known file Ends plan (SaidRefused told)
  refused : (text : List ℕ) → Holds all known 262144 text → (refusal : Refusal) → expected_in plan text ≡ Err refusal → (told : List ℕ) → Tells file text refusal told
      → OfExpectations all known file Ends plan (SaidRefused told)
  read : (text : List ℕ) (expected : Expectations) → AreRead all known plan text expected → (ending : Ending) → Ends plan text expected ending
      → OfExpectations all known file Ends plan ending

-- what is told of the file of a trace
pub record IsTold (all : Bool) (known : Option (List ℕ)) (plan : Plan) (file text : List ℕ) (expected : Expectations) (files : Files) (ktap notes : Bool) (found : Found) : Type 0 where
  pub bytes : List ℕ
  pub holds : Holds all known 67108864 bytes
  pub told : IsToldOf plan file text expected files bytes ktap notes found

-- `find PLAN TRACE --expect FILE`, over what the file expects, of a plan in a file of this name: a trace that is too long is told so; or the trace is
-- read, and the text is what is told of it, with places in a text that is the plan
pub data OfCheck (all : Bool) (known : Option (List ℕ)) (name trace file : List ℕ) (ktap notes : Bool) (plan : Plan) (text : List ℕ) (expected : Expectations) : Ending → Type 0 where
  too_many : IsTooLong all known 67108864 → OfCheck all known name trace file ktap notes plan text expected (Refused trace_too_long)
  told : (source : List ℕ) → plan_of source ≡ Ok (contents_of plan) → (found : Found)
      → IsTold all known plan file text expected (record { trace = trace; plan = name; text = source }) ktap notes found → (ending : Ending) → FindEnds found ending
      → OfCheck all known name trace file ktap notes plan text expected ending

-- over a plan, of files of which so much is told
abbrev pub CheckEnds : Bool → (List ℕ → Option (List ℕ)) → List ℕ → List ℕ → List ℕ → Bool → Bool → Plan → Ending → Type 0
CheckEnds all tells name expect trace ktap notes = OfExpectations all (tells expect) expect (OfCheck all (tells trace) name trace expect ktap notes)

-- which file's read failed, behind a plan that was read: that of the expectations; or the trace's, and the expectations were read
pub data RunUnread (all : Bool) (known : Option (List ℕ)) (plan : Plan) (expect trace : List ℕ) (Failed : Type 0) : List ℕ → Type 0 where
  of_expect : Failed → RunUnread all known plan expect trace Failed expect
  of_trace : (text : List ℕ) (expected : Expectations) → AreRead all known plan text expected → Failed → RunUnread all known plan expect trace Failed trace

-- which file's read failed: the plan's, and no other file was asked for where all is told of it; or one behind the plan's, which was read
pub data CheckUnread (all : Bool) (told : List ℕ → Option (List ℕ)) (plan expect trace : List ℕ) (Alone Failed : Type 0) : List ℕ → Type 0 where
  of_plan : (IsSome (told plan) → Alone) → Failed → CheckUnread all told plan expect trace Alone Failed plan
  of_run : (from : Plan) → IsRead all (told plan) from → (name : List ℕ) → RunUnread all (told expect) from expect trace Failed name
      → CheckUnread all told plan expect trace Alone Failed name

-- why nothing is expected: the file is too long or refused, a read failed, or memory ran out
abbrev pub IsNotRead : Bool → Option (List ℕ) → List ℕ → Plan → Type 0 → Fault → Type 0
IsNotRead all known file plan Unread (fault.Refused text) = OfExpectations all known file (λ _ _ _ _. ⊥) plan (SaidRefused text.items)
IsNotRead all known file plan Unread fault.ReadFailed = Unread
IsNotRead all known file plan Unread fault.WriteFailed = ⊥
IsNotRead all known file plan Unread fault.NoMemory = ⊤

-- of the text of a file
abbrev pub IsTextUnread : Plan → List ℕ → List ℕ → Fault → Type 0
IsTextUnread plan file text (fault.Refused said) = (refusal : Refusal) × (expected_in plan text ≡ Err refusal) × Tells file text refusal said.items
IsTextUnread plan file text fault.ReadFailed = ⊥
IsTextUnread plan file text fault.WriteFailed = ⊥
IsTextUnread plan file text fault.NoMemory = ⊤

-- what was told of why nothing is expected: a refusal as a text; else nothing was written
abbrev pub IsToldUnread : Fault → Work → Taking → Type 0
IsToldUnread (fault.Refused text) work out = Came (Writes outcome.Refused text.items) work ⊥ out
IsToldUnread fault.ReadFailed work out = (work ≡ Err fault.ReadFailed) × TookNothing out
IsToldUnread fault.WriteFailed work out = (work ≡ Err fault.WriteFailed) × TookNothing out
IsToldUnread fault.NoMemory work out = (work ≡ Err fault.NoMemory) × TookNothing out
