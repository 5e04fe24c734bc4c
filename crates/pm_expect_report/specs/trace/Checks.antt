-- What is told of a trace and of what a file expects of it (this project's own). Lists of lines have the newest line first.
use Rattle.std.specs.Prelude.{◌≡◌, ℕ, Bool, true, false, ◌||◌, List, ◌++◌, codes, if◌then◌else◌}
use Rattle.pm_expect.specs.declared.expectation.Expectations.{Expectations}
use Rattle.pm_expect.specs.text.Items.{has_failed}
use Rattle.pm_expect.specs.text.Texts.{ktap_text}
use Rattle.pm_find.specs.trace.Texts.{Files, TellsRun, has_fault, run_found, unlawful_text}
use Rattle.pm_find.specs.declared.trace.telling.Found.{Found}
use Rattle.pm_model.specs.FirstBad.{StandsFor}
use Rattle.pm_model.specs.History.{History}
use Rattle.pm_model.specs.Lawful.{IsLawful}
use Rattle.pm_model.specs.NoWhy.{NoWhy}
use Rattle.pm_model.specs.Verdict.{IsVerdict, No}
use Rattle.pm_model.specs.declared.plan.Plan.{Plan}
use Rattle.pm_expect_report.specs.trace.Items.{items_in}
use Rattle.pm_expect_report.specs.trace.Plain.{IsPlain}

-- In plain words, over a run and what the text of a file of this name expects of it: what stands out in the run, with notes or without
-- them, then the expectations that fail, and how many there are. Something stands out where an error or a warning does, or an
-- expectation fails.
pub record IsPlainRun (plan : Plan) (h : History) (file text : List ℕ) (all : Expectations) (files : Files) (notes : Bool) (found : Found) : Type 0 where
  pub run : List ℕ
  pub tells : TellsRun plan h files notes run
  pub failed : List ℕ
  pub is_plain : IsPlain file text files.trace (items_in plan h all) failed
  pub text_is : found.text.items ≡ run ++ failed
  pub stands_out_is : found.stands_out ≡ (has_fault (run_found plan h) || has_failed (items_in plan h all))

-- as KTAP: the expectations alone
pub record IsKtapRun (plan : Plan) (h : History) (all : Expectations) (trace : List ℕ) (found : Found) : Type 0 where
  pub text_is : found.text.items ≡ ktap_text trace (items_in plan h all)
  pub stands_out_is : found.stands_out ≡ has_failed (items_in plan h all)

-- as KTAP of a trace whose n-th line is the first bad one: nothing was tried
abbrev pub bail_text : List ℕ → ℕ → NoWhy → List ℕ
bail_text trace n why = codes "KTAP version 1\nBail out! " ++ unlawful_text trace n why

-- what is told of a run
abbrev pub IsRunTold : Plan → History → List ℕ → List ℕ → Expectations → Files → Bool → Bool → Found → Type 0
IsRunTold plan h file text all files true notes found = IsKtapRun plan h all files.trace found
IsRunTold plan h file text all files false notes found = IsPlainRun plan h file text all files notes found

-- what is told of a first bad line
pub record IsBadTold (trace : List ℕ) (ktap : Bool) (n : ℕ) (why : NoWhy) (found : Found) : Type 0 where
  pub text_is : found.text.items ≡ (if ktap then bail_text trace n why else unlawful_text trace n why)
  pub stands_out_is : found.stands_out ≡ true

-- what is told of the bytes of a trace: they have a first bad line, or they stand for a lawful list
pub data IsToldOf (plan : Plan) (file text : List ℕ) (all : Expectations) (files : Files) (bytes : List ℕ) (ktap notes : Bool) (found : Found) : Type 0 where
  bad : (n : ℕ) (why : NoWhy) → IsVerdict plan bytes (No n why) → IsBadTold files.trace ktap n why found → IsToldOf plan file text all files bytes ktap notes found
  stands : (h : History) → IsLawful plan h → StandsFor plan bytes h → IsRunTold plan h file text all files ktap notes found → IsToldOf plan file text all files bytes ktap notes found
