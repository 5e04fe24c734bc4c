-- A command's answer is one: what two calls of it, over files of which the same bytes are told, may answer apart. `run` and `desk` may,
-- since a plan has many lawful runs.
use Rattle.std.specs.Prelude.{◌≡◌, ℕ, Bool, List, Option, Some}
use Rattle.pm_io.specs.Faults.{Rose}
use Rattle.pm_cmd_ends.specs.Ending.{Answered, Taking, TookText}
use Rattle.pm_cmd_ends.specs.Request.{Asked, Audit, Check, Convert, Make, Serial, Times, Why}
use Rattle.pm_cmd_top.specs.Commands.{AskedEnds}
use Rattle.pm_cmd_top.specs.answers.Page.{IsUndisturbed}

-- the bytes of each file that the command names are told, and it is none of `run` and `desk`
pub data IsSettled (told : List ℕ → Option (List ℕ)) : Asked → Type 0 where
  serial : (plan plan_bytes : List ℕ) → told plan ≡ Some plan_bytes → IsSettled told (Serial plan)
  check : (plan plan_bytes : List ℕ) → told plan ≡ Some plan_bytes → IsSettled told (Check plan)
  audit : (plan trace plan_bytes bytes : List ℕ) → told plan ≡ Some plan_bytes → told trace ≡ Some bytes → IsSettled told (Audit plan trace)
  convert : (plan trace plan_bytes bytes : List ℕ) → told plan ≡ Some plan_bytes → told trace ≡ Some bytes → IsSettled told (Convert plan trace)
  times : (plan trace plan_bytes bytes : List ℕ) → told plan ≡ Some plan_bytes → told trace ≡ Some bytes → IsSettled told (Times plan trace)
  why : (plan trace device plan_bytes bytes : List ℕ) → told plan ≡ Some plan_bytes → told trace ≡ Some bytes → IsSettled told (Why plan trace device)
  make : (number devices : ℕ) → IsSettled told (Make number devices)

-- two calls answered one status, and `out` took one text, or none at either
pub record AnsweredAlike (status other : ℕ) (out out' : Taking) : Type 0 where
  pub same : status ≡ other
  pub text : Option (List ℕ)
  pub first : TookText out text
  pub second : TookText out' text

-- two calls of the command that nothing disturbs
abbrev pub AnswersOnce : (List ℕ → Option (List ℕ)) → Asked → Type 0
AnswersOnce told asked =
    (all : Bool) (status old new : ℕ) (out err : Taking) → IsUndisturbed status old new out → Answered (AskedEnds all told asked) status (Rose old new) out err
    → (other old' new' : ℕ) (out' err' : Taking) → IsUndisturbed other old' new' out' → Answered (AskedEnds all told asked) other (Rose old' new') out' err'
    → AnsweredAlike status other out out'
