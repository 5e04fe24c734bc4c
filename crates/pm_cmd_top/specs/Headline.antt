-- The headline, whole: when `serial`, `run` or `desk` ends with status 0, the bytes written are the text of a finished lawful
-- run of the plan read, and `audit` answers yes exactly to lawful text. `headline_holds` proves it. `AskedEnds` is the clause
-- of `top`, which the program calls: what a command answers and writes, by what its files tell. Read before it, of pm_model:
-- `IsLawful` and `IsFinished` (Lawful), `StandsFor` (FirstBad: the text in format 1 or 2). Lists have the newest line first.
use Rattle.std.specs.Prelude.{◌≡◌, ◌≤◌, ℕ, Bool, List, Option, Some, Ok, length}
use Rattle.pm_io.specs.Faults.{Rose}
use Rattle.pm_model.specs.declared.plan.Plan.{Plan}
use Rattle.pm_model.specs.FirstBad.{StandsFor}
use Rattle.pm_model.specs.History.{History}
use Rattle.pm_model.specs.Lawful.{IsFinished, IsLawful}
use Rattle.pm_model.specs.Verdict.{YesFinished}
use Rattle.pm_planread.specs.PlanOf.{contents_of, plan_of}
use Rattle.pm_cmd_ends.specs.Ending.{Answered, Taking}
use Rattle.pm_cmd_ends.specs.Request.{Asked, Audit, Desk, Run, Serial}
use Rattle.pm_cmd_top.specs.Commands.{AskedEnds}
use Rattle.pm_cmd_top.specs.answers.Audited.{AuditSays, TookAll}
use Rattle.pm_cmd_top.specs.answers.Page.{Exactly, IsLawfulTrace, IsUndisturbed}

-- the first bytes are a plan, and the others are the text of a finished lawful run of it, no longer than a trace may be
pub record IsTextOfRun (plan_bytes bytes : List ℕ) : Type 0 where
  pub plan : Plan
  pub is_plan : plan_of plan_bytes ≡ Ok (contents_of plan)
  pub run : History
  pub lawful : IsLawful plan run
  pub finished : IsFinished plan run
  pub text : StandsFor plan bytes run
  pub short : length bytes ≤ 67108864

-- the commands that run the plan of a file
pub data RunsPlan (plan : List ℕ) : Asked → Type 0 where
  serial : RunsPlan plan (Serial plan)
  run : (hands : ℕ) → RunsPlan plan (Run plan hands)
  desk : RunsPlan plan (Desk plan)

pub record Headline : Type 0 where
  -- what such a command wrote, to a sink that had taken nothing, when it answered 0
  pub writes_runs : (all : Bool) (told : List ℕ → Option (List ℕ)) (asked : Asked) (plan plan_bytes bytes : List ℕ) (old new : ℕ) (out err : Taking)
      → RunsPlan plan asked → told plan ≡ Some plan_bytes → TookAll out bytes
      → Answered (AskedEnds all told asked) 0 (Rose old new) out err
      → IsTextOfRun plan_bytes bytes
  -- `audit` answers 0, which is yes, exactly to lawful text, where neither reading nor writing nor memory fails
  pub audits_exactly : (all : Bool) (told : List ℕ → Option (List ℕ)) (plan trace plan_bytes bytes : List ℕ) (status old new : ℕ) (out err : Taking)
      → told plan ≡ Some plan_bytes → told trace ≡ Some bytes → IsUndisturbed status old new out
      → Answered (AskedEnds all told (Audit plan trace)) status (Rose old new) out err
      → Exactly status 0 (IsLawfulTrace plan_bytes bytes)
  -- so to the text of a finished run it says `yes finished`
  pub runs_are_audited : (plan_bytes bytes : List ℕ) → IsTextOfRun plan_bytes bytes → AuditSays plan_bytes bytes YesFinished
