-- What `audit` says of bytes, in the words of the command: its status and its line. Lists of lines have the newest line first.
use Rattle.std.specs.Prelude.{◌≡◌, ◌≢◌, ◌≤◌, ℕ, Bool, List, [], Some, Ok, length}
use Rattle.pm_io.specs.Faults.{Rose}
use Rattle.pm_model.specs.declared.plan.Plan.{Plan}
use Rattle.pm_model.specs.Verdict.{IsVerdict, No, Verdict, YesFinished, YesOpen}
use Rattle.pm_planread.specs.PlanOf.{contents_of, plan_of}
use Rattle.pm_cmd_ends.specs.Ending.{Answered, Failed, Taking, Took}
use Rattle.pm_cmd_ends.specs.Reading.{OfPlan}
use Rattle.pm_cmd_ends.specs.Said.{verdict_line}
use Rattle.pm_cmd_top.specs.TraceCommands.{OfAudit}

-- these bytes are a plan, and of those, no more than a trace may have, this is said by it: they are the text of a lawful
-- list that is finished, or of one that isn't, or this line of theirs is the first bad one
pub record HasVerdict (plan_bytes bytes : List ℕ) (verdict : Verdict) : Type 0 where
  pub plan : Plan
  pub is_plan : plan_of plan_bytes ≡ Ok (contents_of plan)
  pub short : length bytes ≤ 67108864
  pub says : IsVerdict plan bytes verdict

abbrev pub verdict_status : Verdict → ℕ
verdict_status YesFinished = 0
verdict_status YesOpen = 0
verdict_status (No n why) = 1

-- `audit` of a plan and a trace with these bytes answers by this status, and writes this line, where neither reading nor
-- writing fails and memory doesn't run out
abbrev pub AuditSays : List ℕ → List ℕ → Verdict → Type 0
AuditSays plan_bytes bytes verdict =
    (all : Bool) (status old new : ℕ) (out err : Taking) → ¬ Rose old new → ¬ Failed out → status ≢ 7
    → Answered (OfPlan all (Some plan_bytes) (OfAudit all (Some bytes))) status (Rose old new) out err
    → (status ≡ verdict_status verdict) × Took out (verdict_line verdict)

-- a sink that had taken nothing took these bytes
pub record TookAll (out : Taking) (bytes : List ℕ) : Type 0 where
  pub empty : out.old ≡ Some []
  pub full : out.new ≡ Some bytes
