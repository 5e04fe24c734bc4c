-- What the status of each command says, where its files' bytes are told and nothing disturbs it. Lists of lines have the
-- newest line first.
use Rattle.std.specs.Prelude.{◌≡◌, ◌≢◌, ◌<◌, ◌≤◌, ◌⊎◌, ℕ, Bool, List, Some, Ok, IsErr, IsOk, length, reverse}
use Rattle.pm_io.specs.Faults.{Rose}
use Rattle.pm_model.specs.declared.event.Line.{Line}
use Rattle.pm_model.specs.declared.plan.Plan.{Plan}
use Rattle.pm_model.specs.FirstBad.{AreLinesOf, IsFirstBad, IsLawfulText}
use Rattle.pm_model.specs.Lawful.{IsFinished, IsLawful}
use Rattle.pm_model.specs.Serial.{serial}
use Rattle.pm_model.specs.Text.{text}
use Rattle.pm_make.specs.Generator.{IsGenerated}
use Rattle.pm_planread.specs.PlanOf.{contents_of, plan_of}
use Rattle.pm_cmd_ends.specs.Ending.{Answered, Ending, Failed, Taking, Took}
use Rattle.pm_cmd_ends.specs.Reading.{OfPlan}
use Rattle.pm_cmd_ends.specs.Told.{HasDevice, LacksDevice}

-- a call that answered this status was disturbed by nothing: no read and no write failed, and memory didn't run out
pub record IsUndisturbed (status old new : ℕ) (out : Taking) : Type 0 where
  pub reads : ¬ Rose old new
  pub writes : ¬ Failed out
  pub memory : status ≢ 7

-- these bytes are this plan
abbrev pub AreThePlan : List ℕ → Plan → Type 0
AreThePlan bytes plan = plan_of bytes ≡ Ok (contents_of plan)

-- they are a plan whose run on one thread is finished, or isn't, and so has all the lines that the plan allows
-- (`pm_laws::turns::serial_ends`)
abbrev pub FinishesAlone : List ℕ → Type 0
FinishesAlone bytes = (plan : Plan) × AreThePlan bytes plan × IsFinished plan (reverse (serial plan))

abbrev pub IsCutAlone : List ℕ → Type 0
IsCutAlone bytes = (plan : Plan) × AreThePlan bytes plan × (IsFinished plan (reverse (serial plan)) → ⊥)

-- the generator's plan of this number and so many devices
abbrev pub MadeFinishes : ℕ → ℕ → Type 0
MadeFinishes number devices = (plan : Plan) × IsGenerated number devices plan × IsFinished plan (reverse (serial plan))

abbrev pub MadeIsCut : ℕ → ℕ → Type 0
MadeIsCut number devices = (plan : Plan) × IsGenerated number devices plan × (IsFinished plan (reverse (serial plan)) → ⊥)

-- the first bytes are a plan, and the others, no more than a trace may have, are the text of a lawful list of it, or have a
-- first bad line
abbrev pub IsLawfulTrace : List ℕ → List ℕ → Type 0
IsLawfulTrace plan_bytes trace = (plan : Plan) × AreThePlan plan_bytes plan × (length trace ≤ 67108864) × IsLawfulText plan trace

abbrev pub IsBadTrace : List ℕ → List ℕ → Type 0
IsBadTrace plan_bytes trace = (plan : Plan) × AreThePlan plan_bytes plan × (length trace ≤ 67108864) × ((n : ℕ) × IsFirstBad plan trace n)

-- the first are no plan, or the others are more than a trace may have
abbrev pub IsRefusedTrace : List ℕ → List ℕ → Type 0
IsRefusedTrace plan_bytes trace = IsErr (plan_of plan_bytes) ⊎ (IsOk (plan_of plan_bytes) × (67108864 < length trace))

-- with a device of the plan that has this name; or none has
abbrev pub IsRefusedWhy : List ℕ → List ℕ → List ℕ → Type 0
IsRefusedWhy plan_bytes trace name = IsErr (plan_of plan_bytes) ⊎ (LacksDevice (Some plan_bytes) name ⊎ (HasDevice (Some plan_bytes) name × (67108864 < length trace)))

-- lines, in order, are a lawful and finished run of the plan, each of which has a text
pub record IsWholeList (plan : Plan) (lines : List Line) : Type 0 where
  pub lawful : IsLawful plan (reverse lines)
  pub of_plan : AreLinesOf plan (reverse lines)
  pub finished : IsFinished plan (reverse lines)

-- out took the text of some finished run of the plan, or that of the run of one thread
abbrev pub TookSomeRun : List ℕ → Taking → Type 0
TookSomeRun bytes out = (plan : Plan) × AreThePlan bytes plan × ((lines : List Line) × IsWholeList plan lines × Took out (text plan lines))

abbrev pub TookAlone : List ℕ → Taking → Type 0
TookAlone bytes out = (plan : Plan) × AreThePlan bytes plan × Took out (text plan (serial plan))

-- of three statuses, each comes exactly where this holds
abbrev pub Exactly : ℕ → ℕ → Type 0 → Type 0
Exactly status n Holds = (status ≡ n → Holds) × (Holds → status ≡ n)
