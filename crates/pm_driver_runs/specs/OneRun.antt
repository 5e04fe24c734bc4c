-- What one run of a driver is collected to: the plan of what its callers called and its callbacks answered, and a text of that
-- plan (this project's own).
use Rattle.std.specs.Prelude.{◌≡◌, List, Ok}
use Rattle.pm_model.specs.declared.plan.Plan.{Plan}
use Rattle.pm_model.specs.declared.rows.CallerRow.{CallerRow}
use Rattle.pm_model.specs.declared.rows.DeviceRow.{DeviceRow}
use Rattle.pm_model.specs.History.{History}
use Rattle.pm_planread.specs.PlanOf.{contents_of, plan_of}
use Rattle.pm_driver_flat.specs.Flat as flat
use Rattle.pm_driver_runs.specs.Collected.{MakesPlan, made_plan}
use Rattle.pm_driver_runs.specs.PlanText.{plan_text}
use Rattle.pm_driver_runs.specs.declared.collected.run.CollectedRun.{CollectedRun}
use Rattle.pm_driver_runs.specs.declared.collected.run.RunCollection.{RunCollection}
use Rattle.pm_driver_runs.specs.declared.collected.run.RunCollection.TheVariants.{Made, NoPlan, NotRead}

-- the plan with these devices and callers
abbrev pub IsPlanWith : Plan → List DeviceRow → List CallerRow → Plan → Type 0
IsPlanWith rows devices callers plan = (law : flat.IsPlanOf rows devices callers) × (plan ≡ flat.plan_of rows devices callers law)

-- the plan that is collected over a driver's rows
abbrev pub IsMadePlan : Plan → History → Plan → Type 0
IsMadePlan rows h plan = (law : MakesPlan rows h) × (plan ≡ made_plan rows h law)

-- it and its text, which is read as that plan
pub record IsCollectedRun (rows : Plan) (h : History) (run : CollectedRun) : Type 0 where
  pub law : MakesPlan rows h
  pub plan : run.plan ≡ made_plan rows h law
  pub spelled : run.text.items ≡ plan_text run.plan
  pub text : plan_of run.text.items ≡ Ok (contents_of run.plan)

-- its text isn't
abbrev pub IsUnread : Plan → History → Type 0
IsUnread rows h = (law : MakesPlan rows h) × (¬ (plan_of (plan_text (made_plan rows h law)) ≡ Ok (contents_of (made_plan rows h law))))

abbrev pub IsRunCollection : Plan → History → RunCollection → Type 0
IsRunCollection rows h (Made run) = IsCollectedRun rows h run
IsRunCollection rows h NoPlan = ¬ MakesPlan rows h
IsRunCollection rows h NotRead = IsUnread rows h
