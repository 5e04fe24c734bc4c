-- What each command over a trace may come to: its own endings, over the plan and the list that the trace stands for (this
-- project's own). Lists of lines have the newest line first.
use Rattle.std.specs.Prelude.{ℕ, ◌≡◌, ◌+◌, Bool, List, Option, Some, Ok, Err, Contains, map, reverse, slice_get}
use Rattle.pm_account.specs.declared.Times.{Times}
use Rattle.pm_account.specs.Account.{IsAccount}
use Rattle.pm_account.specs.Texts.{account_text}
use Rattle.pm_account.specs.Times.{active, moving, suspended}
use Rattle.pm_base.specs.declared.DevId.{DevId}
use Rattle.pm_model.specs.declared.plan.Plan.{Plan}
use Rattle.pm_model.specs.History.{History}
use Rattle.pm_model.specs.Lawful.{IsFinished, last_time}
use Rattle.pm_model.specs.Text.{names_of, text2}
use Rattle.pm_model.specs.Verdict.{No, Verdict, YesFinished, YesOpen}
use Rattle.pm_cmd_ends.specs.Coming.{Work, no_device}
use Rattle.pm_cmd_ends.specs.Ending.{Done, Ending, NotLawful, Refused, SaidNo}
use Rattle.pm_cmd_ends.specs.Promised.{KeepsPromises}
use Rattle.pm_cmd_ends.specs.Said.{finished_line, open_line}
use Rattle.pm_cmd_ends.specs.declared.ending.Fault.TheVariants as fault
use Rattle.pm_why.specs.Reasons.{reasons}
use Rattle.pm_why.specs.Texts.{reasons_text}
use Rattle.pm_cmd_top.specs.Traces.{OfTrace}

-- `audit PLAN TRACE`: the list keeps its promises, and it is finished or it isn't
pub data AuditEnds (plan : Plan) (h : History) : Ending → Type 0 where
  is_finished : KeepsPromises plan h → IsFinished plan h → AuditEnds plan h (Done finished_line)
  is_open : KeepsPromises plan h → (IsFinished plan h → ⊥) → AuditEnds plan h (Done open_line)

-- a first bad line is told by its text
abbrev pub OfAudit : Bool → Option (List ℕ) → Plan → Ending → Type 0
OfAudit all told plan = OfTrace all told plan SaidNo (AuditEnds plan)

-- `convert PLAN TRACE`: the text of the list in format 2
abbrev pub ConvertEnds : Plan → History → Ending → Type 0
ConvertEnds plan h ending = ending ≡ Done (text2 plan (reverse h))

-- `times PLAN TRACE`: the times of each device, which add up to the time of the last line
pub record TimesEnds (plan : Plan) (h : History) (ending : Ending) : Type 0 where
  pub account : List Times
  pub is_account : IsAccount plan h account
  pub adds_up : (d : DevId) → active h d + suspended h d + moving h d ≡ last_time h
  pub is : ending ≡ Done (account_text (names_of plan) account)

-- `why PLAN TRACE DEVICE`: what keeps the device from suspending
abbrev pub WhyEnds : Plan → DevId → History → Ending → Type 0
WhyEnds plan d h ending = ending ≡ Done (reasons_text (names_of plan) (reasons plan h d))

-- of these three a first bad line is told by their message
abbrev pub OfConvert : Bool → Option (List ℕ) → Plan → Ending → Type 0
OfConvert all told plan = OfTrace all told plan NotLawful (ConvertEnds plan)

abbrev pub OfTimes : Bool → Option (List ℕ) → Plan → Ending → Type 0
OfTimes all told plan = OfTrace all told plan NotLawful (TimesEnds plan)

abbrev pub OfDevice : Bool → Option (List ℕ) → Plan → DevId → Ending → Type 0
OfDevice all told plan d = OfTrace all told plan NotLawful (WhyEnds plan d)

-- no device has the name, or this one has it
pub data OfWhy (all : Bool) (told : Option (List ℕ)) (name : List ℕ) (plan : Plan) : Ending → Type 0 where
  unknown : (Contains (map (λ row. row.name) plan.devices) name → ⊥) → OfWhy all told name plan (Refused no_device)
  named : (d : DevId) → slice_get (map (λ row. row.name) plan.devices) d.0 ≡ Some name → (ending : Ending) → OfDevice all told plan d ending → OfWhy all told name plan ending

-- the work of the command that wrote the line of a verdict
abbrev pub verdict_work : Verdict → Work
verdict_work YesFinished = Ok tt
verdict_work YesOpen = Ok tt
verdict_work (No n why) = Err fault.SaidNo
