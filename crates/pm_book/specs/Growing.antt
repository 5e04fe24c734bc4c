-- A script that becomes longer (this project's own).
use Rattle.std.specs.Prelude.{ℕ, ◌≡◌, true, List, [], slice_get}
use Rattle.std.specs.Option.{option_map_or}
use Rattle.pm_model.specs.declared.event.Command.{Command}
use Rattle.pm_model.specs.declared.plan.Plan.{Plan}
use Rattle.pm_model.specs.declared.rows.CallerRow.{CallerRow}
use Rattle.pm_model.specs.IsPlan.{is_plan}
use Rattle.pm_model.specs.Scripts.{with_command}
use Rattle.pm_book.specs.Pages.{Pages}

-- the script of a caller
abbrev pub script_of : List CallerRow → ℕ → List Command
script_of callers c = option_map_or (λ row. row.script) (slice_get callers c) []

-- the lists make a plan with these callers
abbrev pub IsPlanWith : Plan → List CallerRow → Type 0
IsPlanWith plan callers = is_plan plan.lines plan.trace plan.domains plan.devices plan.links callers ≡ true

-- the plan with these callers
abbrev pub with_callers : (plan : Plan) (callers : List CallerRow) → IsPlanWith plan callers → Plan
with_callers plan callers law = record plan { callers = callers; law = law }

-- a plan has these callers instead of its own
pub record HasCallers (old new : Plan) (callers : List CallerRow) : Type 0 where
  pub law : IsPlanWith old callers
  pub is : new ≡ with_callers old callers law

-- the command is at the end of the caller's script, and nothing else is changed
pub record Extends (old new : Pages) (c : ℕ) (command : Command) : Type 0 where
  pub plan : HasCallers old.plan new.plan (with_command command c old.plan.callers)
  pub lines : new.lines ≡ old.lines
  pub spare : new.spare ≡ old.spare
