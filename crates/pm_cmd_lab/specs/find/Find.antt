-- What `find` may come to (this project's own).
use Rattle.std.specs.Prelude.{◌≡◌, ℕ, Bool, Option, List, Ok, IsSome, if◌then◌else◌}
use Rattle.pm_cmd_ends.specs.Coming.{trace_too_long}
use Rattle.pm_cmd_ends.specs.Reading.{IsRead, IsTooLong}
use Rattle.pm_find.specs.trace.Telling.{IsTold}
use Rattle.pm_find.specs.declared.trace.telling.Found.{Found}
use Rattle.pm_cmd_lab.specs.ends.Coming.{ending_of}
use Rattle.pm_cmd_lab.specs.ends.Ending.{Ending, Refused}
use Rattle.pm_cmd_lab.specs.declared.ends.ending.Outcome.{Outcome}
use Rattle.pm_cmd_lab.specs.declared.ends.ending.Outcome.TheVariants as outcome
use Rattle.pm_model.specs.declared.plan.Plan.{Plan}
use Rattle.pm_planread.specs.PlanOf.{contents_of, plan_of}

-- what `find` told, by whether an error or a warning is in it
abbrev pub outcome_of_find : Bool → Outcome
outcome_of_find stands_out = if stands_out then outcome.Found else outcome.Done

-- `find PLAN TRACE`: the text is what is told of the trace
abbrev pub FindEnds : Found → Ending → Type 0
FindEnds found ending = ending ≡ ending_of (outcome_of_find found.stands_out) found.text.items

-- over a plan, in a file of this name: a trace that is too long is told so; or the trace is read, and this is what is told of it, with places in a
-- text that is the plan
pub data OfFind (all : Bool) (known : Option (List ℕ)) (name file : List ℕ) (notes : Bool) (plan : Plan) : Ending → Type 0 where
  too_many : IsTooLong all known 67108864 → OfFind all known name file notes plan (Refused trace_too_long)
  told : (text : List ℕ) → plan_of text ≡ Ok (contents_of plan) → (found : Found) → IsTold all known plan (record { trace = file; plan = name; text = text }) notes found
      → (ending : Ending) → FindEnds found ending → OfFind all known name file notes plan ending

-- which file's read failed, of a plan and a trace: the plan's, and no other file was asked for where all is told of it; or the
-- trace's, and the plan was read
pub data FindUnread (all : Bool) (known : Option (List ℕ)) (plan trace : List ℕ) (Alone Failed : Type 0) : List ℕ → Type 0 where
  of_plan : (IsSome known → Alone) → Failed → FindUnread all known plan trace Alone Failed plan
  of_trace : (read : Plan) → IsRead all known read → Failed → FindUnread all known plan trace Alone Failed trace
