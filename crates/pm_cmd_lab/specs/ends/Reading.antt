-- What a command that reads a plan's file may come to (this project's own). What is told of files is said as of pm_top's commands.
use Rattle.std.specs.Prelude.{◌≡◌, ℕ, Bool, Option, List, [], Ok, Err}
use Rattle.pm_cmd_ends.specs.Reading.{Holds, IsTooLong}
use Rattle.pm_model.specs.declared.plan.Plan.{Plan}
use Rattle.pm_planread.specs.PlanOf.{contents_of, plan_of}
use Rattle.pm_planread.specs.declared.refusal.PlanFault.{PlanFault}
use Rattle.pm_planread.specs.declared.refusal.PlanFault.TheVariants as plan
use Rattle.pm_planread.specs.declared.refusal.PlanWhy.TheVariants.{TooLong}
use Rattle.pm_planread.specs.declared.tree.place.Section.TheVariants.{Top}
use Rattle.pm_say.specs.Faults.{Tells}
use Rattle.pm_cmd_lab.specs.ends.Ending.{Ending, Refused}

-- a file with more bytes than a plan may have is told so, and nothing of it is shown
abbrev pub TellsTooLong : List ℕ → List ℕ → Type 0
TellsTooLong file told = Tells file [] (plan.Refused TooLong Top 0 0) told

-- of a command over a file of this name, of which so much is told: it has more bytes than a plan may have; or the command has
-- endings over its bytes
pub data OfFile (all : Bool) (known : Option (List ℕ)) (file : List ℕ) (Long : List ℕ → Ending) (Ends : List ℕ → Ending → Type 0) : Ending → Type 0 where
  too_long : IsTooLong all known 1048576 → (told : List ℕ) → TellsTooLong file told → OfFile all known file Long Ends (Long told)
  held : (bytes : List ℕ) → Holds all known 1048576 bytes → (ending : Ending) → Ends bytes ending → OfFile all known file Long Ends ending

-- of a command over a plan's bytes: they are refused, and the message tells the refusal; or they are a plan, over which the command has
-- endings of its own
pub data OfBytes (Ends : Plan → Ending → Type 0) (file bytes : List ℕ) : Ending → Type 0 where
  refused : (fault : PlanFault) → plan_of bytes ≡ Err fault → (told : List ℕ) → Tells file bytes fault told → OfBytes Ends file bytes (Refused told)
  read : (plan : Plan) → plan_of bytes ≡ Ok (contents_of plan) → (ending : Ending) → Ends plan ending → OfBytes Ends file bytes ending

-- of a command over a plan's file
abbrev pub OfPlan : Bool → Option (List ℕ) → List ℕ → (Plan → Ending → Type 0) → Ending → Type 0
OfPlan all known file Ends = OfFile all known file (λ told. Refused told) (OfBytes Ends file)
