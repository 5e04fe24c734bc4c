-- What a command that reads a plan may come to (this project's own).
use Rattle.std.specs.Prelude.{◌≡◌, ℕ, ◌<◌, ◌≤◌, Bool, Option, List, Ok, Err, length, IfSome, IsSome, IsTrue}
use Rattle.pm_model.specs.declared.plan.Plan.{Plan}
use Rattle.pm_planread.specs.declared.tree.place.Section.{Section}
use Rattle.pm_planread.specs.declared.tree.place.Section.TheVariants.{Top}
use Rattle.pm_planread.specs.declared.refusal.PlanFault.TheVariants as plan
use Rattle.pm_planread.specs.declared.refusal.PlanWhy.{PlanWhy}
use Rattle.pm_planread.specs.declared.refusal.PlanWhy.TheVariants.{TooLong}
use Rattle.pm_planread.specs.Messages.{refusal_text}
use Rattle.pm_planread.specs.PlanOf.{contents_of, plan_of}
use Rattle.pm_cmd_ends.specs.Ending.{Ending, Refused}

-- a file has these bytes: they are told, or nothing is told of it, though not where all is told of each file that is
-- there; and they are no more than the limit
pub record Holds (all : Bool) (told : Option (List ℕ)) (limit : ℕ) (bytes : List ℕ) : Type 0 where
  pub told_so : IfSome told (λ known. bytes ≡ known)
  pub is_there : IsTrue all → IsSome told
  pub within : length bytes ≤ limit

-- a file has more bytes than the limit, where they are told; and it is there, where all is told of each file that is
pub record IsTooLong (all : Bool) (told : Option (List ℕ)) (limit : ℕ) : Type 0 where
  pub longer : IfSome told (λ known. limit < length known)
  pub is_there : IsTrue all → IsSome told

-- of a command over a plan's bytes: they are no plan, and the message tells the first refusal; or they are one, over
-- which the command has endings of its own
pub data OfBytes (Ends : Plan → Ending → Type 0) (bytes : List ℕ) : Ending → Type 0 where
  refused : (why : PlanWhy) (section : Section) (item part : ℕ) → plan_of bytes ≡ Err (plan.Refused why section item part) → OfBytes Ends bytes (Refused (refusal_text why section item part))
  read : (plan : Plan) → plan_of bytes ≡ Ok (contents_of plan) → (ending : Ending) → Ends plan ending → OfBytes Ends bytes ending

-- of a command over a plan's file
pub data OfPlan (all : Bool) (told : Option (List ℕ)) (Ends : Plan → Ending → Type 0) : Ending → Type 0 where
  too_long : IsTooLong all told 1048576 → OfPlan all told Ends (Refused (refusal_text TooLong Top 0 0))
  held : (bytes : List ℕ) → Holds all told 1048576 bytes → (ending : Ending) → OfBytes Ends bytes ending → OfPlan all told Ends ending

-- the plan is what the bytes of a file are
pub record IsRead (all : Bool) (told : Option (List ℕ)) (plan : Plan) : Type 0 where
  pub bytes : List ℕ
  pub holds : Holds all told 1048576 bytes
  pub is : plan_of bytes ≡ Ok (contents_of plan)
