-- What comes of a plan's file.
use Rattle.std.proofs.Common.{◌≡◌, ℕ, Bool, List, Option, Err, refl}
use Rattle.pm_base.specs.declared.limits.TheConstants.{PLAN_BYTES}
use Rattle.pm_io.specs.declared.reading.FileFault.{FileFault}
use Rattle.pm_io.specs.declared.reading.FileFault.TheVariants as file
use Rattle.pm_model.specs.declared.plan.Plan.{Plan}
use Rattle.pm_planread.specs.declared.refusal.PlanFault.{PlanFault}
use Rattle.pm_planread.specs.declared.refusal.PlanFault.TheVariants as plan
use Rattle.pm_planread.specs.PlanOf.{IsFaultOf, plan_of}
use Rattle.pm_cmd_ends.specs.Coming.{Came, IsUnread, Work, file_fault, plan_fault}
use Rattle.pm_cmd_ends.specs.Ending.{Ending, Taking, TookNothing}
use Rattle.pm_cmd_ends.specs.Reading.{Holds, IsRead, IsTooLong, OfBytes, OfPlan, held, read, refused, too_long}
use Rattle.pm_cmd_ends.specs.declared.ending.Fault.{Fault}
use Rattle.pm_cmd_ends.specs.declared.ending.Fault.TheVariants as fault
use Rattle.pm_cmd_ends.proofs.EndLemmas.{came_weaker}

-- a file that isn't read whole
pub file_not_read : (all : Bool) (told : Option (List ℕ)) (Unread : Type 0) (f : FileFault) → (f ≡ file.Failed → Unread) → (f ≡ file.TooLong → IsTooLong all told PLAN_BYTES) → IsUnread all told Unread (file_fault f)
file_not_read all told Unread file.Failed failed long = failed refl
file_not_read all told Unread file.TooLong failed long = too_long (long refl)
file_not_read all told Unread file.NoMemory failed long = tt

-- a file whose bytes are no plan
pub plan_not_read : (all : Bool) (told : Option (List ℕ)) (Unread : Type 0) (bytes : List ℕ) (f : PlanFault) → Holds all told PLAN_BYTES bytes → IsFaultOf (plan_of bytes) f → IsUnread all told Unread (plan_fault f)
plan_not_read all told Unread bytes (plan.Refused why section item part) holds is = held bytes holds _ (refused why section item part is)
plan_not_read all told Unread bytes plan.NoMemory holds is = tt

-- a refusal, whatever the command's own endings are
bytes_refused : {Ends : Plan → Ending → Type 0} {bytes : List ℕ} {ending : Ending} → OfBytes (λ _ _. ⊥) bytes ending → OfBytes Ends bytes ending
bytes_refused (refused why section item part is) = refused why section item part is
bytes_refused (read plan is ending none) = absurd none

plan_refused : {all : Bool} {told : Option (List ℕ)} {Ends : Plan → Ending → Type 0} {ending : Ending} → OfPlan all told (λ _ _. ⊥) ending → OfPlan all told Ends ending
plan_refused (too_long long) = too_long long
plan_refused (held bytes holds ending ends) = held bytes holds ending (bytes_refused ends)

-- a plan that isn't read, before anything is written
pub came_unread : (all : Bool) (told : Option (List ℕ)) (Ends : Plan → Ending → Type 0) (Unread : Type 0) (out : Taking) (f : Fault) → IsUnread all told Unread f → TookNothing out → Came (OfPlan all told Ends) (Err f) Unread out
came_unread all told Ends Unread out (fault.Refused why section item part) unread nothing = (plan_refused unread, nothing)
came_unread all told Ends Unread out fault.TraceTooLong unread nothing = absurd unread
came_unread all told Ends Unread out fault.NoDevice unread nothing = absurd unread
came_unread all told Ends Unread out (fault.NotLawful line why) unread nothing = absurd unread
came_unread all told Ends Unread out fault.SaidNo unread nothing = absurd unread
came_unread all told Ends Unread out fault.ReadFailed unread nothing = (unread, nothing)
came_unread all told Ends Unread out fault.WriteFailed unread nothing = absurd unread
came_unread all told Ends Unread out fault.AtLimit unread nothing = absurd unread
came_unread all told Ends Unread out fault.NoMemory unread nothing = nothing

-- the work of a command over the plan that was read, which may read on
pub came_read : (all : Bool) (told : Option (List ℕ)) (plan : Plan) (Ends : Plan → Ending → Type 0) (U V : Type 0) (out : Taking) (work : Work) → (U → V) → IsRead all told plan → Came (Ends plan) work U out → Came (OfPlan all told Ends) work V out
came_read all told plan Ends U V out work later reads came =
    came_weaker (Ends plan) (OfPlan all told Ends) U V (λ ending ends. held reads.bytes reads.holds ending (read plan reads.is ending ends)) later out work came
