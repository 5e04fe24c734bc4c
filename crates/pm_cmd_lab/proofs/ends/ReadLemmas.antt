-- What comes of a plan's file.
use Rattle.std.proofs.Common.{◌≡◌, ℕ, Bool, List, Option, Err, Vec, Global, subst}
use Rattle.pm_cmd_ends.specs.Ending.{Taking, TookNothing}
use Rattle.pm_cmd_ends.specs.Reading.{Holds, IsRead}
use Rattle.pm_model.specs.declared.plan.Plan.{Plan}
use Rattle.pm_say.specs.Says.{IsNoPlan}
use Rattle.pm_say.specs.declared.told.NoPlan.TheVariants as no_plan
use Rattle.pm_cmd_lab.specs.ends.Coming.{Came, IsUnheld, IsUnread, Work}
use Rattle.pm_cmd_lab.specs.ends.Ending.{Ending, Refused}
use Rattle.pm_cmd_lab.specs.ends.Reading.{OfBytes, OfPlan, held, read, refused, too_long}
use Rattle.pm_cmd_lab.specs.declared.ends.ending.Fault.{Fault}
use Rattle.pm_cmd_lab.specs.declared.ends.ending.Fault.TheVariants as fault
use Rattle.pm_cmd_lab.proofs.ends.EndLemmas.{came_weaker}

-- a file whose bytes aren't read whole
pub not_held : (all : Bool) (known : Option (List ℕ)) (file : List ℕ) (Unread : Type 0) (f : Fault) → IsUnheld all known file Unread f → IsUnread all known file Unread f
not_held all known file Unread (fault.Refused text) unheld = too_long unheld.0 text.items unheld.1
not_held all known file Unread fault.ReadFailed unheld = unheld
not_held all known file Unread fault.WriteFailed unheld = unheld
not_held all known file Unread fault.NoMemory unheld = tt

-- a file whose bytes are refused, which were handed on
pub not_plan : (all : Bool) (known : Option (List ℕ)) (file handed_file bytes handed : List ℕ) (text : Vec ℕ Global) → Holds all known 1048576 bytes
    → handed_file ≡ file → handed ≡ bytes → IsNoPlan handed_file handed (no_plan.Refused text) → OfPlan all known file (λ _ _. ⊥) (Refused text.items)
not_plan all known file handed_file bytes handed text holds same_file same_bytes refusal =
    let named = subst (λ (name : List ℕ). IsNoPlan name handed (no_plan.Refused text)) same_file refusal in
    let told = subst (λ (held_bytes : List ℕ). IsNoPlan file held_bytes (no_plan.Refused text)) same_bytes named in
    held bytes holds (Refused text.items) (refused told.0 told.1 text.items told.2)

-- a refusal, whatever the command's own endings are
bytes_refused : {Ends : Plan → Ending → Type 0} {file bytes : List ℕ} {ending : Ending} → OfBytes (λ _ _. ⊥) file bytes ending → OfBytes Ends file bytes ending
bytes_refused (refused fault is told tells) = refused fault is told tells
bytes_refused (read plan is ending none) = absurd none

plan_refused : {all : Bool} {known : Option (List ℕ)} {file : List ℕ} {Ends : Plan → Ending → Type 0} {ending : Ending} → OfPlan all known file (λ _ _. ⊥) ending → OfPlan all known file Ends ending
plan_refused (too_long long told tells) = too_long long told tells
plan_refused (held bytes holds ending ends) = held bytes holds ending (bytes_refused ends)

-- a plan that isn't read, before anything is written
pub came_unread : (all : Bool) (known : Option (List ℕ)) (file : List ℕ) (Ends : Plan → Ending → Type 0) (Unread : Type 0) (out : Taking) (f : Fault) → IsUnread all known file Unread f → TookNothing out → Came (OfPlan all known file Ends) (Err f) Unread out
came_unread all known file Ends Unread out (fault.Refused text) unread nothing = (plan_refused unread, nothing)
came_unread all known file Ends Unread out fault.ReadFailed unread nothing = (unread, nothing)
came_unread all known file Ends Unread out fault.WriteFailed unread nothing = absurd unread
came_unread all known file Ends Unread out fault.NoMemory unread nothing = nothing

-- the work of a command over the plan that was read, which may read on
pub came_read : (all : Bool) (known : Option (List ℕ)) (file : List ℕ) (plan : Plan) (Ends : Plan → Ending → Type 0) (U V : Type 0) (out : Taking) (work : Work) → (U → V) → IsRead all known plan → Came (Ends plan) work U out → Came (OfPlan all known file Ends) work V out
came_read all known file plan Ends U V out work later reads came =
    came_weaker (Ends plan) (OfPlan all known file Ends) U V (λ ending ends. held reads.bytes reads.holds ending (read plan reads.is ending ends)) later out work came
