-- What `orders --seen` comes to.
use Rattle.std.proofs.Common.{◌≡◌, ◌∙◌, ℕ, Bool, List, Option, Err, Vec, Global, ap, subst, sym}
use Rattle.std.proofs.lemmas.List.{reverse-reverse}
use Rattle.pm_cmd_ends.specs.Ending.{Taking, TookNothing}
use Rattle.pm_cmd_ends.specs.Reading.{Holds, IsRead}
use Rattle.pm_cmd_lab.specs.orders.Seen.{IsLogUnheld, OfSeen, SeenEnds, SeenUnread, lacks, no_outcome, of_log, of_plan, tells_of, too_many}
use Rattle.pm_cmd_lab.specs.ends.Coming.{Came, Work}
use Rattle.pm_cmd_lab.specs.ends.Ending.{OfThis, Refused}
use Rattle.pm_cmd_lab.specs.declared.ends.ending.Fault.{Fault}
use Rattle.pm_cmd_lab.specs.declared.ends.ending.Fault.TheVariants as fault
use Rattle.pm_cmd_lab.proofs.ends.EndLemmas.{came_weaker}
use Rattle.pm_lab_words.specs.declared.request.Bounds.{Bounds}
use Rattle.pm_model.specs.declared.plan.Plan.{Plan}
use Rattle.std.specs.Prelude.{IsSome, Some, reverse}
use Rattle.pm_outcomes.specs.kernel_log.Placing.{IsWhole}
use Rattle.pm_outcomes.specs.kernel_log.Runs.{outcome_of}
use Rattle.pm_outcomes.specs.declared.kernel_log.tells.Tell.{Tell}

-- another list of the same outcome isn't whole either
pub not_whole : (plan : Plan) (log : List ℕ) (found tells : List Tell) → outcome_of plan log ≡ Some (reverse found) → ¬ IsWhole plan found → outcome_of plan log ≡ Some (reverse tells) → IsWhole plan tells → ⊥
not_whole plan log found tells is lacking other whole =
    let same : reverse found ≡ reverse tells = cc (is, other) in
    lacking (subst (IsWhole plan) (sym (sym (reverse-reverse found) ∙ ap reverse same ∙ reverse-reverse tells)) whole)

-- a log that isn't read whole, before anything is written
pub log_unread : (all : Bool) (known : Option (List ℕ)) (bounds : Bounds) (differ : Bool) (plan : Plan) (Unread : Type 0) (out : Taking) (f : Fault)
    → IsLogUnheld all known Unread f → TookNothing out → Came (OfSeen all known bounds differ plan) (Err f) Unread out
log_unread all known bounds differ plan Unread out (fault.Refused text) unheld nothing =
    (subst (λ (bytes : List ℕ). OfSeen all known bounds differ plan (Refused bytes)) (sym unheld.1) (too_many unheld.0), nothing)
log_unread all known bounds differ plan Unread out fault.ReadFailed unheld nothing = (unheld, nothing)
log_unread all known bounds differ plan Unread out fault.WriteFailed unheld nothing = absurd unheld
log_unread all known bounds differ plan Unread out fault.NoMemory unheld nothing = nothing

-- one without a whole outcome
pub lacks_refused : (all : Bool) (known : Option (List ℕ)) (bounds : Bounds) (differ : Bool) (plan : Plan) (bytes : List ℕ) (text : Vec ℕ Global) (out : Taking)
    → Holds all known 67108864 bytes → ((tells : List Tell) → outcome_of plan bytes ≡ Some (reverse tells) → ¬ IsWhole plan tells)
    → text.items ≡ no_outcome → TookNothing out → Came (OfSeen all known bounds differ plan) (Err (fault.Refused text)) ⊥ out
lacks_refused all known bounds differ plan bytes text out holds none same nothing =
    (subst (λ (t : List ℕ). OfSeen all known bounds differ plan (Refused t)) (sym same) (lacks bytes holds none), nothing)

-- what was told of its outcome
pub seen_told : (all : Bool) (known : Option (List ℕ)) (bounds : Bounds) (differ : Bool) (plan : Plan) (bytes : List ℕ) (tells : List Tell) (out : Taking) (work : Work)
    → Holds all known 67108864 bytes → outcome_of plan bytes ≡ Some (reverse tells) → IsWhole plan tells
    → Came (SeenEnds bounds differ tells plan) work ⊥ out → Came (OfSeen all known bounds differ plan) work ⊥ out
seen_told all known bounds differ plan bytes tells out work holds is whole came =
    came_weaker (SeenEnds bounds differ tells plan) (OfSeen all known bounds differ plan) ⊥ ⊥ (λ ending ends. tells_of bytes holds tells is whole ending ends) (λ none. none) out work came

-- a read that may have failed
pub seen_of_file : (all : Bool) (known : Option (List ℕ)) (bounds : Bounds) (differ : Bool) (plan : Plan) (Unread : Type 0) (out : Taking) (work : Work)
    → Came (OfSeen all known bounds differ plan) work ⊥ out → Came (OfSeen all known bounds differ plan) work Unread out
seen_of_file all known bounds differ plan Unread out work came =
    came_weaker (OfSeen all known bounds differ plan) (OfSeen all known bounds differ plan) ⊥ Unread (λ ending ends. ends) (λ none. absurd none) out work came

-- which file's read failed
pub plan_failed : (all : Bool) (known : Option (List ℕ)) (plan log name : List ℕ) (Alone Failed : Type 0) → (IsSome known → Alone) → OfThis plan Failed name → SeenUnread all known plan log Alone Failed name
plan_failed all known plan log name Alone Failed alone this =
    subst (λ (file : List ℕ). SeenUnread all known plan log Alone Failed file) (sym this.0) (of_plan alone this.1)

pub log_failed : (all : Bool) (known : Option (List ℕ)) (plan log name : List ℕ) (read : Plan) (Alone Failed : Type 0) → IsRead all known read → OfThis log Failed name → SeenUnread all known plan log Alone Failed name
log_failed all known plan log name read Alone Failed is this =
    subst (λ (file : List ℕ). SeenUnread all known plan log Alone Failed file) (sym this.0) (of_log read is this.1)
