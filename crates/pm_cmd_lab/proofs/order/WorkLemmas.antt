-- What the work of `order` comes to.
use Rattle.std.proofs.Common.{ℕ, ◌≡◌, Bool, List, Option, Ok, Err, Vec, Global, sym, subst}
use Rattle.pm_cmd_ends.specs.Ending.{Taking, Told, TookNothing}
use Rattle.pm_cmd_ends.specs.Reading.{IsRead}
use Rattle.pm_cmd_lab.specs.ends.Ending.{Absent, Answered, Ending, OfThis, Refused, Unseen, ended}
use Rattle.pm_cmd_lab.specs.ends.Reading.{OfPlan, held, read}
use Rattle.pm_cmd_lab.specs.declared.ends.ending.Fault.TheVariants as fault
use Rattle.pm_cmd_lab.proofs.ends.EndLemmas.{answered, came_weaker}
use Rattle.pm_outcomes.specs.declared.wanted.sought.Missing.{Missing}
use Rattle.pm_cmd_lab.specs.declared.order.stop.Stop.{Stop}
use Rattle.pm_cmd_lab.specs.declared.order.stop.Stop.TheVariants as stop
use Rattle.pm_outcomes.specs.wanted.Missing.{missing_text}
use Rattle.pm_cmd_lab.specs.order.Order.{ObservationEnds, OrderEnds, has, lacks}
use Rattle.pm_lab_words.specs.Request.{Sought}
use Rattle.pm_outcomes.specs.wanted.Sought.{observation_sought}
use Rattle.pm_cmd_lab.specs.order.Work.{CameTo, IsNotShown, Work, message_after, status_after}
use Rattle.pm_lab_words.specs.declared.request.Bounds.{Bounds}
use Rattle.pm_outcomes.specs.declared.list.observations.Observation.{Observation}
use Rattle.pm_model.specs.declared.plan.Plan.{Plan}

-- behind it its message and its status
pub answered_after : (Ends : Ending → Type 0) (file : List ℕ) (Unread : Type 0) (work : Work) (status : ℕ) (out err : Taking) → CameTo Ends work Unread out → status ≡ status_after work → Told err (message_after file work)
    → Answered Ends status (OfThis file Unread) out err
answered_after Ends file Unread (Ok told) status out err came is message = answered Ends file Unread (Ok told) status out err came is message
answered_after Ends file Unread (Err (stop.Fault f)) status out err came is message = answered Ends file Unread (Err f) status out err came is message
answered_after Ends file Unread (Err (stop.Absent text)) status out err came is message = ended (Absent text.items) came.0 is came.1 message
answered_after Ends file Unread (Err (stop.Unseen text)) status out err came is message = ended (Unseen text.items) came.0 is came.1 message

-- the same for a command that may come to more endings
pub came_further : (E F : Ending → Type 0) (U V : Type 0) → ((ending : Ending) → E ending → F ending) → (U → V) → (out : Taking) (work : Work) → CameTo E work U out → CameTo F work V out
came_further E F U V more reads out (Ok told) came = came_weaker E F U V more reads out (Ok told) came
came_further E F U V more reads out (Err (stop.Fault f)) came = came_weaker E F U V more reads out (Err f) came
came_further E F U V more reads out (Err (stop.Absent text)) came = (more (Absent text.items) came.0, came.1)
came_further E F U V more reads out (Err (stop.Unseen text)) came = (more (Unseen text.items) came.0, came.1)

-- over the plan that was read
pub came_of_file : (all : Bool) (known : Option (List ℕ)) (file : List ℕ) (plan : Plan) (Ends : Plan → Ending → Type 0) (V : Type 0) (out : Taking) (work : Work) → IsRead all known plan → CameTo (Ends plan) work ⊥ out → CameTo (OfPlan all known file Ends) work V out
came_of_file all known file plan Ends V out work reads came =
    came_further (Ends plan) (OfPlan all known file Ends) ⊥ V (λ ending ends. held reads.bytes reads.holds ending (read plan reads.is ending ends)) (λ none. absurd none) out work came

-- of a plan that has what the words name
pub came_of_observation : (bounds : Bounds) (asked : Sought) (plan : Plan) (observation : Observation) (out : Taking) (work : Work) → observation_sought plan asked ≡ Ok observation → CameTo (ObservationEnds bounds plan observation) work ⊥ out → CameTo (OrderEnds bounds asked plan) work ⊥ out
came_of_observation bounds asked plan observation out work is came = came_further (ObservationEnds bounds plan observation) (OrderEnds bounds asked plan) ⊥ ⊥ (λ ending ends. has observation is ending ends) (λ none. none) out work came

-- of one that hasn't
pub came_missing : (bounds : Bounds) (asked : Sought) (plan : Plan) (missing : Missing) (text : Vec ℕ Global) (out : Taking) → observation_sought plan asked ≡ Err missing → text.items ≡ missing_text plan asked missing → TookNothing out
    → CameTo (OrderEnds bounds asked plan) (Err (stop.Fault (fault.Refused text))) ⊥ out
came_missing bounds asked plan missing text out is same nothing =
    (subst (λ (t : List ℕ). OrderEnds bounds asked plan (Refused t)) (sym same) (lacks missing is), nothing)

-- where there is no schedule
pub came_not_shown : (bounds : Bounds) (plan : Plan) (observation : Observation) (why : Stop) (out : Taking) → IsNotShown bounds plan observation why → TookNothing out → CameTo (ObservationEnds bounds plan observation) (Err why) ⊥ out
came_not_shown bounds plan observation (stop.Fault (fault.Refused text)) out not nothing = absurd not
came_not_shown bounds plan observation (stop.Fault fault.ReadFailed) out not nothing = absurd not
came_not_shown bounds plan observation (stop.Fault fault.WriteFailed) out not nothing = absurd not
came_not_shown bounds plan observation (stop.Fault fault.NoMemory) out not nothing = nothing
came_not_shown bounds plan observation (stop.Absent text) out not nothing = (not, nothing)
came_not_shown bounds plan observation (stop.Unseen text) out not nothing = (not, nothing)
