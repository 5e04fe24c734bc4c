-- What a place that is replaced leaves as it is, and when an actor may go on.
use Rattle.std.proofs.Common.{ℕ, ◌≡◌, ◌+◌, ◌*◌, ◌∙◌, Bool, true, false, ◌&&◌, List, [], length, map, replicate, ap, refl}
use Rattle.pm_base.specs.declared.ActorId.{ActorId}
use Rattle.pm_base.specs.declared.ActorId.TheVariants.{Caller, Work, Timer}
use Rattle.pm_model.specs.declared.plan.Plan.{Plan}
use Rattle.pm_model.specs.declared.stage.Stage.{Stage}
use Rattle.pm_model.specs.Views.{Views}
use Rattle.pm_model.specs.WellFormed.{is_well_formed}
use Rattle.pm_model.specs.World.{World, start, start_views, with_place}
use Rattle.pm_state.specs.Places.{Stacks}
use Rattle.pm_state.specs.Seats.{world_of}
use Rattle.pm_state.specs.Standing.{can_go_on, is_awake}
use Rattle.pm_state.proofs.ChainLemmas.{map_constant}
use Rattle.pm_state.proofs.SeatLemmas.{fresh_row}

-- the views stay where a place is replaced
pub with_place_views : (w : World) (actor : ActorId) (stages : List Stage) → (with_place w actor stages).views ≡ w.views
with_place_views w (Caller c) stages = refl
with_place_views w (Work d) stages = refl
with_place_views w (Timer d) stages = refl

first_of_two : (a b : Bool) → a && b ≡ true → a ≡ true
first_of_two true b h = refl
first_of_two false b h = h

-- a stage at which an actor may go on is well formed
pub well_formed_of : (plan : Plan) (v : Views) (s : Stage) → can_go_on plan v s ≡ true → is_well_formed plan v s ≡ true
well_formed_of plan v s h = first_of_two (is_well_formed plan v s) (is_awake s) h

-- the world before any line
pub fresh_world : (plan : Plan) (v : Views) (places : Stacks) (called : List ℕ) (n m room : ℕ) → v ≡ start_views plan → n ≡ length plan.callers → m ≡ length plan.devices
    → places ≡ record { stages = replicate (n + 2 * m) []; room = room } → called ≡ map (λ row. 0) plan.callers → world_of v n m places.stages called ≡ start plan
fresh_world plan v places called n m room views callers devices is none =
    let empties : ℕ → List (List Stage) = λ n. replicate n [] in
    let of_callers : empties n ≡ map (λ row. []) plan.callers = ap empties callers ∙ map_constant [] plan.callers in
    let of_devices : empties m ≡ map (λ row. []) plan.devices = ap empties devices ∙ map_constant [] plan.devices in
    ap (λ (p : Stacks). world_of v n m p.stages called) is ∙ fresh_row v n m called ∙ (rw (views, of_callers, of_devices, none) refl)
