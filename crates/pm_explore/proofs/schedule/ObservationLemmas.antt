-- What shows where a schedule stands is what its last line tells.
use Rattle.std.proofs.Common.{ℕ, ℤ, ◌≡◌, ◌↔◌, [], ◌∷◌, ◌∙◌, Some, refl, ap}
use Rattle.pm_base.specs.declared.ActorId.{ActorId}
use Rattle.pm_base.specs.declared.ActorId.TheVariants.{Caller}
use Rattle.pm_base.specs.declared.DevId.{DevId}
use Rattle.pm_model.specs.declared.event.Event.{Event}
use Rattle.pm_model.specs.declared.event.Event.TheVariants as event
use Rattle.pm_model.specs.declared.event.Helper.{Helper}
use Rattle.pm_model.specs.declared.event.Line.{Line}
use Rattle.pm_model.specs.declared.plan.Plan.{Plan}
use Rattle.pm_model.specs.History.{History}
use Rattle.pm_model.specs.World.{called_by, world}
use Rattle.pm_explore.specs.schedule.Observations.{EndsWithReturn, HasObservation}
use Rattle.pm_explore.specs.schedule.Observations.Observation.{Returns}
use Rattle.pm_explore.specs.schedule.Schedules.{last_actor, last_code, snapshot}
use Rattle.pm_explore.specs.schedule.Snapshots.{code_of}

same_actor : (x y : ActorId) → Some x ≡ Some y → x ≡ y
same_actor x y is = cc is

same_code : (x y : ℤ) → Some x ≡ Some y → x ≡ y
same_code x y is = cc is

-- an event with a code is a return
is_return : (e : Event) (code : ℤ) → code_of e ≡ Some code → (helper : Helper) × (d : DevId) × (e ≡ event.Ret helper d code)
is_return (event.Ret helper d c) code is = (helper, d, ap (event.Ret helper d) (same_code c code is))
is_return _ code is = cc is

of_snapshot : (h : History) (caller : ℕ) (code : ℤ) → last_actor h ≡ Some (Caller caller) → last_code h ≡ Some code → EndsWithReturn h caller code
of_snapshot [] caller code by is = cc by
of_snapshot (line ∷ h) caller code by is =
    let r = is_return line.event code is in
    record { line = line; before = h; lines = refl; by = same_actor line.actor (Caller caller) by; helper = r.0; d = r.1; returns = r.2 }

pub shows : (plan : Plan) (h : History) (caller command : ℕ) (code : ℤ) → HasObservation plan (snapshot plan h) (Returns caller command code) ↔ (EndsWithReturn h caller code × (called_by (world plan h) caller ≡ command))
shows plan h caller command code = (
  λ observation. (of_snapshot h caller code observation.0 observation.1, observation.2),
  λ tells. let r = tells.0 in (ap last_actor r.lines ∙ ap Some r.by, ap last_code r.lines ∙ ap code_of r.returns, tells.1),
)
