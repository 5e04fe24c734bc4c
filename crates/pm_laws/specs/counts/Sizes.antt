-- How many entries the views and the places have.
use Rattle.std.specs.Prelude.{◌≡◌, length}
use Rattle.pm_model.specs.declared.plan.Plan.{Plan}
use Rattle.pm_model.specs.Views.{Views}
use Rattle.pm_model.specs.World.{World}

-- one entry for each device, domain and link of the plan
pub record HasEntries (plan : Plan) (v : Views) : Type 0 where
  pub devices : length v.devices ≡ length plan.devices
  pub pending : length v.pending ≡ length plan.devices
  pub timers : length v.timers ≡ length plan.devices
  pub on : length v.on ≡ length plan.domains
  pub held : length v.held ≡ length plan.links
  pub present : length v.present ≡ length plan.links

-- one place for each actor
pub record HasPlaces (plan : Plan) (w : World) : Type 0 where
  pub callers : length w.caller_places ≡ length plan.callers
  pub works : length w.work_places ≡ length plan.devices
  pub timers : length w.timer_places ≡ length plan.devices
