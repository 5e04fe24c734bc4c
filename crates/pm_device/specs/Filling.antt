-- Which views the counters of a plan can be set to (this project's own).
use Rattle.std.specs.Prelude.{◌≡◌, List, Bool, Option, All, length}
use Rattle.pm_base.specs.declared.Armed.{Armed}
use Rattle.pm_base.specs.declared.Pending.{Pending}
use Rattle.pm_model.specs.declared.views.Device.{Device}
use Rattle.pm_model.specs.Views.{Views}
use Rattle.pm_device.specs.Parts.{IsInTime}

-- the other views have as many entries, and a run can reckon with the times of each device
pub record CanBe (old new : Views) : Type 0 where
  pub devices : length new.devices ≡ length old.devices
  pub pending : length new.pending ≡ length old.pending
  pub timers : length new.timers ≡ length old.timers
  pub on : length new.on ≡ length old.on
  pub held : length new.held ≡ length old.held
  pub present : length new.present ≡ length old.present
  pub links : length new.present ≡ length new.held
  pub in_time : All IsInTime new.devices

-- the views with these entries
abbrev pub views_of : List Device → List Pending → List (Option Armed) → List Bool → List Bool → List Bool → Views
views_of devices pending timers on held present = record { devices = devices; pending = pending; timers = timers; on = on; held = held; present = present }
