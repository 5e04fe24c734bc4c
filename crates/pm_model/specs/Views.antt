-- The views: what a device, a link or a domain is after a list of lines (runtime_pm.rst, section 3; for links
-- device_link.rst; for domains this project's own, after the kernel's generic power domains).
use Rattle.std.specs.Prelude.{ℕ, Bool, true, false, List, Option, None, pos, slice_index_or, slice_set}
use Rattle.pm_base.specs.declared.Armed.{Armed}
use Rattle.pm_base.specs.declared.DevId.{DevId}
use Rattle.pm_base.specs.declared.Pending.{Pending}
use Rattle.pm_base.specs.declared.Req.TheVariants.{Nothing}
use Rattle.pm_base.specs.declared.Status.TheVariants.{Suspended}
use Rattle.pm_model.specs.declared.views.Device.{Device}

-- one entry per device, per domain and per link of the plan, in its order; children is derived
pub record Views : Type 0 where
  pub devices : List Device
  pub pending : List Pending
  pub timers : List (Option Armed)
  pub on : List Bool
  pub held : List Bool
  pub present : List Bool

-- a device before any line (runtime_pm.rst, section 5)
abbrev pub fresh_device : Device
fresh_device = record {
  status = Suspended;
  error = pos 0;
  depth = 1;
  last_active = false;
  usage = 0;
  share = 0;
  auto_on = true;
  last_busy = 0;
  use_auto = false;
  delay = pos 0;
  idle_running = false;
  ignores = false;
  begun_idle = 0;
  begun_suspend = 0;
  begun_resume = 0;
}

abbrev pub fresh_pending : Pending
fresh_pending = record { request = Nothing; queued = false; deferred = false }

abbrev pub device : Views → DevId → Device
device v d = slice_index_or v.devices d.0 fresh_device

abbrev pub pending_of : Views → DevId → Pending
pending_of v d = slice_index_or v.pending d.0 fresh_pending

abbrev pub timer : Views → DevId → Option Armed
timer v d = slice_index_or v.timers d.0 None

abbrev pub is_on : Views → ℕ → Bool
is_on v o = slice_index_or v.on o false

abbrev pub is_held : Views → ℕ → Bool
is_held v l = slice_index_or v.held l false

abbrev pub is_present : Views → ℕ → Bool
is_present v l = slice_index_or v.present l false

-- the views with one entry changed
abbrev pub with_device : Views → DevId → Device → Views
with_device v d x = record v { devices = slice_set v.devices d.0 x }

abbrev pub with_pending : Views → DevId → Pending → Views
with_pending v d x = record v { pending = slice_set v.pending d.0 x }

abbrev pub with_timer : Views → DevId → Option Armed → Views
with_timer v d x = record v { timers = slice_set v.timers d.0 x }
