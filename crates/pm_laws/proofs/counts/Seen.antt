-- What the laws see of the views, and what in them isn't seen.
use Rattle.std.proofs.Common.{ℕ, ◌≡◌, Bool, true, false, List, Option, ℤ, length, map, slice_index_or, if◌then◌else◌, ap, refl, sym, ◌∙◌}
use Rattle.std.proofs.Math.Seq.{map-set_same}
use Rattle.std.proofs.Math.ListN.{get_or-map}
use Rattle.std.proofs.lemmas.List.{length-set, length-map}
use Rattle.pm_base.specs.declared.Armed.{Armed}
use Rattle.pm_base.specs.declared.DevId.{DevId}
use Rattle.pm_base.specs.declared.Pending.{Pending}
use Rattle.pm_base.specs.declared.Status.{Status}
use Rattle.pm_model.specs.declared.plan.Plan.{Plan}
use Rattle.pm_model.specs.declared.views.Device.{Device}
use Rattle.pm_model.specs.Changes.{set_last_busy}
use Rattle.pm_model.specs.Views.{Views, fresh_device, device, with_device, with_pending, with_timer}
use Rattle.pm_laws.specs.counts.Counts.{told}
use Rattle.pm_laws.specs.counts.Sizes.{HasEntries}

-- of a device's counts: the usage, and what the views tell of those that hold it
pub record Account : Type 0 where
  pub usage : ℕ
  pub told : ℕ

abbrev pub account_of : Device → Account
account_of x = record { usage = x.usage; told = told x }

abbrev pub usage_of : Device → ℕ
usage_of x = x.usage

abbrev pub status_of : Device → Status
status_of x = x.status

-- of a device: what the laws say beside its status and its counts
pub record Aside : Type 0 where
  pub error : ℤ
  pub auto_on : Bool
  pub idle_running : Bool
  pub share : ℕ

abbrev pub aside_of : Device → Aside
aside_of x = record { error = x.error; auto_on = x.auto_on; idle_running = x.idle_running; share = x.share }

-- the statuses, the counts and how many entries there are
pub record Core : Type 0 where
  pub statuses : List Status
  pub accounts : List Account
  pub held : List Bool
  pub pending : ℕ
  pub timers : ℕ
  pub on : ℕ
  pub present : ℕ

unfoldable pub core : Views → Core
core v = record {
  statuses = map status_of v.devices;
  accounts = map account_of v.devices;
  held = v.held;
  pending = length v.pending;
  timers = length v.timers;
  on = length v.on;
  present = length v.present;
}

-- all that the laws see: only an event changes it, but for what a setting of autosuspend counts
pub record Seen : Type 0 where
  pub core : Core
  pub asides : List Aside
  pub domains : List Bool

unfoldable pub seen : Views → Seen
seen v = record { core = core v; asides = map aside_of v.devices; domains = v.on }

pub core_seen : (v v' : Views) → seen v' ≡ seen v → core v' ≡ core v
unfolding seen
core_seen v v' e = ap (λ (x : Seen). x.core) e

-- what is the same where as much is seen
pub status_core : (v v' : Views) (d : DevId) → core v' ≡ core v → (device v' d).status ≡ (device v d).status
unfolding core
status_core v v' d e =
    sym (get_or-map status_of v'.devices d.0 fresh_device) ∙ ap (λ (x : Core). slice_index_or x.statuses d.0 fresh_device.status) e
    ∙ get_or-map status_of v.devices d.0 fresh_device

pub account_core : (v v' : Views) (d : DevId) → core v' ≡ core v → account_of (device v' d) ≡ account_of (device v d)
unfolding core
account_core v v' d e =
    sym (get_or-map account_of v'.devices d.0 fresh_device) ∙ ap (λ (x : Core). slice_index_or x.accounts d.0 (account_of fresh_device)) e
    ∙ get_or-map account_of v.devices d.0 fresh_device

pub held_core : (v v' : Views) → core v' ≡ core v → v'.held ≡ v.held
unfolding core
held_core v v' e = ap (λ (x : Core). x.held) e

pub entries_core : (plan : Plan) (v v' : Views) → core v' ≡ core v → HasEntries plan v → HasEntries plan v'
unfolding core
entries_core plan v v' e h = record {
  devices = sym (length-map v'.devices status_of) ∙ ap (λ (x : Core). length x.statuses) e ∙ length-map v.devices status_of ∙ h.devices;
  pending = ap (λ (x : Core). x.pending) e ∙ h.pending;
  timers = ap (λ (x : Core). x.timers) e ∙ h.timers;
  on = ap (λ (x : Core). x.on) e ∙ h.on;
  held = ap (λ (x : Core). length x.held) e ∙ h.held;
  present = ap (λ (x : Core). x.present) e ∙ h.present;
}

pub status_seen : (v v' : Views) (d : DevId) → seen v' ≡ seen v → (device v' d).status ≡ (device v d).status
status_seen v v' d e = status_core v v' d (core_seen v v' e)

pub account_seen : (v v' : Views) (d : DevId) → seen v' ≡ seen v → account_of (device v' d) ≡ account_of (device v d)
account_seen v v' d e = account_core v v' d (core_seen v v' e)

pub held_seen : (v v' : Views) → seen v' ≡ seen v → v'.held ≡ v.held
held_seen v v' e = held_core v v' (core_seen v v' e)

pub entries_seen : (plan : Plan) (v v' : Views) → seen v' ≡ seen v → HasEntries plan v → HasEntries plan v'
entries_seen plan v v' e h = entries_core plan v v' (core_seen v v' e) h

-- what no change that a row names touches, beside the statuses and the counts
pub record Untouched (v v' : Views) : Type 0 where
  pub asides : (d : DevId) → aside_of (device v' d) ≡ aside_of (device v d)
  pub held : v'.held ≡ v.held
  pub domains : v'.on ≡ v.on

pub untouched_seen : (v v' : Views) → seen v' ≡ seen v → Untouched v v'
unfolding seen
untouched_seen v v' e = record {
  asides = λ d. sym (get_or-map aside_of v'.devices d.0 fresh_device) ∙ ap (λ (x : Seen). slice_index_or x.asides d.0 (aside_of fresh_device)) e ∙ get_or-map aside_of v.devices d.0 fresh_device;
  held = held_seen v v' e;
  domains = ap (λ (x : Seen). x.domains) e;
}

-- one entry changes where it isn't seen
pub device_core : (v : Views) (d : DevId) (x : Device) → status_of x ≡ status_of (device v d) → account_of x ≡ account_of (device v d)
    → core (with_device v d x) ≡ core v
unfolding core
device_core v d x s a = rw (map-set_same status_of v.devices d.0 x fresh_device s, map-set_same account_of v.devices d.0 x fresh_device a) refl

pub device_calm : (v : Views) (d : DevId) (x : Device) → status_of x ≡ status_of (device v d) → account_of x ≡ account_of (device v d)
    → aside_of x ≡ aside_of (device v d) → seen (with_device v d x) ≡ seen v
unfolding seen
device_calm v d x s a b = rw (device_core v d x s a, map-set_same aside_of v.devices d.0 x fresh_device b) refl

pub pending_calm : (v : Views) (d : DevId) (x : Pending) → seen (with_pending v d x) ≡ seen v
unfolding seen core
pending_calm v d x = rw (length-set v.pending d.0 x) refl

pub timer_calm : (v : Views) (d : DevId) (x : Option Armed) → seen (with_timer v d x) ≡ seen v
unfolding seen core
timer_calm v d x = rw (length-set v.timers d.0 x) refl

-- whichever of two changes is made
pub either_calm : (b : Bool) (v x y : Views) → seen x ≡ seen v → seen y ≡ seen v → seen (if b then x else y) ≡ seen v
either_calm true v x y e f = e
either_calm false v x y e f = f

pub either_core : (b : Bool) (v x y : Views) → core x ≡ core v → core y ≡ core v → core (if b then x else y) ≡ core v
either_core true v x y e f = e
either_core false v x y e f = f

-- when the device was last marked busy isn't seen
pub last_busy_calm : (t : ℕ) (d : DevId) (v : Views) → seen (set_last_busy t d v) ≡ seen v
last_busy_calm t d v = device_calm v d _ refl refl refl
