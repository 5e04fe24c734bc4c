-- The counters of all devices, links and domains: what they are made for, and the views that they keep (runtime_pm.rst,
-- section 3; device_link.rst).
use Rattle.std.specs.Prelude.{◌≡◌, ◌<◌, ◌^◌, ℕ, Bool, not, ◌&&◌, List, Option, All, length, map, nat_eq, pos, neg_ℤ, ◌≤ℤ◌}
use Rattle.pm_base.specs.declared.Armed.{Armed}
use Rattle.pm_base.specs.declared.Pending.{Pending}
use Rattle.pm_model.specs.declared.plan.Plan.{Plan}
use Rattle.pm_model.specs.declared.rows.LinkRow.{LinkRow}
use Rattle.pm_model.specs.declared.views.Device.{Device}
use Rattle.pm_model.specs.Derived.{is_suspended_status}
use Rattle.pm_model.specs.Views.{Views}
use Rattle.pm_domain.specs.Domains.{above, homes}
use Rattle.pm_device.specs.Children.{counts, parents}

-- what no line and no script changes
pub record Shape : Type 0 where
  pub parents : List (Option ℕ)
  pub links : List LinkRow
  pub homes : List (Option ℕ)
  pub above : List (Option ℕ)

-- counters of this shape were made for this plan, whatever its scripts: it has the parent and the domain of each device,
-- the links, and the domain above each domain
pub record IsFor (plan : Plan) (shape : Shape) : Type 0 where
  pub parents_are : shape.parents ≡ parents plan
  pub devices_len : length shape.parents ≡ length plan.devices
  pub links_are : shape.links ≡ plan.links
  pub homes_are : shape.homes ≡ homes plan
  pub above_are : shape.above ≡ above plan
  pub domains_len : length shape.above ≡ length plan.domains

-- the counters of all devices
pub record Counters : Type 0 where
  pub shape : Shape
  pub views : Views

-- Suspended and enabled: such a device keeps no domain on
abbrev pub is_quiet : Device → Bool
is_quiet x = is_suspended_status x.status && nat_eq x.depth 0

-- what a run can reckon with: the last mark is below 2^63, and the delay is at most 1,000,000 ms from 0
pub record IsInTime (x : Device) : Type 0 where
  pub last_busy : x.last_busy < 2 ^ 63
  pub least : neg_ℤ (pos 1000000) ≤ℤ x.delay
  pub most : x.delay ≤ℤ pos 1000000

-- what the counters keep beside the views: which devices count as children, and which keep their domains on
pub record IsKept (parents : List (Option ℕ)) (devices : List Device) (pending : List Pending) (timers : List (Option Armed)) (homes : List (Option ℕ)) (awake : List Bool) (above : List (Option ℕ)) (on counting : List Bool) : Type 0 where
  pub devices_len : length devices ≡ length parents
  pub pending_len : length pending ≡ length parents
  pub timers_len : length timers ≡ length parents
  pub homes_len : length homes ≡ length parents
  pub on_len : length on ≡ length above
  pub counting_is : counting ≡ map (λ x. counts x.status) devices
  pub awake_is : awake ≡ map (λ x. not (is_quiet x)) devices
  pub in_time : All IsInTime devices
