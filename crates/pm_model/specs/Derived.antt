-- What follows from the views (runtime_pm.rst, sections 2, 4 and 9; device_link.rst for links; the rule for domains and
-- the order of the refusals are this project's own).
use Rattle.std.specs.Prelude.{ℕ, ◌+◌, ◌-◌, Bool, true, false, not, ◌&&◌, ◌||◌, List, [], ◌∷◌, Option, Some, None, ℤ, pos, count_by, nat_abs, nat_lt, nat_le, nat_eq, int_le, int_lt, is_some, bit_and, slice_get, slice_set, unwrap_or, if◌then◌else◌}
use Rattle.std.specs.List.{enumerate_from, filter, list_all, zip}
use Rattle.std.specs.Option.{option_map_or}
use Rattle.std.specs.Ordering.{int_eq}
use Rattle.pm_base.specs.declared.Cb.{Cb}
use Rattle.pm_base.specs.declared.Cb.TheVariants as cb
use Rattle.pm_base.specs.declared.DevId.{DevId}
use Rattle.pm_base.specs.declared.Status.{Status}
use Rattle.pm_base.specs.declared.Status.TheVariants as status
use Rattle.pm_base.specs.declared.Req.{Req}
use Rattle.pm_base.specs.declared.Req.TheVariants as req
use Rattle.pm_base.specs.declared.codes.TheConstants.{EAGAIN, EACCES, EBUSY, EINVAL}
use Rattle.pm_model.specs.declared.event.Fields.{Fields}
use Rattle.pm_model.specs.declared.plan.Plan.{Plan}
use Rattle.pm_model.specs.declared.rows.DeviceRow.{DeviceRow}
use Rattle.pm_model.specs.declared.rows.LinkRow.{LinkRow}
use Rattle.pm_model.specs.declared.views.Device.{Device}
use Rattle.pm_model.specs.PlanRows.{codes_of, domains_of, is_always_on, has_parent, parent_of}
use Rattle.pm_model.specs.Views.{Views, device, pending_of, is_on}

-- the first whose test holds, or the last
abbrev pub first_of : {A : Type 0} → List (Bool × A) → A → A
first_of [] last = last
first_of (r ∷ rows) last = if r.0 then r.1 else first_of rows last

abbrev pub is_active_status : Status → Bool
is_active_status status.Active = true
is_active_status _ = false

abbrev pub is_suspended_status : Status → Bool
is_suspended_status status.Suspended = true
is_suspended_status _ = false

abbrev pub is_suspending_status : Status → Bool
is_suspending_status status.Suspending = true
is_suspending_status _ = false

abbrev pub is_resuming_status : Status → Bool
is_resuming_status status.Resuming = true
is_resuming_status _ = false

abbrev pub is_active : Views → DevId → Bool
is_active v d = is_active_status (device v d).status

abbrev pub is_suspended : Views → DevId → Bool
is_suspended v d = is_suspended_status (device v d).status

abbrev pub is_suspending : Views → DevId → Bool
is_suspending v d = is_suspending_status (device v d).status

abbrev pub is_resuming : Views → DevId → Bool
is_resuming v d = is_resuming_status (device v d).status

-- Suspending or Resuming
abbrev pub is_moving : Views → DevId → Bool
is_moving v d = is_suspending v d || is_resuming v d

abbrev pub has_error : Views → DevId → Bool
has_error v d = not (int_eq (device v d).error (pos 0))

abbrev pub is_disabled : Views → DevId → Bool
is_disabled v d = nat_lt 0 (device v d).depth

abbrev pub is_in_use : Views → DevId → Bool
is_in_use v d = nat_lt 0 (device v d).usage

abbrev pub is_resume_request : Req → Bool
is_resume_request req.Resume = true
is_resume_request _ = false

abbrev pub asks_resume : Views → DevId → Bool
asks_resume v d = is_resume_request (pending_of v d).request

-- whether a flag is among the flags
unfoldable pub has : ℕ → ℕ → Bool
has flags flag = not (nat_eq (bit_and flags flag) 0)

-- whether a device with this row and these views is a child of d that counts
abbrev pub is_counted_child : DevId → DeviceRow → Device → Bool
is_counted_child d row x =
    option_map_or (λ p. nat_eq p.0 d.0) row.parent false && (is_active_status x.status || is_suspending_status x.status)

-- the number of devices with parent d that are Active or Suspending
unfoldable pub children : Plan → Views → DevId → ℕ
children plan v d = count_by (λ p. is_counted_child d p.0 p.1) (zip plan.devices v.devices)

-- children that d doesn't ignore
abbrev pub has_children : Plan → Views → DevId → Bool
has_children plan v d = nat_lt 0 (children plan v d) && not (device v d).ignores

-- why an idle or a suspend of d is refused; 1 where it is suspended already, and 0 where nothing stands in the way
unfoldable pub refusal : Plan → Views → DevId → ℤ
refusal plan v d =
    first_of (
    (has_error v d, EINVAL)
    ∷ (is_disabled v d, EACCES)
    ∷ (is_in_use v d, EAGAIN)
    ∷ (has_children plan v d, EBUSY)
    ∷ (is_suspending v d && (pending_of v d).deferred, EAGAIN)
    ∷ (asks_resume v d, EAGAIN)
    ∷ (is_suspended v d, pos 1)
    ∷ []) (pos 0)

-- d is Suspending or Resuming, or its idle callback runs
unfoldable pub busy : Views → DevId → Bool
busy v d = is_moving v d || (device v d).idle_running

-- when an autosuspend of d may begin (runtime_pm.rst, section 9)
unfoldable pub expiry : Views → DevId → Option ℕ
expiry v d =
    if (device v d).use_auto && int_le (pos 0) (device v d).delay
    then Some ((device v d).last_busy + nat_abs (device v d).delay)
    else None

-- there is an expiry, and it hasn't passed at t
abbrev pub is_ahead : Option ℕ → ℕ → Bool
is_ahead at t = option_map_or (λ moment. nat_lt t moment) at false

-- autosuspend in use with a negative delay prevents suspends (runtime_pm.rst, section 9)
abbrev pub prevented : Bool → ℤ → Bool
prevented use_auto delay = use_auto && int_lt delay (pos 0)

-- the parent of d has to be Active before d is: it is enabled and doesn't ignore its children
unfoldable pub minds_parent : Plan → Views → DevId → Bool
minds_parent plan v d = has_parent plan d && nat_eq (device v (parent_of plan d)).depth 0 && not (device v (parent_of plan d)).ignores

abbrev pub awaits_parent : Plan → Views → DevId → Bool
awaits_parent plan v d = minds_parent plan v d && not (is_active v (parent_of plan d))

-- how many times this callback of d has begun
abbrev pub begun : Views → Cb → DevId → ℕ
begun v cb.Idle d = (device v d).begun_idle
begun v cb.Suspend d = (device v d).begun_suspend
begun v cb.Resume d = (device v d).begun_resume

-- what the callback of d that has begun last answers: the n-th code, or 0 after the last
unfoldable pub callback_code : Plan → Views → Cb → DevId → ℤ
callback_code plan v cb d = unwrap_or (slice_get (codes_of plan cb d) (begun v cb d - 1)) (pos 0)

-- the payload of a line of d
unfoldable pub fields : Plan → Views → DevId → ℕ → Fields
fields plan v d flags = record {
  flags = flags;
  cnt = (device v d).usage;
  dep = (device v d).depth;
  auto_on = (device v d).auto_on;
  pending = (pending_of v d).queued;
  child = children plan v d;
}

-- the domains of d that are off: they go on before d resumes
unfoldable pub up : Plan → Views → DevId → List ℕ
up plan v d = filter (λ o. not (is_on v o)) (domains_of plan d)

-- each device but d that is attached to the domain is Suspended and enabled
abbrev pub are_quiet : Plan → Views → DevId → ℕ → Bool
are_quiet plan v d o =
    list_all (λ p. nat_eq p.0 d.0 || not (option_map_or (λ x. nat_eq x.0 o) p.1.domain false)
    || (is_suspended v (record { 0 = p.0 }) && nat_eq (device v (record { 0 = p.0 })).depth 0)) (enumerate_from 0 plan.devices)

-- each domain under this one is off
abbrev pub are_off : Plan → List Bool → ℕ → Bool
are_off plan on o = list_all (λ p. not (option_map_or (λ x. nat_eq x.0 o) p.0.parent false) || not p.1) (zip plan.domains on)

-- whether the domain goes off once d is suspended
abbrev pub goes_off : Plan → Views → DevId → List Bool → ℕ → Bool
goes_off plan v d on o = option_map_or (λ b. b) (slice_get on o) false && not (is_always_on plan o) && are_quiet plan v d o && are_off plan on o

-- those of a chain of domains that go off in turn, until the first that doesn't
abbrev pub going_off : Plan → Views → DevId → List Bool → List ℕ → List ℕ
going_off plan v d on [] = []
going_off plan v d on (o ∷ above) =
    if goes_off plan v d on o then o ∷ going_off plan v d (slice_set on o false) above else []

-- the domains that go off once d is suspended
unfoldable pub down : Plan → Views → DevId → List ℕ
down plan v d = going_off plan v d v.on (domains_of plan d)

-- a link that has DL_FLAG_PM_RUNTIME and is present, of this consumer
abbrev pub is_link_of : DevId → LinkRow → Bool → Bool
is_link_of d row present = nat_eq row.consumer.0 d.0 && row.pm_runtime && present

-- of two links, the one with the lesser supplier
abbrev pub nearer : ℕ × DevId → Option (ℕ × DevId) → Option (ℕ × DevId)
nearer x None = Some x
nearer x (Some y) = if nat_le x.1.0 y.1.0 then Some x else Some y

-- of the links that pass the test, by place, row, held and present, the one with the least supplier: its place and that supplier
abbrev pub least_link : (LinkRow → Bool → Bool → Bool) → ℕ → List LinkRow → List Bool → List Bool → Option (ℕ × DevId)
least_link test i (row ∷ rows) (h ∷ held) (p ∷ present) =
    if test row h p then nearer (i, row.supplier) (least_link test (i + 1) rows held present) else least_link test (i + 1) rows held present
least_link test i _ _ _ = None

-- the link of d with the least supplier that is held, and that supplier
unfoldable pub first_held : Plan → Views → DevId → Option (ℕ × DevId)
first_held plan v d = least_link (λ row held present. is_link_of d row present && held) 0 plan.links v.held v.present

-- the link of d with the least supplier that is free, and that supplier
unfoldable pub first_free : Plan → Views → DevId → Option (ℕ × DevId)
first_free plan v d = least_link (λ row held present. is_link_of d row present && not held) 0 plan.links v.held v.present

-- whether this device stands behind the last one
abbrev pub is_above : Option DevId → DevId → Bool
is_above last s = option_map_or (λ l. nat_lt l.0 s.0) last true

-- the link of d with the least supplier above the last one, and that supplier
unfoldable pub next_supplier : Plan → Views → DevId → Option DevId → Option (ℕ × DevId)
next_supplier plan v d last =
    least_link (λ row held present. is_link_of d row present && is_above last row.supplier) 0 plan.links v.held v.present

-- d has a link
unfoldable pub has_link : Plan → Views → DevId → Bool
has_link plan v d = is_some (next_supplier plan v d None)
