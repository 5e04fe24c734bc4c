-- What is seen where a schedule of a driver stands (this project's own).
use Rattle.std.specs.Prelude.{ℕ, ℤ, Bool, true, false, not, ◌&&◌, ◌||◌, List, Option, None, int_lt, nat_eq, nat_lt, pos, slice_get, unwrap_or, if◌then◌else◌}
use Rattle.std.specs.Option.{option_map_or}
use Rattle.std.specs.Ordering.{int_eq}
use Rattle.pm_base.specs.declared.ActorId.{ActorId}
use Rattle.pm_base.specs.declared.ActorId.TheVariants.{Caller}
use Rattle.pm_base.specs.declared.codes.TheConstants.{EACCES, EINVAL}
use Rattle.pm_base.specs.declared.DevId.{DevId}
use Rattle.pm_model.specs.declared.plan.Plan.{Plan}
use Rattle.pm_model.specs.declared.rows.DeviceRow.{DeviceRow}
use Rattle.pm_model.specs.declared.views.Device.{Device}
use Rattle.pm_driver_orders.specs.declared.Position.{Position}
use Rattle.pm_driver_orders.specs.declared.Position.TheVariants.{At, In}
use Rattle.pm_driver_orders.specs.DriverSnapshots.{DriverSnapshot}
use Rattle.pm_driver_rules.specs.Rules.{is_active_status, status_at}
use Rattle.pm_driver_find.specs.declared.examined.ExaminedDriver.{ExaminedDriver}
use Rattle.pm_driver_find.specs.declared.sights.DriverSight.{DriverSight}
use Rattle.pm_driver_find.specs.declared.sights.DriverSight.TheVariants as sight
use Rattle.pm_driver_find.specs.declared.sights.ProbeSetting.{ProbeSetting}
use Rattle.pm_driver_find.specs.declared.sights.ProbeSetting.TheVariants as setting
use Rattle.pm_driver_find.specs.Ends.{any_at, is_at_rest, is_over, is_unbound, is_undone}

abbrev pub is_caller_of : ℕ → ActorId → Bool
is_caller_of c (Caller other) = nat_eq other c
is_caller_of c _ = false

-- the code that the last line returned from the call of a caller's place
abbrev pub code_by : DriverSnapshot → ℕ → ℕ → Option ℤ
code_by s c k = if option_map_or (is_caller_of c) s.snapshot.last false && option_map_or (λ other. nat_eq other k) s.returned false then s.snapshot.code else None

abbrev pub has_answered : DriverSnapshot → ℕ → ℕ → ℤ → Bool
has_answered s c k code = option_map_or (λ other. int_eq other code) (code_by s c k) false

-- a code below 0, and none for a device that is disabled
abbrev pub is_failure_code : ℤ → Bool
is_failure_code code = int_lt code (pos 0) && not (int_eq code EACCES)

abbrev pub has_failed_call : DriverSnapshot → ℕ → ℕ → Bool
has_failed_call s c k = option_map_or is_failure_code (code_by s c k) false

abbrev pub is_in_place : ℕ → Position → Bool
is_in_place k (In other) = nat_eq other k
is_in_place k (At other) = false

abbrev pub is_in_call : List Position → ℕ → ℕ → Bool
is_in_call ps c k = option_map_or (is_in_place k) (slice_get ps c) false

abbrev pub is_before_place : ℕ → Position → Bool
is_before_place k (At other) = nat_eq other k
is_before_place k (In other) = false

abbrev pub is_before_call : List Position → ℕ → ℕ → Bool
is_before_call ps c k = option_map_or (is_before_place k) (slice_get ps c) false

-- the device's own domain is on, where it has one
abbrev pub is_domain_on : Plan → List Bool → DevId → Bool
is_domain_on plan on d = option_map_or (λ (row : DeviceRow). option_map_or (λ o. unwrap_or (slice_get on o.0) false) row.domain true) (slice_get plan.devices d.0) true

-- a caller is in the call of a place, and a device isn't active, or its domain is off
abbrev pub is_off : Plan → DriverSnapshot → ℕ → ℕ → DevId → Bool
is_off plan s c k d =
    is_in_call s.positions c k
    && not (is_active_status (status_at s.snapshot.world.views.devices d) && is_domain_on plan s.snapshot.world.views.on d)

abbrev pub has_no_error : Device → Bool
has_no_error x = int_eq x.error (pos 0)

-- a put answered -22, and not for an error of the device: there was no count to give back
abbrev pub is_refused_put : DriverSnapshot → ℕ → ℕ → DevId → Bool
is_refused_put s c k d = has_answered s c k EINVAL && option_map_or has_no_error (slice_get s.snapshot.world.views.devices d.0) false

-- the device of a number is an active child of this one
abbrev pub is_child_on : List Device → DevId → ℕ → DeviceRow → Bool
is_child_on devices d n row = option_map_or (λ p. nat_eq p.0 d.0 && is_active_status (status_at devices (record { 0 = n }))) row.parent false

-- active and enabled, without an error, and nobody holds it
abbrev pub is_unheld : Device → Bool
is_unheld x = is_active_status x.status && nat_eq x.depth 0 && nat_eq x.usage 0 && has_no_error x

-- nor does a child that counts
abbrev pub is_left_on : Plan → List Device → DevId → Bool
is_left_on plan devices d = option_map_or (λ x. is_unheld x && (x.ignores || not (any_at (is_child_on devices d) 0 plan.devices))) (slice_get devices d.0) false

-- callers hold counts of it
abbrev pub is_shared : List Device → DevId → Bool
is_shared devices d = option_map_or (λ (x : Device). nat_lt 0 x.share) (slice_get devices d.0) false

-- what a probe may set up stands
abbrev pub stands_so : ProbeSetting → Device → Bool
stands_so setting.Enabled x = nat_eq x.depth 0
stands_so setting.Forbidden x = not x.auto_on
stands_so setting.Autosuspend x = x.use_auto

abbrev pub is_set : ProbeSetting → List Device → DevId → Bool
is_set which devices d = option_map_or (stands_so which) (slice_get devices d.0) false

-- nothing more may come, and a caller waits before a place
abbrev pub hangs : ExaminedDriver → DriverSnapshot → ℕ → ℕ → Bool
hangs E s c k = is_before_call s.positions c k && is_over E s

-- each caller has ended or hasn't begun, and a device is left on
abbrev pub leaves_on : ExaminedDriver → DriverSnapshot → DevId → Bool
leaves_on E s d = is_left_on E.rules.now.plan.now s.snapshot.world.views.devices d && is_at_rest E s

-- or callers hold counts of it; those that a probe may keep only where they are to be given back
abbrev pub leaks : ExaminedDriver → DriverSnapshot → DevId → Bool → Bool
leaks E s d kept = is_shared s.snapshot.world.views.devices d && is_at_rest E s && (not kept || is_unbound E s)

-- or what a probe set up is to be undone, and this stands
abbrev pub leaves_set : ExaminedDriver → DriverSnapshot → DevId → ProbeSetting → Bool
leaves_set E s d which = is_set which s.snapshot.world.views.devices d && is_at_rest E s && is_undone E s

abbrev pub is_seen : ExaminedDriver → DriverSnapshot → DriverSight → Bool
is_seen E s (sight.Answers c k code) = has_answered s c k code
is_seen E s (sight.FailsUnread c k) = has_failed_call s c k
is_seen E s (sight.PutsNone c k d) = is_refused_put s c k d
is_seen E s (sight.MeetsOff c k d) = is_off E.rules.now.plan.now s c k d
is_seen E s (sight.Hangs c k) = hangs E s c k
is_seen E s (sight.LeftOn d) = leaves_on E s d
is_seen E s (sight.Leaks d kept) = leaks E s d kept
is_seen E s (sight.LeftSet d which) = leaves_set E s d which
