-- What is left on at the end of a run: devices (this project's own). Lists of lines have the newest line first.
use Rattle.std.specs.Prelude.{ℕ, ◌≡◌, ◌<◌, Bool, true, false, not, ◌&&◌, ◌||◌, List, ◌∷◌, Option, Some, None, pos, int_lt, is_some, length, nat_eq, nat_lt, option_map, slice_get, slice_index_or, slice_set, if◌then◌else◌}
use Rattle.std.specs.List.{find, range_with_len}
use Rattle.std.specs.Option.{option_and_then, option_map_or}
use Rattle.pm_base.specs.declared.DevId.{DevId}
use Rattle.pm_base.specs.declared.Req.{Req}
use Rattle.pm_base.specs.declared.Req.TheVariants as req
use Rattle.pm_model.specs.declared.plan.Plan.{Plan}
use Rattle.pm_model.specs.Counted.{is_same, only_if}
use Rattle.pm_model.specs.Derived.{is_active, is_disabled, is_in_use}
use Rattle.pm_model.specs.History.{History, last_said}
use Rattle.pm_model.specs.PlanRows.{parent}
use Rattle.pm_model.specs.Views.{Views, device, is_held, pending_of, timer}
use Rattle.pm_model.specs.World.{world}
use Rattle.pm_find.specs.declared.findings.ending.Holder.{Holder}
use Rattle.pm_find.specs.declared.findings.ending.Holder.TheVariants as holder
use Rattle.pm_find.specs.declared.findings.Kind.{Kind}
use Rattle.pm_find.specs.declared.findings.Kind.TheVariants as kind
use Rattle.pm_find.specs.declared.findings.watched.Count.{Count}
use Rattle.pm_find.specs.findings.OpenCounts.{device_of, open_counts}

abbrev pub is_suspend_request : Req → Bool
is_suspend_request req.Suspend = true
is_suspend_request req.Autosuspend = true
is_suspend_request _ = false

-- a suspend or an autosuspend of a device that nobody uses is still to come: it is requested, or the timer is armed
abbrev pub awaits_suspend : Views → DevId → Bool
awaits_suspend v d = not (is_in_use v d) && (is_some (timer v d) || is_suspend_request (pending_of v d).request)

-- the last line of d that disabled it, which was enabled, dropped a suspend that was still to come
abbrev pub dropped : Plan → History → DevId → Bool
dropped plan h d =
    last_said
    (λ g line. only_if (is_same d (device_of line.event) && not (is_disabled (world plan g).views d) && is_disabled (world plan (line ∷ g)).views d) (awaits_suspend (world plan g).views d))
    false h

-- what a line that disables d, where it stands so, drops: nothing is dropped where it is disabled already, or no device of the plan
abbrev pub may_drop : ℕ → Views → DevId → Option Bool
may_drop devices v d = if nat_lt d.0 devices then only_if (not (is_disabled v d)) (awaits_suspend v d) else None

-- what is noted of d where it is disabled after such a line, or isn't
abbrev pub drops_after : Option Bool → Bool → DevId → List Bool → List Bool
drops_after (Some awaits) true d drops = slice_set drops d.0 awaits
drops_after may is_off d drops = drops

-- of each device of the plan whether the last line that disabled it dropped a suspend
pub record AreDropped (plan : Plan) (h : History) (drops : List Bool) : Type 0 where
  pub entries : length drops ≡ length plan.devices
  pub each : (d : DevId) → d.0 < length plan.devices → slice_index_or drops d.0 false ≡ dropped plan h d

-- the link at a place, where it holds its supplier d
abbrev pub holds_supplier : Plan → Views → DevId → ℕ → Bool
holds_supplier plan v d l = option_map_or (λ row. is_same d row.supplier && is_held v l) (slice_get plan.links l) false

-- the first consumer, in the order of the links, that holds its supplier d
abbrev pub holding_consumer : Plan → Views → DevId → Option DevId
holding_consumer plan v d =
    option_and_then (λ l. option_map (λ row. row.consumer) (slice_get plan.links l)) (find (holds_supplier plan v d) (range_with_len 0 (length plan.links)))

-- the device at a place is an Active child of d
abbrev pub is_active_child : Plan → Views → DevId → ℕ → Bool
is_active_child plan v d c = option_map_or (is_same d) (parent plan (record { 0 = c })) false && is_active v (record { 0 = c })

-- the first such child, where d doesn't ignore its children
abbrev pub active_child : Plan → Views → DevId → Option DevId
active_child plan v d =
    if (device v d).ignores then None else option_map (λ c. record { 0 = c }) (find (is_active_child plan v d) (range_with_len 0 (length plan.devices)))

-- the first consumer that holds d, or else the first child that is on
abbrev pub holding_device : Plan → Views → DevId → Holder
holding_device plan v d = option_map_or holder.Consumer (holding_consumer plan v d) (option_map_or holder.Child (active_child plan v d) holder.Nobody)

-- what holds a device that no caller holds: forbid, a negative autosuspend delay, the first consumer that holds it, or the first child that is on
abbrev pub holder_of : Plan → Views → DevId → Holder
holder_of plan v d =
    if not (device v d).auto_on then holder.Forbid
    else if (device v d).use_auto && int_lt (device v d).delay (pos 0) then holder.Delay
    else holding_device plan v d

-- left on: d is Active and no caller has a count on it, and it is enabled; or it is disabled, and that dropped a suspend that was still to come.
-- Else a disabled device is its driver's own affair.
abbrev pub is_left_active : Views → List Count → Bool → DevId → Bool
is_left_active v counts has_dropped d = is_active v d && nat_eq (length counts) 0 && (not (is_disabled v d) || has_dropped)

abbrev pub left_on : Plan → Views → List Count → Bool → DevId → Option Kind
left_on plan v counts has_dropped d = only_if (is_left_active v counts has_dropped d) (kind.LeftOn d (holder_of plan v d))

-- after these lines
abbrev pub on_after : Plan → History → DevId → Option Kind
on_after plan run d = left_on plan (world plan run).views (open_counts run d) (dropped plan run d) d
