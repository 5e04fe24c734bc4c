-- What stands out at a line (this project's own). Each kind is told of the lines before it: the open counts of the line's
-- device, the newest first, its status, and the last call of the line's actor.
use Rattle.std.specs.Prelude.{ℕ, Bool, true, false, not, ◌&&◌, ◌||◌, List, Option, None, ℤ, pos, ◌-◌, int_lt, is_some, nat_abs, nat_eq, nat_le, nat_lt, option_map, position, slice_get, if◌then◌else◌}
use Rattle.std.specs.List.{list_any}
use Rattle.std.specs.Option.{option_and_then, option_map_or}
use Rattle.std.specs.Ordering.{int_eq}
use Rattle.pm_base.specs.declared.ActorId.{ActorId}
use Rattle.pm_base.specs.declared.DevId.{DevId}
use Rattle.pm_base.specs.declared.Status.{Status}
use Rattle.pm_base.specs.declared.Why.TheVariants as why
use Rattle.pm_base.specs.declared.codes.TheConstants.{EINVAL}
use Rattle.pm_model.specs.declared.event.Event.{Event}
use Rattle.pm_model.specs.declared.event.Event.TheVariants as event
use Rattle.pm_model.specs.declared.event.Helper.{Helper}
use Rattle.pm_model.specs.declared.event.Helper.TheVariants as helper
use Rattle.pm_model.specs.Counted.{is_same, only_if}
use Rattle.pm_model.specs.Derived.{is_active_status}
use Rattle.pm_model.specs.declared.views.Device.{Device}
use Rattle.pm_find.specs.declared.findings.ending.Holder.{Holder}
use Rattle.pm_find.specs.declared.findings.ending.Holder.TheVariants as holder
use Rattle.pm_find.specs.declared.findings.Kind.{Kind}
use Rattle.pm_find.specs.declared.findings.Kind.TheVariants as kind
use Rattle.pm_find.specs.declared.findings.Weight.{Weight}
use Rattle.pm_find.specs.declared.findings.Weight.TheVariants as weight
use Rattle.pm_find.specs.declared.findings.watched.Called.{Called}
use Rattle.pm_find.specs.declared.findings.watched.Count.{Count}
use Rattle.pm_find.specs.declared.findings.watched.Recent.{Recent}
use Rattle.pm_find.specs.findings.Codes.{asks_again, is_error}
use Rattle.pm_find.specs.findings.OpenCounts.{is_of, taken}

-- leak: a get of a caller whose count is among those that are open at the end of a finished run
abbrev pub leak : List Count → ℕ → Option Called → ActorId → Event → Option Kind
leak left number called actor (event.Get d why.Caller) =
    only_if (list_any (λ count. nat_eq count.line number) left) (kind.Leak actor d (option_map (λ call. call.helper) called))
leak left number called actor _ = None

-- stolen: a put of a caller that takes away a count of another one
abbrev pub stolen : List Count → ActorId → Event → Option Kind
stolen counts actor (event.Put d why.Caller) =
    option_and_then (λ count. only_if (not (is_of actor count)) (kind.Stolen actor d count.actor count.line)) (taken actor counts)
stolen counts actor _ = None

-- whether this call has put a count
abbrev pub has_put : Option Called → Bool
has_put called = option_map_or (λ call. call.has_put) called false

-- the count that this actor took since its last call, where it is open
abbrev pub kept : List Count → Option Called → ActorId → Option Count
kept counts called actor =
    option_and_then (λ call. option_and_then (slice_get counts) (position (λ count. is_of actor count && nat_lt call.line count.line) counts)) called

-- such a count is open
abbrev pub keeps_count : List Count → Option Called → ActorId → Bool
keeps_count counts called actor = is_some (kept counts called actor)

-- whether a stored error refuses this call: it asks for a suspend, a resume or an idle. A put asks for one once it has put its count
abbrev pub is_refusable : Helper → Option Called → Bool
is_refusable helper.GetSync called = true
is_refusable helper.Get called = true
is_refusable helper.Resume called = true
is_refusable helper.RequestResume called = true
is_refusable helper.Idle called = true
is_refusable helper.RequestIdle called = true
is_refusable helper.Suspend called = true
is_refusable helper.Autosuspend called = true
is_refusable helper.RequestAutosuspend called = true
is_refusable helper.ScheduleSuspend called = true
is_refusable helper.Put called = has_put called
is_refusable helper.PutSync called = has_put called
is_refusable helper.PutAutosuspend called = has_put called
is_refusable helper.PutSyncSuspend called = has_put called
is_refusable helper.PutSyncAutosuspend called = has_put called
is_refusable _ called = false

-- such a call answers EINVAL, where an error of its device is stored
abbrev pub is_poisoned : ℕ → Option Called → Helper → ℤ → Bool
is_poisoned error called h code = int_eq code EINVAL && nat_lt 0 error && is_refusable h called

-- poisoned: it names the line that stored the error
abbrev pub poisoned : ℕ → List Count → Option Called → ActorId → Event → Option Kind
poisoned error counts called actor (event.Ret h d code) =
    only_if (is_poisoned error called h code) (kind.Poisoned actor h d error (keeps_count counts called actor))
poisoned error counts called actor _ = None

-- the helpers that put a count of a caller
abbrev pub is_put : Helper → Bool
is_put helper.Put = true
is_put helper.PutSync = true
is_put helper.PutNoidle = true
is_put helper.PutAutosuspend = true
is_put helper.PutSyncSuspend = true
is_put helper.PutSyncAutosuspend = true
is_put _ = false

-- a put by this actor has no count to give back
abbrev pub is_refused_put : Option Called → Helper → Bool
is_refused_put called h = is_put h && not (has_put called)

-- A call's error is its driver's own affair where nobody reads it, as that of a put; or where a callback of the device failed since the call, and the
-- call keeps no count, or one that its caller gives back before it takes another.
abbrev pub is_settled : ℕ → List Count → (ℕ → Bool) → Option Called → ActorId → Helper → Bool
is_settled failed counts given called actor h =
    is_put h || (option_map_or (λ call. nat_lt call.line failed) called false && option_map_or (λ count. given count.line) (kept counts called actor) true)

-- answer: a call answers another error than that
abbrev pub answer : ℕ → ℕ → List Count → (ℕ → Bool) → Option Called → ActorId → Event → Option Kind
answer error failed counts given called actor (event.Ret h d code) =
    only_if (is_error code && not (is_poisoned error called h code) && not (is_refused_put called h))
    (kind.Answer actor h d code (keeps_count counts called actor) (is_settled failed counts given called actor h))
answer error failed counts given called actor _ = None

-- the last get of this call's caller that takes a count only of a device that is on answered an error of d
abbrev pub is_denied_of : DevId → Option Called → Bool
is_denied_of d called = option_map_or (λ call. option_map_or (is_same d) call.recent.denied false) called false

-- refused put: a put of a caller has no count to give back; and whether it only follows a get that took none, whose error wasn't read
abbrev pub refused_put : Option Called → ActorId → Event → Option Kind
refused_put called actor (event.Ret h d code) = only_if (is_refused_put called h) (kind.RefusedPut actor h d code (is_denied_of d called))
refused_put called actor _ = None

-- the helpers that force a status
abbrev pub forces_status : Helper → Bool
forces_status helper.SetActive = true
forces_status helper.SetSuspended = true
forces_status _ = false

-- refused: a call asks to try again
abbrev pub refused : ActorId → Event → Option Kind
refused actor (event.Ret h d code) = only_if (asks_again code && not (forces_status h)) (kind.Refused actor h d code)
refused actor _ = None

-- refused status: a call that forces a status asks to try again
abbrev pub refused_status : ActorId → Event → Option Kind
refused_status actor (event.Ret h d code) = only_if (asks_again code && forces_status h) (kind.RefusedStatus actor h d code)
refused_status actor _ = None

-- the helpers that take a count only where the device is Active
abbrev pub gets_if_on : Helper → Bool
gets_if_on helper.GetIfActive = true
gets_if_on helper.GetIfInUse = true
gets_if_on _ = false

-- no count: such a helper answers 0
abbrev pub no_count : ActorId → Event → Option Kind
no_count actor (event.Ret h d code) = only_if (gets_if_on h && int_eq code (pos 0)) (kind.NoCount actor h d)
no_count actor _ = None

-- never on: a put of a caller, of a count whose get asked for a resume, where the device isn't Active and was Active after no line since
-- the get, and no call of the count's caller on the device answered an error since
abbrev pub never_on : List Count → Status → ℕ → ActorId → Event → Option Kind
never_on counts status left actor (event.Put d why.Caller) =
    option_and_then
    (λ count. only_if (count.asks && not (is_active_status status) && nat_le left count.line && not count.failed) (kind.NeverOn actor d count.line))
    (taken actor counts)
never_on counts status left actor _ = None

-- the helpers that put a count and ask for an autosuspend
abbrev pub puts_for_autosuspend : Helper → Bool
puts_for_autosuspend helper.PutAutosuspend = true
puts_for_autosuspend helper.PutSyncAutosuspend = true
puts_for_autosuspend _ = false

-- a put of its last count lets the device, which is Active and enabled, suspend once its delay has passed, and the delay counts from
-- an earlier moment: from when the device was last marked as busy (runtime_pm.rst, section 9)
abbrev pub is_unmarked : Device → ℕ → Bool
is_unmarked x time = is_active_status x.status && nat_eq x.depth 0 && nat_eq x.usage 1 && x.use_auto && int_lt (pos 0) x.delay && nat_lt x.last_busy time

-- a delay of the count's caller, in which a driver uses its devices, ended since the count was taken and since the device was last marked
abbrev pub is_used : Device → Recent → Count → Bool
is_used x recent count = nat_lt count.line recent.used && nat_lt x.last_busy recent.until

-- unmarked: such a put, by a helper that asks for an autosuspend, of a count under which the device was used since it was marked; it says how long
-- before the put that was, and its delay
abbrev pub unmarked : Device → List Count → Option Called → ℕ → ActorId → Event → Option Kind
unmarked x counts called time actor (event.Put d why.Caller) =
    option_and_then (λ call. option_and_then
    (λ count. only_if (puts_for_autosuspend call.helper && is_unmarked x time && is_used x call.recent count)
    (kind.Unmarked actor call.helper d (time - x.last_busy) (nat_abs x.delay))) (taken actor counts)) called
unmarked x counts called time actor _ = None

-- failed: a callback ends with another code than 0
abbrev pub failed : Event → Option Kind
failed (event.End d cb code) = only_if (not (int_eq code (pos 0))) (kind.Failed d cb code)
failed _ = None

abbrev pub is_note : Weight → Bool
is_note weight.Error = false
is_note weight.Warning = false
is_note weight.Note = true

-- what only follows from something else that is told, or that is right, is a note
abbrev pub note_if : Bool → Weight → Weight
note_if follows heavier = if follows then weight.Note else heavier

-- a device that is held by a child or by a consumer, which is on, follows that one
abbrev pub is_follower : Holder → Bool
is_follower (holder.Child d) = true
is_follower (holder.Consumer d) = true
is_follower holder.Forbid = false
is_follower holder.Delay = false
is_follower holder.Nobody = false

abbrev pub weight_of : Kind → Weight
weight_of (kind.Leak actor d h) = weight.Error
weight_of (kind.Stolen actor d owner line) = weight.Warning
weight_of (kind.Answer actor h d code keeps settled) = note_if settled weight.Error
weight_of (kind.Refused actor h d code) = weight.Note
weight_of (kind.RefusedStatus actor h d code) = weight.Warning
weight_of (kind.RefusedPut actor h d code follows) = note_if follows weight.Error
weight_of (kind.NoCount actor h d) = weight.Note
weight_of (kind.LeftOn d by) = note_if (is_follower by) weight.Warning
weight_of (kind.NeverOn actor d line) = weight.Warning
weight_of (kind.Failed d cb code) = weight.Note
weight_of (kind.Poisoned actor h d line keeps) = weight.Note
weight_of (kind.Unmarked actor h d ms delay) = weight.Warning
weight_of (kind.DomainOn left) = weight.Warning
weight_of (kind.Off bond) = weight.Warning
