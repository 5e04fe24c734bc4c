-- What keeps a device from suspending after a list of lines (this project's own; the rules: runtime_pm.rst, sections 2 to
-- 5). Lists of lines have the newest line first; lines are counted from 1.
use Rattle.std.specs.Prelude.{ℕ, ◌+◌, Bool, true, false, not, ◌&&◌, ◌||◌, List, [], ◌∷◌, ◌++◌, Option, Some, None, pos, length, map, nat_eq, if◌then◌else◌}
use Rattle.std.specs.List.{enumerate_from, filter}
use Rattle.std.specs.Option.{option_map_or}
use Rattle.std.specs.Ordering.{int_eq}
use Rattle.pm_base.specs.declared.Cb.TheVariants as cb
use Rattle.pm_base.specs.declared.DevId.{DevId}
use Rattle.pm_model.specs.declared.event.Event.{Event}
use Rattle.pm_model.specs.declared.event.Event.TheVariants as event
use Rattle.pm_model.specs.declared.event.Word.TheVariants as word
use Rattle.pm_model.specs.declared.plan.Plan.{Plan}
use Rattle.pm_model.specs.Counted.{only_if, says_error}
use Rattle.pm_model.specs.Derived.{asks_resume, has_error, is_active, is_disabled, is_suspending}
use Rattle.pm_model.specs.History.{History, last_said}
use Rattle.pm_model.specs.PlanRows.{no_callbacks, parent}
use Rattle.pm_model.specs.Row.{Row, writes, waits}
use Rattle.pm_model.specs.Views.{Views, device, pending_of}
use Rattle.pm_model.specs.World.{world}
use Rattle.pm_why.specs.declared.Reason.{Reason}
use Rattle.pm_why.specs.declared.Reason.TheVariants as reason
use Rattle.pm_why.specs.OpenGets.{open_gets}

-- whether an event stores an error of d: the end of a callback with such a code
abbrev pub stores_error : DevId → Event → Bool
stores_error d e = option_map_or (λ code. not (int_eq code (pos 0))) (says_error d e) false

-- the number of the last line that stored an error of d, or 0
abbrev pub error_line : History → DevId → ℕ
error_line h d = last_said (λ g line. only_if (stores_error d line.event) (length g + 1)) 0 h

-- whether a device is a child of d that is Active or Suspending
abbrev pub is_child : Plan → Views → DevId → DevId → Bool
is_child plan v d child =
    option_map_or (λ p. nat_eq p.0 d.0) (parent plan child) false && (is_active v child || is_suspending v child)

-- the devices of the plan, in its order
abbrev pub devices_of : Plan → List DevId
devices_of plan = map (λ p. record { 0 = p.0 }) (enumerate_from 0 plan.devices)

-- the children of d that are Active or Suspending, in the plan's order
abbrev pub counted_children : Plan → Views → DevId → List DevId
counted_children plan v d = filter (is_child plan v d) (devices_of plan)

-- a reason where it holds
abbrev pub when : Bool → Reason → List Reason
when holds r = if holds then r ∷ [] else []

-- the open gets, in the order of their lines
abbrev pub count_reasons : History → DevId → List Reason
count_reasons h d = map (λ count. reason.Count count.why count.line) (open_gets h d)

-- the children that count, unless d ignores them
abbrev pub child_reasons : Plan → Views → DevId → List Reason
child_reasons plan v d = if (device v d).ignores then [] else map reason.Child (counted_children plan v d)

-- all that keeps d from suspending, on the views after these lines
abbrev pub reasons_on : Plan → Views → History → DevId → List Reason
reasons_on plan v h d =
    when (has_error v d) (reason.Error (device v d).error (error_line h d))
    ++ when (is_disabled v d) (reason.Depth (device v d).depth)
    ++ count_reasons h d
    ++ child_reasons plan v d
    ++ when (is_suspending v d && (pending_of v d).deferred) reason.Deferred
    ++ when (asks_resume v d) reason.Request
    ++ when (not (is_active v d)) (reason.State (device v d).status)

abbrev pub reasons : Plan → History → DevId → List Reason
reasons plan h d = reasons_on plan (world plan h).views h d

abbrev pub is_count : Reason → Bool
is_count (reason.Count w line) = true
is_count _ = false

-- the event of the line that a row of the call table writes
abbrev pub line_of : Row → Option Event
line_of (writes e change next) = Some e
line_of (waits d) = None

-- with which line a suspend of d begins: its callback's begin, or where it has none the line that says it suspended
abbrev pub suspend_line : Plan → DevId → Event
suspend_line plan d = if no_callbacks plan d then event.State d word.Suspended else event.Begin d cb.Suspend
