-- What a picture of a run shows, line by line (this project's own): what the line itself tells, and what is otherwise
-- behind it than before it of the line's device, of domains and links, and of its actor. Lists of lines have the newest
-- line first; lines are counted from 1.
use Rattle.std.specs.Prelude.{ℕ, ◌+◌, Bool, true, false, not, List, [], ◌∷◌, ◌++◌, Option, Some, None, length, map, nat_eq, nat_lt, option_map, if◌then◌else◌}
use Rattle.std.specs.List.{flat_map}
use Rattle.std.specs.Option.{option_to_list}
use Rattle.pm_base.specs.declared.ActorId.{ActorId}
use Rattle.pm_base.specs.declared.ActorId.TheVariants.{Caller, Work, Timer}
use Rattle.pm_base.specs.declared.DevId.{DevId}
use Rattle.pm_base.specs.declared.Status.{Status}
use Rattle.pm_base.specs.declared.Status.TheVariants as status
use Rattle.pm_base.specs.declared.Why.TheVariants as why
use Rattle.pm_model.specs.declared.event.Event.{Event}
use Rattle.pm_model.specs.declared.event.Event.TheVariants as event
use Rattle.pm_model.specs.declared.event.Line.{Line}
use Rattle.pm_model.specs.declared.event.Word.TheVariants as word
use Rattle.pm_model.specs.declared.plan.Plan.{Plan}
use Rattle.pm_model.specs.declared.rows.LinkRow.{LinkRow}
use Rattle.pm_model.specs.declared.stage.Stage.{Stage}
use Rattle.pm_model.specs.Counted.{only_if}
use Rattle.pm_model.specs.Derived.{down, up}
use Rattle.pm_model.specs.History.{History}
use Rattle.pm_model.specs.Views.{Views, device, pending_of, timer}
use Rattle.pm_model.specs.World.{World, place, world}
use Rattle.pm_lanes.specs.declared.seen.Seen.{Seen}
use Rattle.pm_lanes.specs.declared.shown.Piece.{Piece}
use Rattle.pm_lanes.specs.declared.shown.Shown.{Shown}
use Rattle.pm_lanes.specs.declared.shown.Shown.TheVariants as shown

-- the device that a line is about
abbrev pub device_of : Event → DevId
device_of (event.Call command) = command.dev
device_of (event.Ret helper d code) = d
device_of (event.Get d w) = d
device_of (event.Put d w) = d
device_of (event.Usage d fields) = d
device_of (event.Idle d fields) = d
device_of (event.Suspend d fields) = d
device_of (event.Resume d fields) = d
device_of (event.Return func d code) = d
device_of (event.Wait d) = d
device_of (event.State d word) = d
device_of (event.Begin d cb) = d
device_of (event.End d cb code) = d
device_of (event.Domain d up count) = d
device_of (event.Work d act) = d
device_of (event.Timer d act) = d

-- what is seen of a device
abbrev pub seen : Views → DevId → Seen
seen v d = record {
  status = (device v d).status;
  usage = (device v d).usage;
  disabled = not (nat_eq (device v d).depth 0);
  queued = (pending_of v d).queued;
  deadline = option_map (λ armed. armed.deadline) (timer v d);
}

abbrev pub is_status : Status → Status → Bool
is_status status.Active status.Active = true
is_status status.Suspended status.Suspended = true
is_status status.Suspending status.Suspending = true
is_status status.Resuming status.Resuming = true
is_status _ _ = false

abbrev pub is_bit : Bool → Bool → Bool
is_bit a b = if a then b else not b

abbrev pub is_moment : Option ℕ → Option ℕ → Bool
is_moment (Some a) (Some b) = nat_eq a b
is_moment None None = true
is_moment _ _ = false

-- what is otherwise of a device than it was
abbrev pub turned : DevId → Seen → Seen → List Shown
turned d before after =
    option_to_list (only_if (not (is_status before.status after.status)) (shown.Stands d after.status))
    ++ option_to_list (only_if (not (nat_eq before.usage after.usage)) (shown.Used d after.usage))
    ++ option_to_list (only_if (not (is_bit before.disabled after.disabled)) (shown.Disabled d after.disabled))
    ++ option_to_list (only_if (not (is_bit before.queued after.queued)) (shown.Queued d after.queued))
    ++ option_to_list (only_if (not (is_moment before.deadline after.deadline)) (shown.Armed d after.deadline))

-- what is otherwise of a line's device behind the line, where it is a device of the plan
abbrev pub seen_of_plan : Plan → Views → DevId → Option Seen
seen_of_plan plan v d = only_if (nat_lt d.0 (length plan.devices)) (seen v d)

abbrev pub turned_since : DevId → Option Seen → Option Seen → List Shown
turned_since d (Some before) (Some after) = turned d before after
turned_since d _ _ = []

-- a call and its return, of a caller
abbrev pub of_caller : ActorId → (ℕ → Shown) → Option Shown
of_caller (Caller c) f = Some (f c)
of_caller (Work d) f = None
of_caller (Timer d) f = None

-- what a line tells of itself: a call and its return, a wait, a callback's begin and end, a link that is taken or given back
abbrev pub told : ActorId → Event → Option Shown
told actor (event.Call command) = of_caller actor (λ c. shown.Called c command)
told actor (event.Ret h d code) = of_caller actor (λ c. shown.Returned c code)
told actor (event.Wait d) = Some (shown.Waits actor d)
told actor (event.Begin d cb) = Some (shown.Begun d cb)
told actor (event.End d cb code) = Some (shown.Ended d cb code)
told actor (event.Get s (why.Link c)) = Some (shown.Held c s true)
told actor (event.Put s (why.Link c)) = Some (shown.Held c s false)
told actor _ = None

-- a domain that goes on, and one that goes off
abbrev pub going_on : ℕ → Shown
going_on o = shown.Switched (record { 0 = o }) true

abbrev pub going_off_now : ℕ → Shown
going_off_now o = shown.Switched (record { 0 = o }) false

-- the domains that a line switches, on these views
abbrev pub switched : Plan → Views → Event → List Shown
switched plan v (event.Domain d is_up n) =
    if is_up then map going_on (up plan v d) else map going_off_now (down plan v d)
switched plan v _ = []

-- what a forced suspend of a consumer gives back of one link, and the usage of its supplier behind that
abbrev pub freed_link : Views → DevId → LinkRow → List Shown
freed_link after c row =
    if nat_eq row.consumer.0 c.0 then shown.Held c row.supplier false ∷ shown.Used row.supplier (device after row.supplier).usage ∷ [] else []

-- and of all
abbrev pub freed : Plan → Views → Event → List Shown
freed plan after (event.State c word.ForcedSuspended) = flat_map (freed_link after c) plan.links
freed plan after _ = []

abbrev pub is_open : List Stage → Bool
is_open [] = false
is_open (s ∷ rest) = true

-- a work item or a timer begins to run, or has ended
abbrev pub runs : ActorId → Bool → Bool → Option Shown
runs (Caller c) before after = None
runs (Work d) before after = only_if (not (is_bit before after)) (shown.Runs (Work d) after)
runs (Timer d) before after = only_if (not (is_bit before after)) (shown.Runs (Timer d) after)

-- what a line tells, and which domains it switches
abbrev pub shown_before : Plan → World → Line → List Shown
shown_before plan before line = option_to_list (told line.actor line.event) ++ switched plan before.views line.event

-- what is otherwise behind a line of which device this was seen before it, and whether its actor had a stage open
abbrev pub shown_behind : Plan → Line → Option Seen → Bool → World → List Shown
shown_behind plan line seen was_open after =
    turned_since (device_of line.event) seen (seen_of_plan plan after.views (device_of line.event))
    ++ freed plan after.views line.event
    ++ option_to_list (runs line.actor was_open (is_open (place after line.actor)))

-- what is shown from a line on, by where the run stands before and behind it
abbrev pub shown_by : Plan → World → Line → World → List Shown
shown_by plan before line after =
    shown_before plan before line
    ++ shown_behind plan line (seen_of_plan plan before.views (device_of line.event)) (is_open (place before line.actor)) after

abbrev pub at_line : ℕ → List Shown → List Piece
at_line number all = map (λ s. record { line = number; shown = s }) all

-- all that is shown of a run of a plan, line by line
abbrev pub pieces : Plan → History → List Piece
pieces plan [] = []
pieces plan (line ∷ h) = pieces plan h ++ at_line (length h + 1) (shown_by plan (world plan h) line (world plan (line ∷ h)))
