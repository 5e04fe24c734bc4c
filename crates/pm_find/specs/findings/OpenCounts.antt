-- The counts of callers that are open after a list of lines (this project's own). Lists of lines have the newest line
-- first, lists of counts the newest count; lines are counted from 1.
use Rattle.std.specs.Prelude.{ℕ, ◌+◌, Bool, true, false, not, ◌&&◌, ◌||◌, List, [], ◌∷◌, Option, None, length, map, nat_eq, nat_le, position, remove, slice_get, unwrap_or, if◌then◌else◌}
use Rattle.std.specs.Option.{option_and_then, option_map_or}
use Rattle.pm_base.specs.declared.ActorId.{ActorId}
use Rattle.pm_base.specs.declared.DevId.{DevId}
use Rattle.pm_base.specs.declared.Why.TheVariants as why
use Rattle.pm_model.specs.declared.event.Event.{Event}
use Rattle.pm_model.specs.declared.event.Event.TheVariants as event
use Rattle.pm_model.specs.Counted.{is_same, only_if}
use Rattle.pm_model.specs.History.{History}
use Rattle.pm_model.specs.Promises.{is_actor}
use Rattle.pm_find.specs.declared.findings.watched.Called.{Called}
use Rattle.pm_find.specs.declared.findings.watched.Count.{Count}
use Rattle.pm_find.specs.findings.Codes.{is_error}
use Rattle.pm_find.specs.findings.Said.{call_by, has_asked}

-- the device that a line is about
abbrev pub device_of : Event → DevId
device_of (event.Call command) = command.dev
device_of (event.Ret helper d code) = d
device_of (event.Get d w) = d
device_of (event.Put d w) = d
device_of (event.Usage d fields) = d
device_of (event.Idle d fields) = d
device_of (event.Suspend d fields) = d
device_of (event.Resume d fields) = d
device_of (event.Return func d code) = d
device_of (event.Wait d) = d
device_of (event.State d word) = d
device_of (event.Begin d cb) = d
device_of (event.End d cb code) = d
device_of (event.Domain d up count) = d
device_of (event.Work d act) = d
device_of (event.Timer d act) = d

-- whether this actor took a count
abbrev pub is_of : ActorId → Count → Bool
is_of actor count = is_actor actor count.actor

-- where the count stands that a put by this actor takes away: its own latest, and where it has none the latest of all
abbrev pub taken_place : ActorId → List Count → ℕ
taken_place actor counts = unwrap_or (position (is_of actor) counts) 0

abbrev pub taken : ActorId → List Count → Option Count
taken actor counts = slice_get counts (taken_place actor counts)

-- a call of this actor on the device has answered an error since the count was taken, if it is the actor's
abbrev pub with_error : ActorId → Count → Count
with_error actor count = if is_of actor count then record count { failed = true } else count

-- this actor has taken another count of the device since, if the count is the actor's
abbrev pub with_another : ActorId → Count → Count
with_another actor count = if is_of actor count then record count { again = true } else count

-- the count that a get of this actor takes in this line, in this call
abbrev pub new_count : ActorId → ℕ → Option Called → Count
new_count actor line called = record { actor = actor; line = line; asks = has_asked called; failed = false; again = false }

-- what an event of a line by this actor, in this call, makes of the open counts of its device
abbrev pub counts_after : ActorId → ℕ → Option Called → Event → List Count → List Count
counts_after actor line called (event.Get d why.Caller) counts = new_count actor line called ∷ map (with_another actor) counts
counts_after actor line called (event.Put d why.Caller) counts = remove counts (taken_place actor counts)
counts_after actor line called (event.Ret h d code) counts = if is_error code then map (with_error actor) counts else counts
counts_after actor line called _ counts = counts

-- the open counts of d after these lines
abbrev pub open_counts : History → DevId → List Count
open_counts [] d = []
open_counts (line ∷ h) d =
    if is_same d (device_of line.event)
    then counts_after line.actor (length h + 1) (call_by h line.actor) line.event (open_counts h d)
    else open_counts h d

-- the line in which the last delay of the caller of a call ended, or 0
abbrev pub used_line : Option Called → ℕ
used_line called = option_map_or (λ call. call.recent.used) called 0

-- An event by this actor, behind this call, gives back the actor's own count: the line in which that was taken, where the actor has taken no other
-- count of the device since, nor gone by a delay, in which a driver uses its devices.
abbrev pub gives : List Count → Option Called → ActorId → Event → Option ℕ
gives counts called actor (event.Put d why.Caller) =
    option_and_then (λ count. only_if (is_of actor count && not count.again && nat_le (used_line called) count.line) count.line) (taken actor counts)
gives counts called actor _ = None

-- one of these lines gives back so the count that was taken in line m, before it
abbrev pub is_given : History → ℕ → Bool
is_given [] m = false
is_given (line ∷ h) m =
    (nat_le m (length h) && option_map_or (nat_eq m) (gives (open_counts h (device_of line.event)) (call_by h line.actor) line.actor line.event) false) || is_given h m
