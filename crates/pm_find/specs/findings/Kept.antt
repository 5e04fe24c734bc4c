-- What is kept of a device, and of the calls, while lines are read.
use Rattle.std.specs.Prelude.{ℕ, ◌≡◌, ◌<◌, Bool, false, not, ◌&&◌, List, [], Option, Some, None, ℤ, pos, length, slice_index_or, unwrap_or, if◌then◌else◌}
use Rattle.std.specs.Option.{option_map_or}
use Rattle.std.specs.Ordering.{int_eq}
use Rattle.pm_base.specs.declared.ActorId.{ActorId}
use Rattle.pm_base.specs.declared.Cb.TheVariants as cb
use Rattle.pm_base.specs.declared.DevId.{DevId}
use Rattle.pm_base.specs.declared.Status.{Status}
use Rattle.pm_base.specs.declared.Status.TheVariants as status
use Rattle.pm_model.specs.declared.event.Event.{Event}
use Rattle.pm_model.specs.declared.event.Event.TheVariants as event
use Rattle.pm_model.specs.Counted.{is_forced, status_of, word_status}
use Rattle.pm_model.specs.Derived.{is_active_status}
use Rattle.pm_model.specs.Events.{is_try_again}
use Rattle.pm_model.specs.History.{History}
use Rattle.pm_find.specs.declared.findings.watched.Called.{Called}
use Rattle.pm_find.specs.declared.findings.watched.Count.{Count}
use Rattle.pm_find.specs.findings.OpenCounts.{counts_after, open_counts}
use Rattle.pm_find.specs.findings.Said.{call_of, error_line, failed_line, left_line}

pub record Known : Type 0 where
  pub counts : List Count
  pub status : Status
  pub error : ℕ
  pub failed : ℕ
  pub left : ℕ

abbrev pub unknown : Known
unknown = record { counts = []; status = status.Suspended; error = 0; failed = 0; left = 0 }

-- what these lines tell of d
abbrev pub known : History → DevId → Known
known h d = record { counts = open_counts h d; status = status_of h d; error = error_line h d; failed = failed_line h d; left = left_line h d }

-- the status that an event says of its device, and the error
abbrev pub status_in : Event → Option Status
status_in (event.State d w) = Some (word_status w)
status_in (event.Begin d cb.Suspend) = Some status.Suspending
status_in (event.End d cb.Suspend code) = if int_eq code (pos 0) then None else Some status.Active
status_in _ = None

abbrev pub error_in : Event → Option ℤ
error_in (event.End d cb.Resume code) = if int_eq code (pos 0) then None else Some code
error_in (event.End d cb.Suspend code) = if int_eq code (pos 0) then None else if is_try_again code then None else Some code
error_in (event.State d w) = if is_forced w then Some (pos 0) else None
error_in _ = None

abbrev pub status_after : Event → Status → Status
status_after e before = unwrap_or (status_in e) before

-- the line that stored the error behind a line of this number
abbrev pub error_after : ℕ → Event → ℕ → ℕ
error_after number e before = option_map_or (λ code. if int_eq code (pos 0) then 0 else number) (error_in e) before

-- a callback that an event ends has failed
abbrev pub ends_failed : Event → Bool
ends_failed (event.End d cb code) = not (int_eq code (pos 0))
ends_failed _ = false

-- the last line in which a callback failed
abbrev pub failed_after : ℕ → Event → ℕ → ℕ
failed_after number e before = if ends_failed e then number else before

-- the last line after which the device was Active no more
abbrev pub left_after : ℕ → Event → Status → ℕ → ℕ
left_after number e status before = if is_active_status status && not (is_active_status (status_after e status)) then number else before

-- what a line of a device, by this actor in this call, makes of what is known of it
abbrev pub known_after : ActorId → ℕ → Option Called → Event → Known → Known
known_after actor number called e x = record {
  counts = counts_after actor number called e x.counts;
  status = status_after e x.status;
  error = error_after number e x.error;
  failed = failed_after number e x.failed;
  left = left_after number e x.status x.left;
}

abbrev pub row_at : List Known → DevId → Known
row_at rows d = slice_index_or rows d.0 unknown

-- a row for each of so many devices, of what these lines tell of it
pub record AreKnown (devices : ℕ) (h : History) (rows : List Known) : Type 0 where
  pub entries : length rows ≡ devices
  pub each : (d : DevId) → d.0 < devices → row_at rows d ≡ known h d

-- the last call of each of so many callers
pub record AreCalled (callers : ℕ) (h : History) (calls : List (Option Called)) : Type 0 where
  pub entries : length calls ≡ callers
  pub each : (c : ℕ) → c < callers → slice_index_or calls c None ≡ call_of h c
