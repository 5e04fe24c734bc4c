-- When a caller of a driver may call (this project's own): the guard of its place holds, and where it begins, its needs hold and
-- no other has stopped it.
use Rattle.std.specs.Prelude.{ℕ, ◌-◌, ◌^◌, Bool, true, false, not, ◌&&◌, ◌||◌, List, Option, Some, None, length, nat_eq, nat_lt, option_map, slice_get, slice_index_or, if◌then◌else◌}
use Rattle.std.specs.Int.RustNames.{bit_and}
use Rattle.std.specs.List.{list_all}
use Rattle.std.specs.Option.{option_map_or}
use Rattle.pm_base.specs.declared.DevId.{DevId}
use Rattle.pm_base.specs.declared.Status.{Status}
use Rattle.pm_base.specs.declared.Status.TheVariants as status
use Rattle.pm_model.specs.declared.views.Device.{Device}
use Rattle.pm_model.specs.IsPlan.{each_at}
use Rattle.pm_model.specs.Views.{fresh_device}
use Rattle.pm_driver_orders.specs.declared.Position.{Position}
use Rattle.pm_driver_orders.specs.declared.Position.TheVariants.{At, In}
use Rattle.pm_driver_script.specs.declared.calls.Guard.{Guard}
use Rattle.pm_driver_script.specs.declared.calls.Guard.TheVariants as guard
use Rattle.pm_driver_script.specs.declared.goals.Goal.{Goal}
use Rattle.pm_driver_script.specs.declared.goals.Goal.TheVariants as goal
use Rattle.pm_driver_script.specs.declared.marks.Past.{Past}
use Rattle.pm_driver_script.specs.declared.places.Standing.{Standing}
use Rattle.pm_driver_script.specs.declared.program.Program.{Program}
use Rattle.pm_driver_script.specs.declared.program.ProgramPlace.{ProgramPlace}
use Rattle.pm_driver_rules.specs.declared.rules.BeginNeed.{BeginNeed}
use Rattle.pm_driver_rules.specs.declared.rules.CallerRules.{CallerRules}

abbrev pub number_of : Position → ℕ
number_of (At k) = k
number_of (In k) = k

-- the standing of a place, or of an end, which is counted on behind the places
abbrev pub standing_of : Program → ℕ → Option Standing
standing_of program k =
    if nat_lt k (length program.places) then option_map (λ place. place.standing) (slice_get program.places k) else slice_get program.ends (k - length program.places)

-- how far a caller has come
abbrev pub nothing_past : Past
nothing_past = record { marks = 0; locks = 0; stopped = 0 }

abbrev pub past_of : Program → Position → Past
past_of program p = option_map_or (λ s. s.past) (standing_of program (number_of p)) nothing_past

abbrev pub has_bit : ℕ → ℕ → Bool
has_bit bits n = nat_lt n 64 && not (nat_eq (bit_and bits (2 ^ n)) 0)

-- the goal is that at which each turn of the program begins
abbrev pub is_first : Goal → Goal → Bool
is_first (goal.At step part) (goal.At other other_part) = nat_eq step other && nat_eq part other_part
is_first _ _ = false

abbrev pub first_goal : Program → Option Goal
first_goal program = option_map (λ place. place.standing.goal) (slice_get program.places 0)

abbrev pub is_begin_of : Program → Standing → Bool
is_begin_of program s = option_map_or (λ first. is_first first s.goal) (first_goal program) false

-- a caller stands before a turn of its program
abbrev pub is_before : Program → ℕ → Bool
is_before program k = option_map_or (is_begin_of program) (standing_of program k) false

-- it runs: it is in a call, or between two of one turn
abbrev pub is_running : Program → Position → Bool
is_running program (In k) = true
is_running program (At k) = nat_lt k (length program.places) && not (is_before program k)

-- it has returned
abbrev pub is_returned : Goal → Bool
is_returned goal.Returned = true
is_returned _ = false

abbrev pub has_returned : Program → Position → Bool
has_returned program p = option_map_or (λ s. is_returned s.goal) (standing_of program (number_of p)) false

-- it holds a lock, or is in the call that takes it
abbrev pub is_lock : ℕ → Guard → Bool
is_lock lock (guard.Free other) = nat_eq other lock
is_lock lock _ = false

abbrev pub takes_lock : Program → ℕ → Position → Bool
takes_lock program lock (In k) = option_map_or (λ place. is_lock lock place.guard) (slice_get program.places k) false
takes_lock program lock (At k) = false

abbrev pub holds_lock : Program → ℕ → Position → Bool
holds_lock program lock p = has_bit (past_of program p).locks lock || takes_lock program lock p

-- the caller of a number is this one, or doesn't hold the lock
abbrev pub leaves_lock : List Position → ℕ → ℕ → ℕ → CallerRules → Bool
leaves_lock ps own lock n caller = nat_eq n own || not (option_map_or (holds_lock caller.program.now lock) (slice_get ps n) false)

-- the caller of a number isn't in a set, or doesn't run
abbrev pub leaves_run : List Position → ℕ → ℕ → CallerRules → Bool
leaves_run ps stopped n caller = not (has_bit stopped n && option_map_or (is_running caller.program.now) (slice_get ps n) false)

-- it hasn't stopped the caller of another number
abbrev pub leaves_begin : List Position → ℕ → ℕ → CallerRules → Bool
leaves_begin ps own n caller = not (has_bit (option_map_or (λ p. let past = past_of caller.program.now p in past.stopped) (slice_get ps n) 0) own)

-- what a caller needs of another before it begins: it has passed a mark, or has returned
abbrev pub need_at : Option ℕ → Program → Position → Bool
need_at (Some mark) program p = has_bit (past_of program p).marks mark
need_at None program p = has_returned program p

abbrev pub need_of : Option ℕ → CallerRules → Option Position → Bool
need_of mark caller p = option_map_or (need_at mark caller.program.now) p false

abbrev pub need_holds : List CallerRules → List Position → BeginNeed → Bool
need_holds callers ps need = option_map_or (λ caller. need_of need.mark caller (slice_get ps need.caller)) (slice_get callers need.caller) false

-- a device's status
abbrev pub is_active_status : Status → Bool
is_active_status status.Active = true
is_active_status _ = false

abbrev pub status_at : List Device → DevId → Status
status_at devices d = (slice_index_or devices d.0 fresh_device).status

abbrev pub depth_at : List Device → DevId → ℕ
depth_at devices d = (slice_index_or devices d.0 fresh_device).depth

abbrev pub is_same_flag : Bool → Bool → Bool
is_same_flag true b = b
is_same_flag false b = not b

-- the guard of a call of a caller that has come so far
abbrev pub guard_holds : List CallerRules → List Position → List Device → ℕ → Past → Guard → Bool
guard_holds callers ps devices own past guard.Open = true
guard_holds callers ps devices own past (guard.Free lock) = each_at (leaves_lock ps own lock) 0 callers
guard_holds callers ps devices own past guard.Stopped = each_at (leaves_run ps past.stopped) 0 callers
guard_holds callers ps devices own past (guard.Flag d set) = is_same_flag set (is_active_status (status_at devices d))

-- a caller may begin: all that it needs holds, and nobody has stopped it
abbrev pub may_begin : List CallerRules → List Position → ℕ → CallerRules → Bool
may_begin callers ps own caller = list_all (need_holds callers ps) caller.after.now && each_at (leaves_begin ps own) 0 callers

abbrev pub may_call_at : List CallerRules → List Position → List Device → ℕ → CallerRules → ℕ → ProgramPlace → Bool
may_call_at callers ps devices own caller k place =
    guard_holds callers ps devices own place.standing.past place.guard && (not (is_before caller.program.now k) || may_begin callers ps own caller)

abbrev pub may_call_from : List CallerRules → List Position → List Device → ℕ → CallerRules → Position → Bool
may_call_from callers ps devices own caller (At k) =
    option_map_or (may_call_at callers ps devices own caller k) (slice_get caller.program.now.places k) false
may_call_from callers ps devices own caller (In k) = false

abbrev pub may_call_by : List CallerRules → List Position → List Device → ℕ → CallerRules → Option Position → Bool
may_call_by callers ps devices own caller p = option_map_or (may_call_from callers ps devices own caller) p false

-- a caller may call the command before which it stands
abbrev pub may_call : List CallerRules → List Position → List Device → ℕ → Bool
may_call callers ps devices c = option_map_or (λ caller. may_call_by callers ps devices c caller (slice_get ps c)) (slice_get callers c) false
