-- What a table of a file of expectations names of a plan, field by field (this project's own).
use Rattle.std.specs.Prelude.{ℕ, ℤ, Bool, ◌&&◌, List, Option, Some, None, Result, Ok, Err, pos, neg_ℤ, codes, int_le, map, nat_abs, nat_lt, ok_or, option_map, slice_get, if◌then◌else◌}
use Rattle.std.specs.Option.{option_map_or}
use Rattle.std.specs.Str.{bytes_eq}
use Rattle.toml.specs.Data.{Members}
use Rattle.pm_base.specs.declared.DevId.{DevId}
use Rattle.pm_model.specs.NamedList.{place_named}
use Rattle.pm_model.specs.declared.event.Command.{Command}
use Rattle.pm_model.specs.declared.plan.Plan.{Plan}
use Rattle.pm_script.specs.Command.{command_of}
use Rattle.pm_script.specs.declared.fault.ScriptFault.{ScriptFault}
use Rattle.pm_expect.specs.Same.{times_of}
use Rattle.pm_expect.specs.Tables.{◌>>=◌, number_at, optional_at, text_at}
use Rattle.pm_expect.specs.declared.expectation.Left.{Left}
use Rattle.pm_expect.specs.declared.expectation.Left.TheVariants as left
use Rattle.pm_expect.specs.declared.expectation.Which.{Which}
use Rattle.pm_expect.specs.declared.expectation.Which.TheVariants as which
use Rattle.pm_expect.specs.declared.refusal.Key.{Key}
use Rattle.pm_expect.specs.declared.refusal.Key.TheVariants as key
use Rattle.pm_expect.specs.declared.refusal.Why.{Why}
use Rattle.pm_expect.specs.declared.refusal.Why.TheVariants as why

-- NoCaller: the plan has no caller of this name
abbrev pub caller_named : Plan → List ℕ → Result ℕ Why
caller_named plan name = ok_or (place_named name (map (λ row. row.name) plan.callers)) why.NoCaller

unfoldable pub caller_in : Plan → Members → Result ℕ Why
caller_in plan members = text_at key.Caller members >>= caller_named plan

-- NoDevice: the plan has no device of this name
abbrev pub dev_at : ℕ → DevId
dev_at place = record { 0 = place }

abbrev pub device_named : Plan → List ℕ → Result DevId Why
device_named plan name = ok_or (option_map dev_at (place_named name (map (λ row. row.name) plan.devices))) why.NoDevice

unfoldable pub device_in : Plan → Members → Result DevId Why
device_in plan members = text_at key.Device members >>= device_named plan

-- NoCommand: the text is no command over the plan's devices
abbrev pub command_or_fault : Result Command ScriptFault → Result Command Why
command_or_fault (Ok command) = Ok command
command_or_fault (Err fault) = Err (why.NoCommand fault)

abbrev pub command_read : Plan → List ℕ → Result Command Why
command_read plan text = command_or_fault (command_of (map (λ row. row.name) plan.devices) text)

unfoldable pub command_in : Plan → Members → Result Command Why
command_in plan members = text_at key.Command members >>= command_read plan

-- how often a caller's script has the command
abbrev pub times_by : Plan → ℕ → Command → ℕ
times_by plan caller command = option_map_or (λ row. times_of command row.script) (slice_get plan.callers caller) 0

-- NotInScript: the caller's script has the command nowhere
abbrev pub times_in : Plan → ℕ → Command → Result ℕ Why
times_in plan caller command = let times = times_by plan caller command in if nat_lt 0 times then Ok times else Err why.NotInScript

-- Range: the number isn't from one to another
abbrev pub is_within : ℤ → ℤ → ℤ → Bool
is_within low high n = int_le low n && int_le n high

abbrev pub within : Key → ℤ → ℤ → ℤ → Result ℤ Why
within k low high n = if is_within low high n then Ok n else Err (why.Range k)

-- which of so many calls: each, where no number stands there
abbrev pub nth_of : ℕ → Option ℤ → Result Which Why
nth_of times None = Ok which.Each
nth_of times (Some n) = within key.Nth (pos 1) (pos times) n >>= λ n. Ok (which.Nth (nat_abs n))

unfoldable pub which_in : ℕ → Members → Result Which Why
which_in times members = optional_at key.Nth members >>= nth_of times

-- the codes that a call may answer
unfoldable pub code_in : Members → Result ℤ Why
code_in members = number_at key.Code members >>= within key.Code (neg_ℤ (pos 4095)) (pos 1)

-- NoStatus: the word is neither
abbrev pub left_named : List ℕ → Result Left Why
left_named word = if bytes_eq word (codes "suspended") then Ok left.Suspended else if bytes_eq word (codes "active") then Ok left.Active else Err why.NoStatus

unfoldable pub left_in : Members → Result Left Why
left_in members = text_at key.Status members >>= left_named

-- a usage count is at most the lines of a run
abbrev pub usage_of : Option ℤ → Result (Option ℕ) Why
usage_of None = Ok None
usage_of (Some n) = within key.Usage (pos 0) (pos 200000) n >>= λ n. Ok (Some (nat_abs n))

unfoldable pub usage_in : Members → Result (Option ℕ) Why
usage_in members = optional_at key.Usage members >>= usage_of
