-- Which callbacks of devices may fail, and flags as devices (this project's own).
use Rattle.std.specs.Prelude.{ℕ, ℤ, ◌+◌, Bool, false, not, ◌&&◌, ◌||◌, List, [], ◌∷◌, Option, Some, None, codes, int_le, int_lt, is_none, length, map, nat_eq, neg_ℤ, option_and_then, pos, slice_get, if◌then◌else◌}
use Rattle.std.specs.Option.{option_map_or}
use Rattle.std.specs.Ordering.{int_eq}
use Rattle.std.specs.Str.{bytes_eq}
use Rattle.pm_base.specs.declared.codes.TheConstants.{EACCES}
use Rattle.toml.specs.Data.{Data}
use Rattle.pm_base.specs.declared.DevId.{DevId}
use Rattle.pm_driver_read.specs.Words.{parent_in}
use Rattle.pm_driver_read.specs.declared.fails.DeviceFails.{DeviceFails}
use Rattle.pm_driver_read.specs.declared.fails.FailsRead.{FailsRead}
use Rattle.pm_driver_read.specs.declared.fails.FailsRead.TheVariants as read
use Rattle.pm_driver_read.specs.declared.refusal.DeviceRefusal.{DeviceRefusal}
use Rattle.pm_driver_read.specs.declared.refusal.DeviceWhy.{DeviceWhy}
use Rattle.pm_driver_read.specs.declared.refusal.DeviceWhy.TheVariants as why
use Rattle.pm_planread.specs.declared.tree.raw.RawDevice.{RawDevice}
use Rattle.pm_script.specs.Numbers.{number_in}
use Rattle.pm_script.specs.Words.{words_of}

-- of a device that says nothing, resume may fail with -5
abbrev pub unsaid : DeviceFails
unsaid = record { suspend = None; resume = Some (neg_ℤ (pos 5)) }

abbrev pub nothing_fails : DeviceFails
nothing_fails = record { suspend = None; resume = None }

-- -4095 to -1 but for -13
abbrev pub failure_code : ℤ → Option ℤ
failure_code n = if int_le (neg_ℤ (pos 4095)) n && int_lt n (pos 0) && not (int_eq n EACCES) then Some n else None

-- the words are a callback, and may be its code; -5 where it isn't said
abbrev pub fail_code : List (List ℕ) → Option ℤ
fail_code (callback ∷ []) = Some (neg_ℤ (pos 5))
fail_code (callback ∷ code ∷ []) = option_and_then failure_code (number_in code)
fail_code words = None

-- with what is said of a callback, of which nothing is said yet
abbrev pub with_code : DeviceFails → List ℕ → ℤ → Option DeviceFails
with_code fails callback code =
    if bytes_eq callback (codes "suspend") && is_none fails.suspend then Some (record { suspend = Some code; resume = fails.resume })
    else if bytes_eq callback (codes "resume") && is_none fails.resume then Some (record { suspend = fails.suspend; resume = Some code })
    else None

abbrev pub with_fail : DeviceFails → List (List ℕ) → Option DeviceFails
with_fail fails [] = None
with_fail fails (callback ∷ words) = option_and_then (with_code fails callback) (fail_code (callback ∷ words))

-- what texts say, the first of which has this number
abbrev pub fails_read : DeviceFails → ℕ → List (List ℕ) → FailsRead
fails_read fails part [] = read.Read fails
fails_read fails part (text ∷ texts) = option_map_or (λ more. fails_read more (part + 1) texts) (with_fail fails (words_of text)) (read.Refused part)

abbrev pub fails_said : Option (List (List ℕ)) → FailsRead
fails_said None = read.Read unsaid
fails_said (Some texts) = fails_read nothing_fails 0 texts

abbrev pub is_long : Option (List ℤ) → Bool
is_long list = option_map_or (λ (l : List ℤ). not (nat_eq (length l) 0)) list false

-- Codes: a device has a code in a list
abbrev pub has_codes : RawDevice → Bool
has_codes row = is_long row.idle || not (nat_eq (length row.suspend) 0) || not (nat_eq (length row.resume) 0)

abbrev pub device_refused : DeviceWhy → ℕ → ℕ → DeviceRefusal
device_refused w device part = record { why = w; device = device; part = part }

abbrev pub codes_fault : ℕ → List RawDevice → Option DeviceRefusal
codes_fault device [] = None
codes_fault device (row ∷ rows) = if has_codes row then Some (device_refused why.Codes device 0) else codes_fault (device + 1) rows

-- Fails: a text that says nothing
abbrev pub refused_part : FailsRead → Option ℕ
refused_part (read.Read fails) = None
refused_part (read.Refused part) = Some part

abbrev pub fails_fault : ℕ → List (Option (List (List ℕ))) → Option DeviceRefusal
fails_fault device [] = None
fails_fault device (said ∷ more) = option_map_or (λ part. Some (device_refused why.Fails device part)) (refused_part (fails_said said)) (fails_fault (device + 1) more)

abbrev pub read_or_unsaid : FailsRead → DeviceFails
read_or_unsaid (read.Read fails) = fails
read_or_unsaid (read.Refused part) = unsaid

abbrev pub fails_of : Option (List (List ℕ)) → DeviceFails
fails_of said = read_or_unsaid (fails_said said)

abbrev pub list_of : Option ℤ → List ℤ
list_of None = []
list_of (Some code) = code ∷ []

-- a device whose callbacks answer what they may fail with
abbrev pub with_fails : DeviceFails → RawDevice → RawDevice
with_fails fails row = record row { suspend = list_of fails.suspend; resume = list_of fails.resume }

abbrev pub said_at : List (Option (List (List ℕ))) → ℕ → DeviceFails
said_at said device = option_map_or fails_of (slice_get said device) unsaid

abbrev pub with_all_fails : List (Option (List (List ℕ))) → ℕ → List RawDevice → List RawDevice
with_all_fails said device [] = []
with_all_fails said device (row ∷ rows) = with_fails (said_at said device) row ∷ with_all_fails said (device + 1) rows

-- a flag is a device of its name
abbrev pub flag_row : Option (List ℕ) → List ℕ → RawDevice
flag_row upper flag = record {
  name = flag;
  parent = upper;
  domain = None;
  ignore_children = false;
  no_callbacks = false;
  busy = false;
  idle = None;
  suspend = [];
  resume = [];
  idle_ms = pos 0;
  suspend_ms = pos 0;
  resume_ms = pos 0;
}

-- the flag of a device that is resumed by force has its parent: while it is set, that parent has a child that counts, as the kernel
-- keeps its count of children for a device that has to come up again (pm_runtime_force_suspend)
abbrev pub flag_parent : List Data → List DevId → ℕ → Option (List ℕ)
flag_parent items forced place = option_and_then (parent_in items) (slice_get forced place)

-- flags as devices, the first of which has this number
abbrev pub flags_from : List Data → List DevId → ℕ → List (List ℕ) → List RawDevice
flags_from items forced place [] = []
flags_from items forced place (flag ∷ flags) = flag_row (flag_parent items forced place) flag ∷ flags_from items forced (place + 1) flags
