-- The refusal `too_many`: more items than the limit (this project's own). The place is that of the first item above it; for
-- codes and commands the part is the limit.
use Rattle.std.specs.Prelude.{ℕ, Bool, ◌||◌, false, List, Option, Some, None, length, nat_le, nat_lt, if◌then◌else◌}
use Rattle.std.specs.Option.{option_map_or, option_or}
use Rattle.pm_planread.specs.tree.Places.{first_fault, place}
use Rattle.pm_planread.specs.declared.tree.place.Place.{Place}
use Rattle.pm_planread.specs.declared.tree.place.Section.{Section}
use Rattle.pm_planread.specs.declared.tree.place.Section.TheVariants.{Domain, Device, Link, Caller}
use Rattle.pm_planread.specs.declared.tree.raw.RawDevice.{RawDevice}
use Rattle.pm_planread.specs.declared.tree.raw.RawCaller.{RawCaller}
use Rattle.pm_planread.specs.declared.tree.raw.RawPlan.{RawPlan}

-- the first item past the limit, of so many
abbrev pub past_limit : Section → ℕ → ℕ → Option Place
past_limit section limit count = if nat_lt limit count then Some (place section limit 0) else None

-- an item that is past the limit, or else has a list that is too long
abbrev pub item_too_many : Section → ℕ → ℕ → ℕ → Bool → Option Place
item_too_many section limit part i is_long =
    if nat_le limit i then Some (place section i 0) else if is_long then Some (place section i part) else None

abbrev pub are_many_codes : {A : Type 0} → List A → Bool
are_many_codes codes = nat_lt 64 (length codes)

abbrev pub has_many_codes : RawDevice → Bool
has_many_codes row = option_map_or are_many_codes row.idle false || are_many_codes row.suspend || are_many_codes row.resume

abbrev pub device_too_many : ℕ → RawDevice → Option Place
device_too_many i row = item_too_many Device 1024 64 i (has_many_codes row)

abbrev pub has_many_commands : RawCaller → Bool
has_many_commands row = nat_lt 1000 (length row.script)

abbrev pub caller_too_many : ℕ → RawCaller → Option Place
caller_too_many i row = item_too_many Caller 16 1000 i (has_many_commands row)

unfoldable pub too_many_fault : RawPlan → Option Place
too_many_fault raw =
    option_or (past_limit Domain 128 (length raw.domains))
    (option_or (first_fault device_too_many 0 raw.devices)
    (option_or (past_limit Link 1024 (length raw.links))
    (first_fault caller_too_many 0 raw.callers)))
