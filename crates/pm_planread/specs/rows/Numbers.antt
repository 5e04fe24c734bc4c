-- The refusals `number` and `code` (this project's own): numbers out of range, at the top by the place of their key, and codes
-- that no callback may answer, by their place in their list.
use Rattle.std.specs.Prelude.{ℕ, Bool, not, ◌&&◌, List, [], Option, ℤ, option_map, unwrap_or}
use Rattle.std.specs.Option.{option_or}
use Rattle.pm_model.specs.IsPlan.{is_code}
use Rattle.pm_planread.specs.tree.Places.{first_fault, first_place, place}
use Rattle.pm_planread.specs.declared.tree.place.Place.{Place}
use Rattle.pm_planread.specs.declared.tree.place.Section.TheVariants.{Top, Device}
use Rattle.pm_planread.specs.declared.tree.raw.RawDevice.{RawDevice}
use Rattle.pm_planread.specs.declared.tree.raw.RawPlan.{RawPlan}
use Rattle.pm_planread.specs.rows.Faults.{fault_if}
use Rattle.pm_planread.specs.rows.Rows.{is_within}

abbrev pub has_times : RawDevice → Bool
has_times row = is_within 0 1000000 row.idle_ms && is_within 0 1000000 row.suspend_ms && is_within 0 1000000 row.resume_ms

abbrev pub bad_time : ℕ → RawDevice → Option Place
bad_time i row = fault_if Device i (not (has_times row))

-- `lines` is named before `trace`
unfoldable pub number_fault : RawPlan → Option Place
number_fault raw =
    option_or (fault_if Top raw.lines_at (not (is_within 1 200000 raw.lines)))
    (option_or (fault_if Top raw.trace_at (not (is_within 1 2 raw.trace)))
    (first_fault bad_time 0 raw.devices))

abbrev pub is_other_code : ℤ → Bool
is_other_code c = not (is_code c)

abbrev pub first_other_code : List ℤ → Option ℕ
first_other_code codes = first_place is_other_code 0 codes

-- the lists go idle, suspend, resume
abbrev pub other_code_in : RawDevice → Option ℕ
other_code_in row = option_or (first_other_code (unwrap_or row.idle [])) (option_or (first_other_code row.suspend) (first_other_code row.resume))

abbrev pub bad_code : ℕ → RawDevice → Option Place
bad_code i row = option_map (place Device i) (other_code_in row)

unfoldable pub code_fault : RawPlan → Option Place
code_fault raw = first_fault bad_code 0 raw.devices
