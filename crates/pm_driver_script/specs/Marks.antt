-- How far a caller has come: its marks, its locks, and the callers that it has stopped (this project's own).
use Rattle.std.specs.Prelude.{ℕ, ◌^◌, Bool, List, [], ◌∷◌, Option, Some, None, nat_eq, unwrap_or, if◌then◌else◌}
use Rattle.std.specs.Int.{bit_not, w64}
use Rattle.std.specs.Int.RustNames.{bit_and, bit_or}
use Rattle.std.specs.List.{slice_split}
use Rattle.pm_model.specs.NamedList.{place_named}
use Rattle.pm_driver_script.specs.declared.marks.Past.{Past}
use Rattle.pm_driver_script.specs.declared.names.ScriptNames.{ScriptNames}
use Rattle.pm_driver_text.specs.declared.whats.StepWhat.{StepWhat}
use Rattle.pm_driver_text.specs.declared.whats.StepWhat.TheVariants as what

abbrev pub with_bit : ℕ → ℕ → ℕ
with_bit bits bit = bit_or bits (2 ^ bit)

abbrev pub without_bit : ℕ → ℕ → ℕ
without_bit bits bit = bit_and bits (bit_not w64 (2 ^ bit))

-- the place of a name, and 0 where it has none: there the script is refused
abbrev pub number_in : List (List ℕ) → List ℕ → ℕ
number_in names name = unwrap_or (place_named name names) 0

abbrev pub is_comma : ℕ → Bool
is_comma c = nat_eq c 44

-- the parts of what stands behind a comma
abbrev pub parts_of : Option (List ℕ) → List (List ℕ)
parts_of None = []
parts_of (Some behind) = slice_split is_comma behind

-- the set with each of these callers
abbrev pub stopped_by : List (List ℕ) → List (List ℕ) → ℕ → ℕ
stopped_by callers [] bits = bits
stopped_by callers (name ∷ names) bits = stopped_by callers names (with_bit bits (number_in callers name))

-- what a caller has come to behind a part of a step: a mark is set, a lock taken or given back, and a stop has begun
abbrev pub passed : ScriptNames → StepWhat → ℕ → Past → Past
passed names (what.Mark name) part past = record past { marks = with_bit past.marks (number_in names.marks name) }
passed names (what.Lock name) part past = record past { locks = with_bit past.locks (number_in names.locks name) }
passed names (what.Unlock name) part past = record past { locks = without_bit past.locks (number_in names.locks name) }
passed names (what.Stop callers) part past =
    if nat_eq part 0 then record past { stopped = stopped_by names.callers (slice_split is_comma callers) past.stopped } else past
passed names w part past = past
