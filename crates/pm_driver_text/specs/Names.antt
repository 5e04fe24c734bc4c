-- Names in steps (this project's own).
use Rattle.std.specs.Prelude.{ℕ, ◌-◌, Bool, false, ◌||◌, List, Option, Some, None, Result, Ok, Err, codes, get_or, length, nat_eq, slice_get, take, if◌then◌else◌}
use Rattle.std.specs.Option.{option_map_or}
use Rattle.std.specs.Str.{bytes_eq}
use Rattle.pm_model.specs.IsPlan.{is_caller_name}
use Rattle.pm_driver_text.specs.declared.fault.StepFault.{StepFault}
use Rattle.pm_driver_text.specs.declared.fault.StepFault.TheVariants.{NoName}

-- NoName: the word is missing, or isn't 1 to 32 letters, digits, _ and -
abbrev pub name_or : Option (List ℕ) → Result (List ℕ) StepFault
name_or None = Err NoName
name_or (Some word) = if is_caller_name word then Ok word else Err NoName

abbrev pub name_at : List (List ℕ) → ℕ → Result (List ℕ) StepFault
name_at words at = name_or (slice_get words at)

-- what stands before a last colon
abbrev pub label_front : List ℕ → Option (List ℕ)
label_front word = if nat_eq (get_or word (length word - 1) 0) 58 then Some (take (length word - 1) word) else None

-- the label of a step whose first word this is: the word before its last colon, where it has one
abbrev pub label_or : Option (List ℕ) → Result (Option (List ℕ)) StepFault
label_or None = Ok None
label_or (Some front) = if is_caller_name front then Ok (Some front) else Err NoName

abbrev pub is_exit_word : List ℕ → Bool
is_exit_word word = bytes_eq word (codes "or") || bytes_eq word (codes "on")

-- a wait for a flag that is clear
abbrev pub is_not : List (List ℕ) → Bool
is_not words = option_map_or (λ word. bytes_eq word (codes "not")) (slice_get words 1) false
