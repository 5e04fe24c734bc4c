-- The step that a string of a driver's script is: `[LABEL:] [devm] WHAT [EXITS]` (this project's own).
use Rattle.std.specs.Prelude.{ℕ, Bool, false, List, Option, Result, Ok, codes, drop, is_some, option_and_then, slice_get, if◌then◌else◌}
use Rattle.std.specs.Option.{option_map_or}
use Rattle.std.specs.Str.{bytes_eq}
use Rattle.pm_script.specs.Words.{words_of}
use Rattle.pm_driver_text.specs.Exits.{exits_in, few_of}
use Rattle.pm_driver_text.specs.Names.{label_front, label_or}
use Rattle.pm_driver_text.specs.Results.{◌>>=◌}
use Rattle.pm_driver_text.specs.Whats.{count_of, what_in}
use Rattle.pm_driver_text.specs.declared.fault.StepFault.{StepFault}
use Rattle.pm_driver_text.specs.declared.steps.ScriptStep.{ScriptStep}

-- the label: the first word up to its last colon, where it ends with one
abbrev pub label_in : List (List ℕ) → Result (Option (List ℕ)) StepFault
label_in words = label_or (option_and_then label_front (slice_get words 0))

abbrev pub behind_label : Option (List ℕ) → List (List ℕ) → List (List ℕ)
behind_label label words = if is_some label then drop 1 words else words

abbrev pub is_devm : List (List ℕ) → Bool
is_devm words = option_map_or (λ word. bytes_eq word (codes "devm")) (slice_get words 0) false

abbrev pub behind_devm : List (List ℕ) → List (List ℕ)
behind_devm words = if is_devm words then drop 1 words else words

-- what is done, and the exits behind it
abbrev pub step_behind : List (List ℕ) → Option (List ℕ) → Bool → List (List ℕ) → Result ScriptStep StepFault
step_behind names label devm words =
    what_in names words >>= λ what. few_of (exits_in (drop (count_of words what) words)) >>= λ exits.
    Ok (record { label = label; devm = devm; what = what; exits = exits })

abbrev pub labelled_step : List (List ℕ) → Option (List ℕ) → List (List ℕ) → Result ScriptStep StepFault
labelled_step names label words = step_behind names label (is_devm words) (behind_devm words)

abbrev pub step_in_words : List (List ℕ) → List (List ℕ) → Result ScriptStep StepFault
step_in_words names words = label_in words >>= λ label. labelled_step names label (behind_label label words)

-- the step that the bytes are over devices of these names, or the first fault in the order of its words
unfoldable pub step_of : List (List ℕ) → List ℕ → Result ScriptStep StepFault
step_of names bytes = step_in_words names (words_of bytes)
