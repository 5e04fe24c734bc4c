-- What the lines of a kernel's log tell of a plan (this project's own).
use Rattle.std.specs.Prelude.{ℕ, List, Option, Some, None, codes, length, map, nat_le, option_and_then, option_map, slice_get, if◌then◌else◌}
use Rattle.std.specs.List.{after_first, before_first, filter_map}
use Rattle.std.specs.Str.{bytes_eq}
use Rattle.pm_lab_words.specs.Numbers.{code_in, number_between, status_in}
use Rattle.pm_model.specs.declared.plan.Plan.{Plan}
use Rattle.pm_model.specs.declared.rows.CallerRow.{CallerRow}
use Rattle.pm_model.specs.NamedList.{place_named}
use Rattle.pm_outcomes.specs.declared.kernel_log.tells.Tell.TheVariants as tell
use Rattle.pm_outcomes.specs.declared.kernel_log.tells.Told.{Told}
use Rattle.pm_outcomes.specs.declared.kernel_log.tells.Told.TheVariants as told
use Rattle.pm_outcomes.specs.kernel_log.Lines.{behind_prefix, is_space, lines_of}
use Rattle.pm_spans.specs.source.Places.{without_return}

-- the text before the first space, and behind it
abbrev pub word : List ℕ → List ℕ
word text = before_first is_space text

abbrev pub behind_word : List ℕ → List ℕ
behind_word text = after_first is_space text

-- the number of a command of the caller, from 1
abbrev pub of_script : CallerRow → ℕ → Option ℕ
of_script row n = if nat_le n (length row.script) then Some n else None

abbrev pub command_in : CallerRow → List ℕ → Option ℕ
command_in row text = option_and_then (of_script row) (number_between 1 1000 text)

abbrev pub told_answer_of : ℕ → List ℕ → List ℕ → CallerRow → Option Told
told_answer_of caller number code row =
    option_and_then (λ n. option_map (λ c. told.Tells (tell.Answer caller n c)) (code_in code)) (command_in row number)

abbrev pub told_answer_at : Plan → List ℕ → List ℕ → ℕ → Option Told
told_answer_at plan number code caller = option_and_then (told_answer_of caller number code) (slice_get plan.callers caller)

-- `answer CALLER N CODE`: that command of the caller answered the code
abbrev pub told_answer : Plan → List ℕ → Option Told
told_answer plan text =
    option_and_then (told_answer_at plan (word (behind_word text)) (behind_word (behind_word text))) (place_named (word text) (map (λ row. row.name) plan.callers))

abbrev pub told_end_of : List ℕ → List ℕ → ℕ → Option Told
told_end_of status usage d =
    option_and_then (λ s. option_map (λ u. told.Tells (tell.End (record { 0 = d }) s u)) (code_in usage)) (status_in status)

-- `end DEVICE STATUS USAGE`: the device ended so
abbrev pub told_end : Plan → List ℕ → Option Told
told_end plan text =
    option_and_then (told_end_of (word (behind_word text)) (behind_word (behind_word text))) (place_named (word text) (map (λ row. row.name) plan.devices))

-- what a text behind `pm_lab: ` tells; `done`: the outcome is whole
abbrev pub told_by : Plan → List ℕ → Option Told
told_by plan text =
    if bytes_eq text (codes "done") then Some told.Done
    else if bytes_eq (word text) (codes "answer") then told_answer plan (behind_word text)
    else if bytes_eq (word text) (codes "end") then told_end plan (behind_word text)
    else None

-- what a line tells; a log that was saved elsewhere may have a carriage return before each newline
abbrev pub told_line : Plan → List ℕ → Option Told
told_line plan line = option_and_then (told_by plan) (behind_prefix (without_return line))

-- what the lines of a log tell, in order
abbrev pub told_lines : Plan → List ℕ → List Told
told_lines plan log = filter_map (told_line plan) (lines_of log)
