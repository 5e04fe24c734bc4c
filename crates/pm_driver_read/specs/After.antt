-- What callers begin after (this project's own).
use Rattle.std.specs.Prelude.{ℕ, zero, suc, ◌+◌, Bool, false, not, List, [], ◌∷◌, Option, Some, None, get_or, length, map, option_map, position, slice_get, unwrap_or}
use Rattle.std.specs.List.{list_all, list_any}
use Rattle.std.specs.Option.{option_map_or}
use Rattle.std.specs.Str.{bytes_eq}
use Rattle.pm_model.specs.NamedList.{place_named}
use Rattle.pm_driver_read.specs.Keys.{after_mark, after_name}
use Rattle.pm_driver_read.specs.declared.driver.CallerNeed.{CallerNeed}
use Rattle.pm_driver_read.specs.declared.refusal.KeyRefusal.{KeyRefusal}
use Rattle.pm_driver_read.specs.declared.refusal.KeyWhy.TheVariants as why
use Rattle.pm_driver_read.specs.declared.scripts.CallerSteps.{CallerSteps}
use Rattle.pm_driver_read.specs.declared.words.CallerWords.{CallerWords}
use Rattle.pm_driver_text.specs.declared.steps.ScriptStep.{ScriptStep}
use Rattle.pm_driver_text.specs.declared.whats.StepWhat.{StepWhat}
use Rattle.pm_driver_text.specs.declared.whats.StepWhat.TheVariants as what

-- a step that sets a mark
abbrev pub sets_mark : List ℕ → StepWhat → Bool
sets_mark mark (what.Mark name) = bytes_eq name mark
sets_mark mark w = false

abbrev pub sets : List ℕ → ScriptStep → Bool
sets mark step = sets_mark mark step.what

abbrev pub is_set : List ℕ → List CallerSteps → ℕ → Bool
is_set mark scripts caller = option_map_or (λ (c : CallerSteps). list_any (sets mark) c.steps) (slice_get scripts caller) false

-- the caller that a text names; the first where it names none, which is refused before
abbrev pub need_caller : List (List ℕ) → List ℕ → ℕ
need_caller callers text = unwrap_or (place_named (after_name text) callers) 0

-- Mark: the text names a mark that its caller's script doesn't set
abbrev pub is_unset : List (List ℕ) → List CallerSteps → List ℕ → Bool
is_unset callers scripts text = option_map_or (λ mark. not (is_set mark scripts (need_caller callers text))) (after_mark text) false

abbrev pub mark_refused : ℕ → ℕ → KeyRefusal
mark_refused caller part = record { why = why.Mark; caller = caller; part = part }

abbrev pub marks_fault : List (List ℕ) → List CallerSteps → ℕ → List CallerWords → Option KeyRefusal
marks_fault callers scripts caller [] = None
marks_fault callers scripts caller (words ∷ more) =
    option_map_or (λ part. Some (mark_refused caller part)) (position (is_unset callers scripts) words.after) (marks_fault callers scripts (caller + 1) more)

unfoldable pub need_of : List (List ℕ) → List (List ℕ) → List ℕ → CallerNeed
need_of callers marks text = record { caller = need_caller callers text; mark = option_map (λ mark. unwrap_or (place_named mark marks) 0) (after_mark text) }

-- what each caller begins after
abbrev pub all_needs : List (List ℕ) → List CallerWords → List (List CallerNeed)
all_needs marks callers = map (λ words. map (need_of (map (λ c. c.name) callers) marks) words.after) callers

-- Who may begin: whoever begins after none, then whoever begins after those alone, and so on.
abbrev pub is_ready : List Bool → CallerNeed → Bool
is_ready ready need = get_or ready need.caller false

abbrev pub ready_more : List (List CallerNeed) → List Bool → List Bool
ready_more needs ready = map (list_all (is_ready ready)) needs

abbrev pub ready_in : ℕ → List (List CallerNeed) → List Bool
ready_in zero needs = []
ready_in (suc n) needs = ready_more needs (ready_in n needs)

abbrev pub circle_of : ℕ → KeyRefusal
circle_of caller = record { why = why.Circle; caller = caller; part = 0 }

-- Circle: the first caller that never may, by as many rounds as there are callers
abbrev pub circle_fault : List (List CallerNeed) → Option KeyRefusal
circle_fault needs = option_map circle_of (position not (ready_in (length needs) needs))
