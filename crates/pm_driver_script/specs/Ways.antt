-- Where a script goes on from a part of a step (this project's own): by its exits, the first of which that fits the code is
-- taken, and else at one of several goals.
use Rattle.std.specs.Prelude.{ℕ, ◌+◌, ◌-◌, Bool, true, false, List, [], ◌∷◌, ◌++◌, Option, Some, None, pos, int_lt, is_some, map, nat_eq, nat_lt, slice_get, if◌then◌else◌}
use Rattle.std.specs.Option.{option_map_or}
use Rattle.std.specs.Ordering.{int_eq}
use Rattle.pm_base.specs.declared.DevId.{DevId}
use Rattle.pm_driver_script.specs.Calls.{force_place}
use Rattle.pm_driver_script.specs.Goals.{goal_from}
use Rattle.pm_driver_script.specs.declared.goals.Goal.{Goal}
use Rattle.pm_driver_script.specs.declared.goals.Goal.TheVariants as goal
use Rattle.pm_driver_script.specs.declared.names.ScriptNames.{ScriptNames}
use Rattle.pm_driver_script.specs.declared.ways.GoalExit.{GoalExit}
use Rattle.pm_driver_text.specs.declared.exits.StepExit.{StepExit}
use Rattle.pm_driver_text.specs.declared.steps.ScriptStep.{ScriptStep}
use Rattle.pm_driver_text.specs.declared.verbs.CodeTest.{CodeTest}
use Rattle.pm_driver_text.specs.declared.verbs.CodeTest.TheVariants as test
use Rattle.pm_driver_text.specs.declared.whats.StepWhat.{StepWhat}
use Rattle.pm_driver_text.specs.declared.whats.StepWhat.TheVariants as what

-- where the step of a number goes on by an exit, and by none, of the steps behind it
abbrev pub label_goal : ℕ → List ScriptStep → StepExit → Goal
label_goal number behind exit = goal_from (Some exit.label) behind (number + 1)

abbrev pub next_goal : ℕ → List ScriptStep → Goal
next_goal number behind = goal_from None behind (number + 1)

-- another part of the step
abbrev pub part_goal : ℕ → ℕ → Goal
part_goal number part = goal.At number part

-- where a step goes on that answers 0
abbrev pub holds_zero : CodeTest → Bool
holds_zero (test.Is code) = int_eq code (pos 0)
holds_zero t = false

abbrev pub zero_goal : ℕ → List ScriptStep → List StepExit → Goal
zero_goal number behind [] = next_goal number behind
zero_goal number behind (exit ∷ exits) = if holds_zero exit.test then label_goal number behind exit else zero_goal number behind exits

abbrev pub labelled : ℕ → List ScriptStep → List StepExit → List GoalExit
labelled number behind exits = map (λ exit. record { test = exit.test; goal = label_goal number behind exit }) exits

-- resume_and_get is a get_sync and, for each of its exits and for none, a put_noidle: where the get fails it goes on at the put
-- for its code
abbrev pub get_test : CodeTest → Option CodeTest
get_test test.Negative = Some test.Negative
get_test test.Nonzero = Some test.Negative
get_test (test.Is code) = if int_lt code (pos 0) then Some (test.Is code) else None

abbrev pub takes_all : CodeTest → Bool
takes_all (test.Is code) = false
takes_all t = true

abbrev pub found_exit : Option CodeTest → Goal → List GoalExit
found_exit None g = []
found_exit (Some t) g = record { test = t; goal = g } ∷ []

abbrev pub get_exits : ℕ → ℕ → List StepExit → List GoalExit
get_exits number part [] = found_exit (Some test.Negative) (part_goal number part)
get_exits number part (exit ∷ exits) =
    if takes_all exit.test then found_exit (get_test exit.test) (part_goal number part)
    else (found_exit (get_test exit.test) (part_goal number part) ++ get_exits number (part + 1) exits)

-- and each put goes on by its exit
abbrev pub put_goal : ScriptStep → ℕ → List ScriptStep → ℕ → Goal
put_goal step number behind part = option_map_or (label_goal number behind) (slice_get step.exits (part - 1)) (next_goal number behind)

-- a get that hasn't failed answers 0
abbrev pub get_goal : ScriptStep → ℕ → List ScriptStep → ℕ → Goal
get_goal step number behind part = if nat_eq part 0 then zero_goal number behind step.exits else put_goal step number behind part

-- where a question is answered 1
abbrev pub asked_exit : Goal → List GoalExit
asked_exit g = found_exit (Some (test.Is (pos 1))) g

-- force_suspend: where the device is active, it is set suspended; one that is resumed by force has a question before that, and
-- where this is so, its flag is set
abbrev pub suspend_exits : Bool → ℕ → ℕ → List GoalExit
suspend_exits forced number part =
    if nat_eq part 1 then asked_exit (part_goal number (if forced then 3 else 2))
    else if nat_eq part 3 then asked_exit (part_goal number 4)
    else []

-- force_resume: where the flag is set, the device is set active and the flag cleared
abbrev pub resume_exits : ℕ → ℕ → List GoalExit
resume_exits number part = if nat_eq part 0 then asked_exit (part_goal number 1) else []

abbrev pub is_forced : ScriptNames → DevId → Bool
is_forced names dev = is_some (force_place names dev)

abbrev pub exits_of : ScriptNames → ScriptStep → ℕ → List ScriptStep → StepWhat → ℕ → List GoalExit
exits_of names step number behind (what.Do name) part = []
exits_of names step number behind (what.Stop callers) part = if nat_eq part 0 then [] else labelled number behind step.exits
exits_of names step number behind (what.ResumeAndGet dev) part = if nat_eq part 0 then get_exits number 1 step.exits else []
exits_of names step number behind (what.ForceSuspend dev) part = suspend_exits (is_forced names dev) number part
exits_of names step number behind (what.ForceResume dev) part = resume_exits number part
exits_of names step number behind w part = labelled number behind step.exits

abbrev pub exits_at : ScriptNames → ScriptStep → ℕ → List ScriptStep → ℕ → List GoalExit
exits_at names step number behind part = exits_of names step number behind step.what part

-- force_suspend asks behind its disable, and sets the device suspended behind what it asks of the counts and behind its flag; else,
-- and behind set_suspended, it has answered 0
abbrev pub suspend_goal : ScriptStep → ℕ → List ScriptStep → ℕ → Goal
suspend_goal step number behind part =
    if nat_eq part 0 then part_goal number 1 else if nat_lt 2 part then part_goal number 2 else zero_goal number behind step.exits

-- force_resume enables the device behind its question, where the flag is clear, and behind that flag; then it has answered 0
abbrev pub resume_goal : ScriptStep → ℕ → List ScriptStep → ℕ → Goal
resume_goal step number behind part =
    if nat_eq part 1 then part_goal number 2 else if nat_lt part 3 then part_goal number 3 else zero_goal number behind step.exits

-- a step of the driver's own goes on at the next step or by one of its exits
abbrev pub otherwise_of : ScriptStep → ℕ → List ScriptStep → StepWhat → ℕ → List Goal
otherwise_of step number behind (what.Do name) part = next_goal number behind ∷ map (label_goal number behind) step.exits
otherwise_of step number behind (what.Stop callers) part = if nat_eq part 0 then part_goal number 1 ∷ [] else next_goal number behind ∷ []
otherwise_of step number behind (what.ResumeAndGet dev) part = get_goal step number behind part ∷ []
otherwise_of step number behind (what.ForceSuspend dev) part = suspend_goal step number behind part ∷ []
otherwise_of step number behind (what.ForceResume dev) part = resume_goal step number behind part ∷ []
otherwise_of step number behind w part = next_goal number behind ∷ []

abbrev pub otherwise_at : ScriptStep → ℕ → List ScriptStep → ℕ → List Goal
otherwise_at step number behind part = otherwise_of step number behind step.what part
