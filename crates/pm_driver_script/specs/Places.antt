-- The places of a program: where a caller may stand in its script, in which of its turns, and how far it has come (this
-- project's own).
use Rattle.std.specs.Prelude.{ℕ, ◌+◌, Bool, true, false, ◌&&◌, List, [], ◌∷◌, ◌++◌, Option, None, is_some, map, nat_eq, nat_lt, position, if◌then◌else◌}
use Rattle.pm_driver_script.specs.Goals.{goal_from}
use Rattle.pm_driver_script.specs.Ways.{exits_at, otherwise_at}
use Rattle.pm_driver_script.specs.declared.goals.Goal.{Goal}
use Rattle.pm_driver_script.specs.declared.goals.Goal.TheVariants as goal
use Rattle.pm_driver_script.specs.declared.marks.Past.{Past}
use Rattle.pm_driver_script.specs.declared.names.ScriptNames.{ScriptNames}
use Rattle.pm_driver_script.specs.declared.places.Standing.{Standing}
use Rattle.pm_driver_text.specs.declared.steps.ScriptStep.{ScriptStep}

abbrev pub is_same_goal : Goal → Goal → Bool
is_same_goal (goal.At step part) (goal.At other other_part) = nat_eq step other && nat_eq part other_part
is_same_goal goal.Returned goal.Returned = true
is_same_goal goal.Failed goal.Failed = true
is_same_goal a b = false

abbrev pub is_same_past : Past → Past → Bool
is_same_past a b = nat_eq a.marks b.marks && nat_eq a.locks b.locks && nat_eq a.stopped b.stopped

abbrev pub is_same_standing : Standing → Standing → Bool
is_same_standing a b = nat_eq a.turn b.turn && is_same_goal a.goal b.goal && is_same_past a.past b.past

abbrev pub place_of : Standing → List Standing → Option ℕ
place_of s list = position (is_same_standing s) list

abbrev pub is_end : Goal → Bool
is_end (goal.At step part) = false
is_end g = true

abbrev pub start_goal : List ScriptStep → Goal
start_goal steps = goal_from None steps 0

abbrev pub start_of : List ScriptStep → Standing
start_of steps = record { turn = 0; goal = start_goal steps; past = record { marks = 0; locks = 0; stopped = 0 } }

-- where a turn has ended and another follows, it begins anew
abbrev pub settled : List ScriptStep → ℕ → ℕ → Goal → Past → Standing
settled steps turns turn g past =
    if is_end g && nat_lt (turn + 1) turns then record { turn = turn + 1; goal = start_goal steps; past = past } else record { turn = turn; goal = g; past = past }

-- places, and one that isn't there yet
abbrev pub with_standing : List Standing → Standing → List Standing
with_standing found s = if is_some (place_of s found) then found else found ++ s ∷ []

abbrev pub with_goals : List ScriptStep → ℕ → ℕ → Past → List Standing → List Goal → List Standing
with_goals steps turns turn past found [] = found
with_goals steps turns turn past found (g ∷ goals) = with_goals steps turns turn past (with_standing found (settled steps turns turn g past)) goals

-- where a part of a step may go on
abbrev pub goals_at : ScriptNames → ScriptStep → ℕ → List ScriptStep → ℕ → List Goal
goals_at names step number behind part = otherwise_at step number behind part ++ map (λ exit. exit.goal) (exits_at names step number behind part)
