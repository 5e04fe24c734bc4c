-- Whether a use holds in a run (this project's own). Lists of lines have the newest line first; lines are counted from 1.
use Rattle.std.specs.Prelude.{ℕ, ◌+◌, Bool, false, ◌||◌, List, [], ◌∷◌, Option, Some, None, length, option_map, if◌then◌else◌}
use Rattle.std.specs.Option.{option_or}
use Rattle.pm_expect.specs.Fields.{times_by}
use Rattle.pm_expect.specs.declared.expectation.Use.{Use}
use Rattle.pm_expect.specs.declared.expectation.Which.TheVariants as which
use Rattle.pm_expect.specs.verdicts.Calls.{is_in_call, returns}
use Rattle.pm_expect.specs.verdicts.Verdicts.{have_all, once, returns_of}
use Rattle.pm_expect.specs.declared.verdicts.calls.Return.{Return}
use Rattle.pm_expect.specs.declared.verdicts.verdict.Lack.{Lack}
use Rattle.pm_expect.specs.declared.verdicts.verdict.Verdict.{Verdict}
use Rattle.pm_expect.specs.declared.verdicts.verdict.Verdict.TheVariants as verdict
use Rattle.pm_model.specs.declared.event.Command.{Command}
use Rattle.pm_model.specs.declared.plan.Plan.{Plan}
use Rattle.pm_model.specs.History.{History}
use Rattle.pm_expect.specs.uses.Lacks.{lack_of}
use Rattle.pm_expect.specs.declared.uses.missing.Missed.{Missed}

-- the last of these lines is the call's, the return's or one between them of a call of this command by caller c
abbrev pub is_of_call : ℕ → Command → History → Bool
is_of_call c command [] = false
is_of_call c command (line ∷ h) = is_in_call h c command || is_in_call (line ∷ h) c command

-- a line of this number at which this is missed
abbrev pub missed_at : ℕ → Lack → Missed
missed_at number l = record { line = number; lack = l }

-- the first line of the calls of a use after which its device lacks something, and what
abbrev pub first_missed : Plan → Use → History → Option Missed
first_missed plan u [] = None
first_missed plan u (line ∷ h) =
    option_or (first_missed plan u h)
    (if is_of_call u.caller u.command (line ∷ h) then option_map (missed_at (length h + 1)) (lack_of plan (line ∷ h) u.dev) else None)

abbrev pub used : Bool → Option Missed → Verdict Lack
used done (Some m) = verdict.Fails m.line m.lack
used done None = once done

-- by what is missed first, and by the calls that have returned: a use holds where nothing is missed, once all calls of its command
-- have returned
abbrev pub use_by : Plan → List Return → Option Missed → Use → Verdict Lack
use_by plan all missed u = used (have_all (times_by plan u.caller u.command) which.Each (length (returns_of u.caller u.command all))) missed

abbrev pub use_verdict : Plan → History → Use → Verdict Lack
use_verdict plan h u = use_by plan (returns h) (first_missed plan u h) u
