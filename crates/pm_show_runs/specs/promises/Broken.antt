-- Lines that break a promise, each put after the first lines of a run. Most are of a caller that the plan doesn't have:
-- such a line changes the views by its event alone.
use Rattle.std.specs.Prelude.{ℕ, pos, List, [], ◌∷◌}
use Rattle.pm_base.specs.declared.ActorId.TheVariants.{Caller}
use Rattle.pm_base.specs.declared.Cb.{Cb}
use Rattle.pm_base.specs.declared.DevId.{DevId}
use Rattle.pm_base.specs.declared.Why.TheVariants as why
use Rattle.pm_model.specs.declared.event.Event.TheVariants as event
use Rattle.pm_model.specs.declared.event.Helper.TheVariants.{GetSync}
use Rattle.pm_model.specs.declared.event.Line.{Line}
use Rattle.pm_model.specs.declared.event.Word.{Word}
use Rattle.pm_model.specs.declared.event.Word.TheVariants as word
use Rattle.pm_model.specs.declared.plan.Plan.{Plan}
use Rattle.pm_model.specs.Serial.{goes_on}
use Rattle.pm_show_runs.specs.Refusals.{line}
use Rattle.pm_show_runs.specs.Counts.{first_plan}
use Rattle.pm_show_runs.specs.Words.{dev, minus}

-- the first n lines that one thread writes, the newest first
abbrev pub first : Plan → ℕ → List Line
first plan n = goes_on plan n []

-- a stranger's status line, and its line where a callback begins
abbrev pub says : DevId → Word → Line
says d w = line 0 (Caller 9) (event.State d w)

abbrev pub begins : DevId → Cb → Line
begins d k = line 0 (Caller 9) (event.Begin d k)

-- get_sync of caller 0 returns -11
abbrev pub get_fails : DevId → Line
get_fails d = line 0 (Caller 0) (event.Ret GetSync d (minus 11))

-- get_sync of caller 0 returns 0
abbrev pub get_returns : DevId → Line
get_returns d = line 0 (Caller 0) (event.Ret GetSync d (pos 0))

-- a caller takes a count, or gives one back
abbrev pub takes_one : ℕ → DevId → Line
takes_one c d = line 0 (Caller c) (event.Get d why.Caller)

abbrev pub gives_one : ℕ → DevId → Line
gives_one c d = line 0 (Caller c) (event.Put d why.Caller)

-- a device resumes by no one's call, and then a caller's get of it waits for the end
abbrev pub abandoned : List Line
abandoned = goes_on first_plan 4 (says (dev 0) word.Resuming ∷ first first_plan 2)
