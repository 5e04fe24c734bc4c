-- The outcome of a run beside what the schedules of its plan show (this project's own).
use Rattle.std.specs.Prelude.{ℕ, zero, suc, ◌≡◌, ◌<◌, ◌+◌, pos, List, [], ◌∷◌, ◌++◌, Some, length, slice_get}
use Rattle.pm_outcomes.specs.declared.list.observations.Observation.{Observation}
use Rattle.pm_outcomes.specs.declared.list.observations.Observation.TheVariants.{End, Return}
use Rattle.pm_outcomes.specs.declared.list.observations.Outcome.{Outcome}
use Rattle.pm_model.specs.declared.plan.Plan.{Plan}
use Rattle.pm_model.specs.declared.rows.CallerRow.{CallerRow}
use Rattle.pm_outcomes.specs.declared.kernel_log.placing.Subject.{Subject}
use Rattle.pm_outcomes.specs.declared.kernel_log.placing.Subject.TheVariants.{Call, Device}
use Rattle.pm_outcomes.specs.declared.kernel_log.tells.Tell.{Tell}
use Rattle.pm_outcomes.specs.declared.kernel_log.tells.Tell.TheVariants as tell

-- what is told of: a call, by its caller and its number in the script, from 1; or a device
abbrev pub told_of : Tell → Subject
told_of (tell.Answer caller command code) = Call caller command
told_of (tell.End d status usage) = Device d.0

-- the first so many calls of a caller, in order
abbrev pub calls_of : ℕ → ℕ → List Subject
calls_of caller zero = []
calls_of caller (suc n) = calls_of caller n ++ Call caller (suc n) ∷ []

-- all calls of callers, of which the first has this number
abbrev pub calls_from : ℕ → List CallerRow → List Subject
calls_from caller [] = []
calls_from caller (row ∷ rows) = calls_of caller (length row.script) ++ calls_from (caller + 1) rows

-- the first so many devices
abbrev pub devices_to : ℕ → List Subject
devices_to zero = []
devices_to (suc n) = devices_to n ++ Device n ∷ []

-- what an outcome tells of, in the order in which the module tells it: each call of each caller, then each device
abbrev pub subjects : Plan → List Subject
subjects plan = calls_from 0 plan.callers ++ devices_to (length plan.devices)

-- the first so many tell of these, one by one
abbrev pub AreOf : List Subject → List Tell → ℕ → Type 0
AreOf all tells count = (i : ℕ) (t : Tell) → i < count → slice_get tells i ≡ Some t → slice_get all i ≡ Some (told_of t)

-- each call of the plan and each device is told of once, in this order
pub record IsWhole (plan : Plan) (tells : List Tell) : Type 0 where
  pub many : length tells ≡ length (subjects plan)
  pub each : AreOf (subjects plan) tells (length tells)

-- what a kernel tells where an observation shows: all but a device's error
abbrev pub shown : Observation → Tell
shown (Return r) = tell.Answer r.caller r.command r.code
shown (End l) = tell.End l.device l.status (pos l.usage)

-- one of the observations shows it
pub record IsShown (outcomes : List Outcome) (t : Tell) : Type 0 where
  pub place : ℕ
  pub outcome : Outcome
  pub there : slice_get outcomes place ≡ Some outcome
  pub shows : shown outcome.observation ≡ t

-- each of the first so many is shown by an observation
abbrev pub AreListed : List Outcome → List Tell → ℕ → Type 0
AreListed outcomes tells count = (i : ℕ) (t : Tell) → i < count → slice_get tells i ≡ Some t → IsShown outcomes t

-- the one at the place is shown by no observation, and each before it by one
pub record IsFirstUnlisted (outcomes : List Outcome) (tells : List Tell) (place : ℕ) : Type 0 where
  pub it : Tell
  pub there : slice_get tells place ≡ Some it
  pub unlisted : ¬ IsShown outcomes it
  pub before : AreListed outcomes tells place
