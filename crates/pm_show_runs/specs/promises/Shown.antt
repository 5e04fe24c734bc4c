-- What it is for a run to keep every promise, and for a line to break one.
use Rattle.std.specs.Prelude.{ℕ, ℤ, ◌≡◌, Bool, true, false, List, ◌∷◌, ◌++◌}
use Rattle.pm_base.specs.declared.DevId.{DevId}
use Rattle.pm_base.specs.declared.Status.{Status}
use Rattle.pm_model.specs.declared.event.Line.{Line}
use Rattle.pm_model.specs.declared.plan.Plan.{Plan}
use Rattle.pm_model.specs.declared.stage.Await.TheVariants as await
use Rattle.pm_model.specs.declared.stage.Purpose.TheVariants.{Link}
use Rattle.pm_model.specs.declared.stage.Stage.{Stage}
use Rattle.pm_model.specs.declared.stage.Stage.TheVariants as stage
use Rattle.pm_model.specs.Counted.{share, status_of, usage}
use Rattle.pm_model.specs.Lawful.{IsFinished}
use Rattle.pm_model.specs.Promises.{BondState, IsNeverStuck, gets_succeed, is_exclusive, is_kept, is_safe}
use Rattle.pm_show_runs.specs.Words.{dev}

-- the run is finished and keeps every promise, as does each shorter list that it goes on from in that it isn't stuck
pub record KeepsAll (plan : Plan) (h : List Line) : Type 0 where
  pub finished : IsFinished plan h
  pub safe : is_safe plan h ≡ true
  pub exclusive : is_exclusive plan h ≡ true
  pub kept : is_kept plan h ≡ true
  pub succeeds : gets_succeed plan h ≡ true
  pub never_stuck : (later earlier : List Line) → later ++ earlier ≡ h → IsNeverStuck plan earlier

-- the promise holds before the line, and no longer after it
pub record IsBrokenBy (promise : List Line → Bool) (line : Line) (h : List Line) : Type 0 where
  pub before : promise h ≡ true
  pub after : promise (line ∷ h) ≡ false

-- what is counted and said of d: all counts on it, those of callers among them, and its status
pub record IsCounted (plan : Plan) (h : List Line) (d : DevId) (all callers : ℕ) (status : Status) : Type 0 where
  pub usage_is : usage plan h d ≡ all
  pub share_is : share h d ≡ callers
  pub status_is : status_of h d ≡ status

-- a bond that holds, one that doesn't and is excused, and one that doesn't and isn't
abbrev pub holding : BondState
holding = record { holds = true; is_excused = false }

abbrev pub excused : BondState
excused = record { holds = false; is_excused = true }

abbrev pub missing : BondState
missing = record { holds = false; is_excused = false }

-- the resume of device 1 awaits that of its supplier by link l
abbrev pub asks_supplier : ℕ → Stage
asks_supplier l = stage.Await (await.ResumeSupplier (record { dev = dev 1; flags = 0; held = true; purpose = Link 0 }) l)

-- the resume of device 0 awaits the idle of its parent, after which it answers with this code
abbrev pub puts_parent : ℤ → Stage
puts_parent c = stage.Await (await.ResumePut (record { dev = dev 0; flags = 0; held = true; purpose = Link 0 }) c)

-- the resume of device 0 awaits its own idle
abbrev pub awaits_idle : Stage
awaits_idle = stage.Await (await.ResumeIdle (record { dev = dev 0; flags = 0; held = true; purpose = Link 0 }))
