-- One idle: which stage runs a device's idle callback (runtime_pm.rst, section 2).
use Rattle.std.specs.Prelude.{ℕ, ◌≡◌, ◌<◌, length}
use Rattle.pm_base.specs.declared.DevId.{DevId}
use Rattle.pm_model.specs.declared.plan.Plan.{Plan}
use Rattle.pm_model.specs.declared.stage.IdleStage.TheVariants as idle
use Rattle.pm_model.specs.declared.stage.Stage.{Stage}
use Rattle.pm_model.specs.declared.stage.Stage.TheVariants as stage
use Rattle.pm_model.specs.Counted.{is_same}
use Rattle.pm_model.specs.Views.{device}
use Rattle.pm_model.specs.World.{World}
use Rattle.pm_laws.specs.counts.Sums.{one, tally}
use Rattle.pm_laws.specs.counts.Owners.{places}

-- 1 at a stage that runs the idle callback of d
abbrev pub runs_idle : DevId → Stage → ℕ
runs_idle d (stage.Idle (idle.Running e f since)) = one (is_same d e)
runs_idle d _ = 0

-- exactly one stage of all actors runs the idle callback of a device whose idle callback runs, and none that of another
-- device
abbrev pub HasOneIdle : Plan → World → Type 0
HasOneIdle plan w = (d : DevId) → d.0 < length plan.devices → tally (runs_idle d) (places w) ≡ one (device w.views d).idle_running
