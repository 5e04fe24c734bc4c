-- A line that comes after the first lines of a run, and that no run has there.
use Rattle.pm_base.specs.declared.ActorId.TheVariants.{Caller}
use Rattle.pm_base.specs.declared.Cb.TheVariants as cb
use Rattle.pm_base.specs.declared.DevId.{DevId}
use Rattle.pm_model.specs.declared.event.Event.TheVariants as event
use Rattle.pm_model.specs.declared.event.Line.{Line}

-- the first caller's line where a resume callback begins
abbrev pub begins : DevId → Line
begins d = record { time = 0; actor = Caller 0; event = event.Begin d cb.Resume }
