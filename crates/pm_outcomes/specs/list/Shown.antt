-- For which observation of a schedule's snapshot a kept one stands (this project's own).
use Rattle.pm_outcomes.specs.declared.list.observations.Observation.{Observation}
use Rattle.pm_outcomes.specs.declared.list.observations.Observation.TheVariants.{End, Return}
use Rattle.pm_explore.specs.schedule.Observations.{Observation as Shown}
use Rattle.pm_explore.specs.schedule.Observations.Observation.{Ends, Returns}

abbrev pub observation_of : Observation → Shown
observation_of (Return r) = Returns r.caller r.command r.code
observation_of (End l) = Ends l.device l.status l.usage l.error
