use Rattle.pm_domain.specs.Domains.{IsMadeFor}
use Rattle.pm_show_top.proofs.parts.domains.take.Given as goal

-- they are domains of this plan
abbrev pub invariant-loop-step : goal.invariant-loop-step
invariant-loop-step l = IsMadeFor l.plan l.domains
