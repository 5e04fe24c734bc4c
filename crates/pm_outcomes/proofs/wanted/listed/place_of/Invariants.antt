use Rattle.pm_outcomes.specs.wanted.Listed.{HasItNot}
use Rattle.pm_outcomes.proofs.wanted.listed.place_of.Given as goal

abbrev pub invariant-loop-place : goal.invariant-loop-place
invariant-loop-place l = HasItNot l.outcomes l.observation l.place
