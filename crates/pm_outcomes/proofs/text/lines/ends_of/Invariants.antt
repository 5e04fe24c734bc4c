use Rattle.std.proofs.Common.{◌≡◌, filter, take}
use Rattle.pm_outcomes.specs.text.Texts.{is_end}
use Rattle.pm_outcomes.proofs.text.lines.ends_of.Given as goal

-- those of the outcomes so far
abbrev pub invariant-loop-outcome : goal.invariant-loop-outcome
invariant-loop-outcome l = l.out.items ≡ filter (λ o. is_end l.device o.observation) (take l.outcome-index l.outcomes)
