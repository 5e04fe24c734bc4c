use Rattle.std.proofs.Common.{◌≡◌, ◌++◌, take}
use Rattle.std.specs.List.{flat_map}
use Rattle.pm_outcomes.specs.text.Texts.{further_text}
use Rattle.pm_outcomes.proofs.text.pieces.push_rest.Given as goal

-- so many outcomes are told
abbrev pub invariant-loop-outcome : goal.invariant-loop-outcome
invariant-loop-outcome l = l.text.items ≡ l.initial.text.items ++ flat_map further_text (take l.outcome-index l.outcomes)
