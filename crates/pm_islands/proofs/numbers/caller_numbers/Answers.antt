use Rattle.std.proofs.Common.{◌≡◌, ℕ, map}
use Rattle.std.proofs.lemmas.Result.{IfOk-weaker}
use Rattle.pm_model.specs.Islands.{Numbering}
use Rattle.pm_islands.specs.Numbers.{AreNumbers}
use Rattle.pm_islands.specs.Ranks.{rank}
use Rattle.pm_islands.proofs.Numbered.{caller_numbers}
use Rattle.pm_islands.proofs.numbers.caller_numbers.Goals as goal

pub returns-clause-numbers : goal.returns-clause-numbers
returns-clause-numbers c =
    IfOk-weaker c.ranks_of.result (λ numbers. numbers.items ≡ map (rank c.of_callers.result.now) c.of_callers.result.now)
    (λ numbers. (count : ℕ) (k : Numbering c.args.plan.now count) → AreNumbers c.args.plan.now k.island numbers.items)
    (λ numbers are. caller_numbers c.args.plan.now c.label.new.labels c.of_callers.result.now numbers.items c.label.ensures c.of_callers.ensures are)
    c.ranks_of.ensures
