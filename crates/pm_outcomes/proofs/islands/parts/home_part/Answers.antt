use Rattle.std.proofs.Common.{◌≤◌, subst, sym}
use Rattle.std.proofs.lemmas.Result.{IfOk-weaker}
use Rattle.pm_outcomes.specs.islands.Homes.{IsHomePart}
use Rattle.pm_outcomes.proofs.islands.Numbering.{home_part_is, home_within}
use Rattle.pm_islands.specs.Numbers.{island_in}
use Rattle.pm_model.specs.Islands.{IsPart}
use Rattle.pm_outcomes.proofs.islands.parts.home_part.Goals as goal

pub part_at-requires-clause-within : goal.part_at-requires-clause-within
part_at-requires-clause-within c =
    subst (λ n. n ≤ c.in_ok-numbers.numbers.count) (sym c.home_of-island.ensures) (home_within c.args.plan.now c.in_ok-numbers.numbers c.in_ok-numbers.ensures c.args.observation)

pub returns : goal.returns
returns c =
    let plan = c.args.plan.now in
    let numbers = c.in_ok-numbers.numbers in
    IfOk-weaker c.part_at.result (IsPart plan (island_in numbers) c.home_of-island.result) (IsHomePart plan c.args.observation)
    (λ part is. home_part_is plan numbers c.args.observation c.home_of-island.result part c.in_ok-numbers.ensures c.home_of-island.ensures is) c.part_at.ensures
