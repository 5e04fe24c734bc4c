use Rattle.std.proofs.Common.{ℕ, ◌≤◌, arith}
use Rattle.std.proofs.lemmas.Result.{IfOk-weaker}
use Rattle.pm_outcomes.proofs.islands.Numbering.{blank_by, part_by}
use Rattle.pm_islands.specs.Blank.{IsBlank}
use Rattle.pm_islands.specs.Numbers.{island_in}
use Rattle.pm_model.specs.Islands.{IsPart, Numbering}
use Rattle.pm_outcomes.proofs.islands.parts.part_at.Goals as goal

pub returns-then-island-count : goal.returns-then-island-count
returns-then-island-count c =
    let plan = c.args.plan.now in
    let numbers = c.args.numbers.now in
    IfOk-weaker c.part.result (λ part. (count : ℕ) (k : Numbering plan count) → IsPart plan k.island c.args.island part) (IsPart plan (island_in numbers) c.args.island)
    (λ part by. part_by plan numbers c.args.island part c.requires.numbers by) c.part.ensures

pub returns-else-island-count : goal.returns-else-island-count
returns-else-island-count c =
    let plan = c.args.plan.now in
    let numbers = c.args.numbers.now in
    let last : numbers.count ≤ c.args.island = omega (arith, c.if-island-count.false, c.count.ensures) in
    IfOk-weaker c.blank.result (IsBlank plan) (IsPart plan (island_in numbers) c.args.island)
    (λ part is. blank_by plan numbers c.args.island part c.requires.numbers last is) c.blank.ensures
