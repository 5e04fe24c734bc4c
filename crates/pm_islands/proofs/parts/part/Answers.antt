use Rattle.std.proofs.Common.{ℕ, subst, sym}
use Rattle.std.proofs.lemmas.Result.{IfOk-weaker}
use Rattle.pm_model.specs.Islands.{IsPart, Node, Numbering}
use Rattle.pm_islands.specs.Numbers.{AreNumbers}
use Rattle.pm_islands.proofs.parts.part.Goals as goal

pub part_of-requires-clause-numbers : goal.part_of-requires-clause-numbers
part_of-requires-clause-numbers c =
    (c.requires.1.island, subst (AreNumbers c.args.plan.now c.requires.1.island) (sym c.deref.ensures.value) (c.in_ok-numbers.ensures.numbers c.requires.0 c.requires.1))

pub returns : goal.returns
returns c =
    IfOk-weaker c.part_of.result (λ part. (f : Node → ℕ) → AreNumbers c.args.plan.now f c.deref.result.now → IsPart c.args.plan.now f c.args.island part)
    (λ part. (count : ℕ) (k : Numbering c.args.plan.now count) → IsPart c.args.plan.now k.island c.args.island part)
    (λ part by count k. by k.island (subst (AreNumbers c.args.plan.now k.island) (sym c.deref.ensures.value) (c.in_ok-numbers.ensures.numbers count k)))
    c.part_of.ensures
