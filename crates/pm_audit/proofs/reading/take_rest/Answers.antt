-- By whether the rest is kept.
use Rattle.std.proofs.Common.{◌≡◌, ℕ, List, Option, subst, sym, true}
use Rattle.pm_model.specs.NoWhy.{is_within_line}
use Rattle.pm_audit.specs.Auditing.{IsRest, IsTaken}
use Rattle.pm_audit.proofs.Taking.{take_long}
use Rattle.pm_audit.proofs.reading.take_rest.Goals as goal

pub returns-in-Some-clause-taken : goal.returns-in-Some-clause-taken
returns-in-Some-clause-taken g c = λ whole line h kept within good.
    let a = c.args in
    let same : line ≡ c.in-Some.text.now = subst (λ (o : Option (List ℕ)). IsRest o line) c.in-Some.ensures.some kept in
    subst (λ (l : List ℕ). IsTaken g.T.LineTaker.StandsFor a.reader.now.judge.plan whole h l c.take.new.format c.take.new.reader c.take.result) (sym same)
    (c.take.ensures.taken whole h (subst (λ (l : List ℕ). is_within_line l ≡ true) same within) good)

pub returns-in-None-clause-taken : goal.returns-in-None-clause-taken
returns-in-None-clause-taken g c = λ whole line h kept within good.
    let a = c.args in
    take_long g.T.LineTaker.StandsFor a.reader.now.judge.plan whole line h a.format.now a.format.now a.reader.now a.reader.now good within (subst (λ (o : Option (List ℕ)). IsRest o line) c.in-None.ensures.none kept)
