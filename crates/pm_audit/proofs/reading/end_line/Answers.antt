-- By whether there is a rest.
use Rattle.std.proofs.Common.{◌≡◌, ◌++◌, ℕ, [], List, Option, Some, subst, sym}
use Rattle.pm_audit.specs.Auditing.{IsRest, IsTaken}
use Rattle.pm_audit.proofs.Taking.{rest_on, within_on}
use Rattle.pm_audit.proofs.reading.end_line.Goals as goal

pub returns-then-is_empty-clause-taken : goal.returns-then-is_empty-clause-taken
returns-then-is_empty-clause-taken g c = λ whole begun h kept within good.
    let a = c.args in
    let empty : a.rest.now ≡ Some [] = c.is_empty.ensures.0 c.if-is_empty.true in
    let none : begun ≡ [] = subst (λ (o : Option (List ℕ)). IsRest o begun) empty kept in
    subst (λ (l : List ℕ). IsTaken g.T.LineTaker.StandsFor a.reader.now.judge.plan whole h (l ++ a.piece.now) c.take.new.format c.take.new.reader c.take.result) (sym none) (c.take.ensures.taken whole h c.requires good)

pub returns-clause-taken : goal.returns-clause-taken
returns-clause-taken g c = λ whole begun h kept within good.
    let a = c.args in
    let goes_on = subst (λ (o : Option (List ℕ)). IsRest o (begun ++ a.piece.now)) (sym c.push.ensures) (rest_on a.rest.now begun a.piece.now kept) in
    c.take_rest-bad.ensures.taken whole (begun ++ a.piece.now) h goes_on (within_on begun a.piece.now within c.requires) good
