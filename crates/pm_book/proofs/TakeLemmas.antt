-- What a judge says of a line, said by a book.
use Rattle.std.proofs.Common.{◌≡◌, ◌<◌, false, Result, Ok, Err, length, refl, subst, sym}
use Rattle.std.specs.Result.{IsErrAnd}
use Rattle.std.proofs.lemmas.Result.{err_from_is_err_and}
use Rattle.pm_model.specs.declared.event.Line.{Line}
use Rattle.pm_model.specs.declared.plan.Plan.{Plan}
use Rattle.pm_model.specs.History.{History}
use Rattle.pm_book.specs.declared.judge.Bad.{Bad}
use Rattle.pm_book.specs.declared.judge.Bad.TheVariants as bad
use Rattle.pm_book.specs.Judging.{IsAnswer}
use Rattle.pm_book.specs.Pages.{Pages, is_full}
use Rattle.pm_book.specs.Takes.{fault_of, judged_as}
use Rattle.pm_book.specs.declared.taking.TakeFault.{TakeFault}
use Rattle.pm_book.specs.declared.taking.TakeFault.TheVariants as fault
use Rattle.pm_book.proofs.PageLemmas.{room_left}

pub room_of : (p q : Pages) → q ≡ p → is_full p ≡ false → length q.lines < q.plan.lines
room_of p q same free = subst (λ (x : Pages). length x.lines < x.plan.lines) (sym same) (room_left p.plan.lines (length p.lines) free)

said : (why : Bad) → Err why ≡ judged_as (Err (fault_of why))
said bad.Limit = refl
said bad.Step = refl
said bad.Time = refl

-- what is wrong with a line
pub refuses : (plan : Plan) (h : History) (line : Line) (why : Bad) (r : Result (Unit {0}) TakeFault) → IsErrAnd r (λ f. f ≡ fault_of why) → IsAnswer plan h line (Err why)
    → IsAnswer plan h line (judged_as r)
refuses plan h line why r is wrong =
    let p = err_from_is_err_and r is in
    subst (λ x. IsAnswer plan h line (judged_as x)) (sym p.1)
    (subst (λ f. IsAnswer plan h line (judged_as (Err f))) (sym p.2) (subst (λ x. IsAnswer plan h line x) (said why) wrong))

-- only memory is wanting
pub lacks : (plan : Plan) (h : History) (line : Line) (r : Result (Unit {0}) TakeFault) → IsErrAnd r (λ f. f ≡ fault.NoMemory) → IsAnswer plan h line (Ok tt) → IsAnswer plan h line (judged_as r)
lacks plan h line r is taken =
    let p = err_from_is_err_and r is in
    subst (λ x. IsAnswer plan h line (judged_as x)) (sym p.1) (subst (λ f. IsAnswer plan h line (judged_as (Err f))) (sym p.2) taken)
