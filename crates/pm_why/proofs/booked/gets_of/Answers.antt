use Rattle.std.proofs.Common.{◌∙◌, ap, arith, length, reverse, subst, sym, take}
use Rattle.std.proofs.lemmas.List.{length-reverse}
use Rattle.pm_model.specs.declared.plan.Plan.{Plan}
use Rattle.pm_model.specs.History.{History}
use Rattle.pm_model.specs.Lawful.{IsLawful}
use Rattle.pm_book.proofs.InOrder.{lawful_at, reverse_more}
use Rattle.pm_why.specs.Kept.{TellsOf}
use Rattle.pm_why.proofs.BookLemmas.{before, dev_is, fits}
use Rattle.pm_why.proofs.booked.gets_of.Goals as goal

pub loop-line-preserved : goal.loop-line-preserved
loop-line-preserved c =
    let plan = c.args.book.now.plan in
    let lines = c.lines-lines.result.now in
    let i = c.loop-line.line-index in
    let lawful = subst (λ (h : History). IsLawful plan h) (sym c.lines-lines.ensures.lines) c.lines-lines.ensures.lawful in
    let count = before lines i c.loop-line-test.true in
    record {
      told =
          subst (λ (h : History). TellsOf c.keep.new.self h) (sym (reverse_more lines i _ c.loop-line-test.true))
          (c.keep.ensures.kept (reverse (take i lines)) (omega (arith, count)) (lawful_at plan lines i _ c.loop-line-test.true lawful).0.in_time c.loop-line.invariant.told);
      dev = dev_is _ _ c.keep.ensures.same ∙ c.loop-line.invariant.dev;
      number = omega arith;
    }

pub overflow_add-number : goal.overflow_add-number
overflow_add-number c =
    let plan = c.args.book.now.plan in
    let count = fits plan c.args.book.now.lines c.lines-lines.ensures.lawful in
    let same = ap length c.lines-lines.ensures.lines in
    let long = length-reverse c.lines-lines.result.now in
    let limit = ap (λ (p : Plan). p.lines) c.plan.ensures in
    omega (arith, count, same, long, limit)
