-- Line by line.
use Rattle.pm_model.specs.Lawful.{IsLawful}
use Rattle.pm_outcomes.specs.witness.Going.{IsNear}
use Rattle.pm_outcomes.proofs.witness.OrderLemmas.{next_there, older_lawful, older_near}
use Rattle.pm_outcomes.proofs.witness.going.take_all.Goals as goal

pub take-requires-clause-near : goal.take-requires-clause-near
take-requires-clause-near c =
    let so_far = c.loop-line.invariant in
    next_there (λ plan h. IsNear h) c.args.book.now c.loop-line.book c.args.lines.now c.loop-line.line-index _ older_near c.loop-line-test.true so_far.plan so_far.lines c.requires.near

pub take-requires-clause-lawful : goal.take-requires-clause-lawful
take-requires-clause-lawful c =
    let so_far = c.loop-line.invariant in
    next_there IsLawful c.args.book.now c.loop-line.book c.args.lines.now c.loop-line.line-index _ older_lawful c.loop-line-test.true so_far.plan so_far.lines c.requires.lawful
