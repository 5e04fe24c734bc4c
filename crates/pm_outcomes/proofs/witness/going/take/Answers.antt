-- The line comes next in a lawful list.
use Rattle.std.proofs.Common.{◌∷◌, subst}
use Rattle.pm_book.specs.Judging.{IsAnswer}
use Rattle.pm_book.specs.Takes.{judged_as}
use Rattle.pm_outcomes.proofs.witness.OrderLemmas.{in_time, only_memory, writer_is}
use Rattle.pm_outcomes.proofs.witness.going.take.Goals as goal

pub take_line-requires-clause-in_range : goal.take_line-requires-clause-in_range
take_line-requires-clause-in_range c =
    let plan = c.args.book.now.plan in
    let h = c.args.book.now.lines in
    let older = c.requires.lawful.2 in
    writer_is plan c.args.line.now h (c.sizes.ensures.entries plan h older) (c.sizes.ensures.places plan h older) c.requires.lawful

pub take_line-requires-clause-in_time : goal.take_line-requires-clause-in_time
take_line-requires-clause-in_time c =
    let plan = c.args.book.now.plan in
    let h = c.args.book.now.lines in
    in_time c.args.line.now h (c.lines_are_bounded.ensures plan (c.args.line.now ∷ h) c.requires.lawful) c.requires.near

pub wanting-requires : goal.wanting-requires
wanting-requires c =
    let plan = c.args.book.now.plan in
    let h = c.args.book.now.lines in
    let line = c.args.line.now in
    only_memory plan line h c.in-Err.fault c.requires.lawful (subst (λ r. IsAnswer plan h line (judged_as r)) c.in-Err.is c.take_line.ensures.answer)
