-- A line of the plan has a time that has a text, and an event of the plan.
use Rattle.std.proofs.Common.{length, arith}
use Rattle.pm_linetext.proofs.Lengths.{line_parts}
use Rattle.pm_linetext.proofs.speller.LineSpeller.spell_timed.Goals as goal

pub spell_parts-requires-clause-in_time : goal.spell_parts-requires-clause-in_time
spell_parts-requires-clause-in_time c =
    let plan = c.args.self.now in
    let in_time = (line_parts (length plan.devices) (length plan.callers) c.args.line.now c.requires.line_of_plan).0 in
    omega (arith, in_time, c.requires.not_later)

pub spell_parts-requires-clause-event_of_plan : goal.spell_parts-requires-clause-event_of_plan
spell_parts-requires-clause-event_of_plan c =
    let plan = c.args.self.now in
    (line_parts (length plan.devices) (length plan.callers) c.args.line.now c.requires.line_of_plan).1
