-- By the lines of which it is kept.
use Rattle.std.proofs.Common.{◌++◌, ◌∙◌, ap}
use Rattle.pm_find.specs.findings.AllFound.{at_line}
use Rattle.pm_find.proofs.findings.PlacedLemmas.{event_is, placed_more}
use Rattle.pm_find.proofs.findings.breaking.tell_placed.Goals as goal

pub unmarked_by-requires : goal.unmarked_by-requires
unmarked_by-requires c =
    event_is c.args.plan.now c.requires.some.0 c.args.line.now c.args.bonds.now c.parts.result.now c.requires.some.2 c.parts.ensures c.requires.of_plan

pub returns-clause-told : goal.returns-clause-told
returns-clause-told c = λ h lawful kept counted last held.
    placed_more c.args.plan.now h c.args.line.now c.args.bonds.now c.parts.result.now c.args.called c.args.row.now.counts c.args.number c.args.all.now.items c.push.new.all.items c.follow.new.all.items
    kept c.parts.ensures counted last held (c.in_ok-push.ensures ∙ ap (λ found. c.args.all.now.items ++ at_line c.args.number found) c.unmarked_by.ensures)
    (c.in_ok-follow.ensures.broken h lawful kept counted)
