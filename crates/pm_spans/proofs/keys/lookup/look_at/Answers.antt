use Rattle.std.proofs.Common.{◌≡◌, ◌∙◌, sym}
use Rattle.pm_spans.specs.keys.Within.{read_heading}
use Rattle.pm_spans.proofs.keys.StepLemmas.{came_none, came_some, no_heading_line}
use Rattle.pm_spans.proofs.keys.LineLemmas.{looked_heading, looks_at_member}
use Rattle.pm_spans.proofs.keys.lookup.look_at.Goals as goal

pub returns-in-Some-clause-line : goal.returns-in-Some-clause-line
returns-in-Some-clause-line c =
    looked_heading c.args.path c.args.s.now c.args.before c.heading_line.result (read_heading c.in-Some.header) (sym c.first.ensures ∙ c.if-first-eq91.true)
    (came_some read_heading _ _ _ c.in-Some.is c.in_ok-header.ensures.read)
    c.heading_line.ensures.found c.heading_line.ensures.seen c.heading_line.ensures.inside c.heading_line.ensures.rest

pub returns-in-None-clause-line : goal.returns-in-None-clause-line
returns-in-None-clause-line c =
    no_heading_line c.args.s.now (sym c.first.ensures ∙ c.if-first-eq91.true) (came_none read_heading _ _ c.in-None.is c.in_ok-header.ensures.read)

pub returns-else-first-eq91-clause-line : goal.returns-else-first-eq91-clause-line
returns-else-first-eq91-clause-line c =
    looks_at_member c.args.path c.args.s.now c.args.before c.member_line.result (λ is. c.if-first-eq91.false (c.first.ensures ∙ is)) c.member_line.ensures.line
