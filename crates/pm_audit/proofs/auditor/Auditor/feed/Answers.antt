-- Line by line.
use Rattle.std.proofs.Common.{◌∙◌, arith, sym}
use Rattle.pm_audit.proofs.Telling.{goes_from, no_longer, reads_all, reads_none, reads_on, says_on}
use Rattle.pm_audit.proofs.auditor.Auditor.feed.Goals as goal

pub returns-then-is_some-clause-stands : goal.returns-then-is_some-clause-stands
returns-then-is_some-clause-stands g c = λ b says. says_on g.T.LineTaker.StandsFor c.args.self.now b c.args.piece.now (sym c.is_some.ensures ∙ c.if-is_some.true) says

pub lines-init : goal.lines-init
lines-init g c = reads_none g.T.LineTaker.StandsFor c.take_offered-left.result.now c.take_offered-left.new.self

pub lines-preserved : goal.lines-preserved
lines-preserved g c =
    let whole = c.take_offered-left.result.now in
    let start = c.take_offered-left.new.self in
    let behind = c.in-Some.behind.now in
    let first = reads_on g.T.LineTaker.StandsFor whole c.lines.left.now behind start c.lines.self c.take_first.new.self c.lines.invariant c.in-Some.ensures.read in
    reads_on g.T.LineTaker.StandsFor whole behind c.take_offered-left-in-Some.result.now start c.take_first.new.self c.take_offered-left-in-Some.new.self first c.take_offered-left-in-Some.ensures

pub lines-smaller : goal.lines-smaller
lines-smaller g c =
    let rest = no_longer g.T.LineTaker.StandsFor c.in-Some.behind.now c.take_offered-left-in-Some.result.now c.take_first.new.self c.take_offered-left-in-Some.new.self c.take_offered-left-in-Some.ensures in
    omega (arith, rest, c.in-Some.ensures.shorter)

pub returns-clause-stands : goal.returns-clause-stands
returns-clause-stands g c =
    let a = c.args.self.now in
    let left = c.lines.left.now in
    let has = reads_on g.T.LineTaker.StandsFor c.args.piece.now c.take_offered-left.result.now left a c.take_offered-left.new.self c.lines.self c.take_offered-left.ensures c.lines.invariant in
    let keeps = goes_from g.T.LineTaker.StandsFor _ c.lines.self c.keep.new.self left c.in_default.ensures.left c.keep.ensures.stands in
    reads_all g.T.LineTaker.StandsFor c.args.piece.now left a c.lines.self c.keep.new.self has keeps
