-- By what the judge was offered, in the format that is told.
use Rattle.std.proofs.Common.{◌∙◌, sym}
use Rattle.pm_audit.proofs.Telling.{read_as, reads_none, reads_offered, reads_on, shorter}
use Rattle.pm_audit.proofs.auditor.Auditor.take_offered.Goals as goal

pub returns-then-is_some : goal.returns-then-is_some
returns-then-is_some g c = reads_none g.T.LineTaker.StandsFor c.args.bytes.now c.args.self.now

pub returns-in_default : goal.returns-in_default
returns-in_default g c = reads_none g.T.LineTaker.StandsFor c.args.bytes.now c.args.self.now

pub lines-init : goal.lines-init
lines-init g c =
    (reads_none g.T.LineTaker.StandsFor c.args.bytes.now c.args.self.now, sym c.is_some.ensures ∙ c.if-is_some.false, c.is_empty.ensures.0 c.if-not-is_empty.false, sym c.in-Some.is ∙ c.told.ensures)

pub lines-preserved : goal.lines-preserved
lines-preserved g c =
    let inv = c.lines.invariant in
    let behind = c.in-Some-take_offered.behind.now in
    let step = reads_offered g.T.LineTaker.StandsFor c.lines.self c.take_offered.new.self c.in-Some.is_format2 c.lines.left.now behind inv.1 inv.2 inv.3 c.in-Some-take_offered.ensures.taken in
    (reads_on g.T.LineTaker.StandsFor c.args.bytes.now c.lines.left.now behind c.args.self.now c.lines.self (record c.lines.self { reader = c.take_offered.new.self }) inv.0 step, inv.1, inv.2, inv.3)

pub lines-smaller : goal.lines-smaller
lines-smaller g c =
    let first = c.in-Some-take_offered.ensures.taken in
    shorter c.lines.left.now first.piece c.in-Some-take_offered.behind.now first.begins.split

pub returns : goal.returns
returns g c = read_as g.T.LineTaker.StandsFor c.args.bytes.now c.lines.left.now c.args.self.now c.lines.self _ c.in_default-take_offered.ensures.left c.lines.invariant.0
