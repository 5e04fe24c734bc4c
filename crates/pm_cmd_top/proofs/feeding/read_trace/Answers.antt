use Rattle.std.proofs.Common.{◌+◌, arith}
use Rattle.pm_cmd_top.proofs.FeedLemmas.{fed_all}
use Rattle.pm_cmd_top.proofs.feeding.read_trace.Goals as goal

pub returns-then-got-eq0-clause-told : goal.returns-then-got-eq0-clause-told
returns-then-got-eq0-clause-told g c =
    let files = g.F.Files in
    let told = files.told c.args.files.now c.args.trace.now in
    fed_all g.T.LineTaker.StandsFor files.tells_all told c.feed_piece.new.auditor (c.loop-count.count + c.in_ok-got.got) (files.unread c.feed_piece.new.files)
    (omega (arith, c.loop-count-test.true, c.if-got-eq0.true)) (c.in_ok-got.ensures.end c.if-got-eq0.true) c.loop-count.invariant.there
    (c.in_ok-got.ensures.fed told c.loop-count.count c.loop-count.invariant.fed)
