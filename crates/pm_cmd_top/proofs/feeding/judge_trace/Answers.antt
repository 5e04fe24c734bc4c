use Rattle.std.proofs.Common.{◌∙◌}
use Rattle.pm_audit.specs.Auditing.{verdict_of}
use Rattle.pm_book.specs.Judging.{JudgeStandsFor}
use Rattle.pm_cmd_top.proofs.FeedLemmas.{judged_of}
use Rattle.pm_cmd_top.proofs.feeding.judge_trace.Goals as goal

pub returns-in-Ok-feed_trace-clause-judged : goal.returns-in-Ok-feed_trace-clause-judged
returns-in-Ok-feed_trace-clause-judged g c =
    let files = g.F.Files in
    judged_of JudgeStandsFor files.tells_all (files.told c.args.files.now c.args.trace.now) c.feed_trace.new.auditor c.args.plan (verdict_of c.end.result)
    (c.feed_trace.ensures.plan ∙ c.in-Ok.ensures.plan) c.in-Ok-feed_trace.ensures.told c.end.ensures
