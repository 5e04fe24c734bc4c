use Rattle.std.proofs.Common.{◌∙◌}
use Rattle.pm_audit.specs.Following.{FollowerStandsFor}
use Rattle.pm_io.specs.Faults.{Rose}
use Rattle.pm_cmd_top.proofs.TraceLemmas.{followed_of, unloaded_of}
use Rattle.pm_cmd_top.proofs.following.follow_trace.Goals as goal

pub returns-in-Ok-feed_trace-clause-followed : goal.returns-in-Ok-feed_trace-clause-followed
returns-in-Ok-feed_trace-clause-followed g c =
    let files = g.F.Files in
    followed_of g.K.Keeper.Keeps files.tells_all (files.told c.args.files.now c.args.trace.now) c.args.plan c.feed_trace.new.auditor c.follower_of.result (c.feed_trace.ensures.plan ∙ c.in-Ok.ensures.plan)
    c.in-Ok-feed_trace.ensures.told c.follower_of.ensures.whole

pub returns-in-Ok-feed_trace-clause-unloaded : goal.returns-in-Ok-feed_trace-clause-unloaded
returns-in-Ok-feed_trace-clause-unloaded g c =
    let files = g.F.Files in
    unloaded_of (FollowerStandsFor g.K.Keeper.Keeps) files.tells_all (files.told c.args.files.now c.args.trace.now) c.args.plan c.feed_trace.new.auditor (Rose (files.faults c.args.files.now) (files.faults c.feed_trace.new.files)) c.follower_of.result
    (c.feed_trace.ensures.plan ∙ c.in-Ok.ensures.plan) c.in-Ok-feed_trace.ensures.told c.follower_of.ensures.refused
