-- By what the judge says, and what is kept.
use Rattle.pm_audit.proofs.Following.{follows_on}
use Rattle.pm_audit.proofs.takers.FollowerLineTaker.take.Goals as goal

pub returns-clause-taken : goal.returns-clause-taken
returns-clause-taken g c = λ h lawful following.
    let f = c.args.self.now in
    follows_on g.K.Keeper.Keeps f.judge.plan c.judge.new.self f.keeper c.keep.new.self c.lines.result h c.args.line.now (c.in_ok-judge.ensures.answer h lawful following.judged)
    (c.in_ok-judge.ensures.taken h lawful following.judged) c.lines.ensures c.keep.ensures.kept following.kept
