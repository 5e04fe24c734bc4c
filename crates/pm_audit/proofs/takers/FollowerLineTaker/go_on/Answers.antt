-- By what the judge says, and what is kept.
use Rattle.pm_book.specs.Offering.{line_by}
use Rattle.pm_audit.proofs.Following.{follows_on}
use Rattle.pm_audit.proofs.takers.FollowerLineTaker.go_on.Goals as goal

pub returns-clause-taken : goal.returns-clause-taken
returns-clause-taken g c = λ h lawful following.
    let f = c.args.self.now in
    follows_on g.K.Keeper.Keeps f.judge.plan c.accept.new.self f.keeper c.keep.new.self c.lines.result h (line_by c.args.actor c.args.time c.args.event.now) (c.accept.ensures.answer h lawful following.judged)
    (c.accept.ensures.taken h lawful following.judged) c.lines.ensures c.keep.ensures.kept following.kept
