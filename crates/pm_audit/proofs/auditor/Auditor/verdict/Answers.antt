-- By the first bad line, and by whether the run is finished.
use Rattle.std.proofs.Common.{◌≡◌, List, subst}
use Rattle.pm_model.specs.declared.event.Line.{Line}
use Rattle.pm_model.specs.Lawful.{is_finished}
use Rattle.pm_model.specs.World.{world}
use Rattle.pm_book.specs.Judging.{JudgeStandsFor}
use Rattle.pm_audit.proofs.Telling.{end_finished, end_open}
use Rattle.pm_audit.proofs.auditor.Auditor.verdict.Goals as goal

pub returns-then-finished : goal.returns-then-finished
returns-then-finished g c = λ b says.
    let t = c.args.self.now.reader in
    end_finished g.T.LineTaker.StandsFor t b (c.in_default.ensures.none b says)
    (λ (h : List Line) (judged : JudgeStandsFor t.judge h). subst (λ x. x ≡ is_finished t.judge.plan (world t.judge.plan h)) c.if-finished.true (c.finished.ensures h judged))

pub returns : goal.returns
returns g c = λ b says.
    let t = c.args.self.now.reader in
    end_open g.T.LineTaker.StandsFor t b (c.in_default.ensures.none b says)
    (λ (h : List Line) (judged : JudgeStandsFor t.judge h). subst (λ x. x ≡ is_finished t.judge.plan (world t.judge.plan h)) c.if-finished.false (c.finished.ensures h judged))
