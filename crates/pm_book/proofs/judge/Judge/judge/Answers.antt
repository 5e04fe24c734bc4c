-- By the list for which the judge stands, and for any other the same way.
use Rattle.std.proofs.Common.{◌<◌, ◌^◌, List, subst}
use Rattle.std.proofs.lemmas.Result.{err_from_is_err_and}
use Rattle.pm_model.specs.declared.event.Line.{Line}
use Rattle.pm_model.specs.Lawful.{IsLawful}
use Rattle.pm_book.specs.Judging.{IsAnswer, JudgeStandsFor, Judged}
use Rattle.pm_book.proofs.Answering.{refused}
use Rattle.pm_book.proofs.judge.Judge.judge.Goals as goal

pub decide-requires-clause-stands : goal.decide-requires-clause-stands
decide-requires-clause-stands c =
    let j = c.self.inside in
    let i = c.self.invariant in
    let early = subst (λ n. n < 2 ^ 63) i.stands.last_is i.in_time in
    c.all_stand_well.ensures j.plan i.list j.state.world i.lawful early i.stands.world_is c.args.line.now.actor

pub returns-in_err-coming-clause-answer : goal.returns-in_err-coming-clause-answer
returns-in_err-coming-clause-answer c =
    let j = c.self.inside in
    let line = c.args.line.now in
    let wrong = c.in_err-coming in
    let p = err_from_is_err_and c.from_residual.result c.from_residual.ensures.1 in
    let Answer : Judged → Type 0 = λ (old : Judged). (h : List Line) → IsLawful old.plan h → JudgeStandsFor old h → IsAnswer old.plan h line c.from_residual.result in
    subst Answer c.self.view_is
    (λ h lawful stands. rw (p.1, p.2) (refused j.plan j.state.world j.last j.lines h line wrong.field-0.0 stands c.if-self.false wrong.ensures.err))
