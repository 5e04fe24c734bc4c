-- By the list for which the judge stands, and for any other the same way.
use Rattle.std.proofs.Common.{◌<◌, ◌+◌, List, ◌∷◌, subst, sym}
use Rattle.pm_model.specs.declared.event.Line.{Line}
use Rattle.pm_model.specs.Lawful.{IsLawful}
use Rattle.pm_state.specs.Standing.{IsActor, Standing}
use Rattle.pm_book.specs.Judging.{JudgeStandsFor, Judged, StandsForSome}
use Rattle.pm_book.specs.Offering.{line_by}
use Rattle.pm_book.specs.Sometime.{Writes}
use Rattle.pm_book.proofs.Answering.{answers_ok, goes_on_for_some, judged, may_write, stands_on}
use Rattle.pm_book.proofs.judge.Judge.accept.Goals as goal

pub go-requires-clause-takes : goal.go-requires-clause-takes
go-requires-clause-takes c =
    let j = c.self.inside in
    let i = c.self.invariant in
    let line = line_by c.args.actor c.args.time c.args.event.now in
    let may = may_write c.args.self.now (judged j.plan j.state.world j.last j.lines) line c.args.change.now c.args.next.now (sym c.self.view_is) c.requires.writes in
    c.each_line_is_taken.ensures j.plan i.list j.state.world line c.args.change.now c.args.next.now i.lawful i.stands.world_is
    (subst (λ t. Writes j.plan j.state.world t line c.args.change.now c.args.next.now) i.stands.last_is may)

pub go-requires-clause-room : goal.go-requires-clause-room
go-requires-clause-room c =
    let j = c.self.inside in
    let i = c.self.invariant in
    let line = line_by c.args.actor c.args.time c.args.event.now in
    let may = may_write c.args.self.now (judged j.plan j.state.world j.last j.lines) line c.args.change.now c.args.next.now (sym c.self.view_is) c.requires.writes in
    let room : j.lines < j.plan.lines = subst (λ (old : Judged). old.lines < old.plan.lines) (sym c.self.view_is) c.requires.room in
    let few = subst (λ n. n < j.plan.lines) i.stands.lines_are room in
    let in_range = subst (λ (old : Judged). IsActor old.plan line.actor) (sym c.self.view_is) c.requires.in_range in
    c.each_line_fits.ensures j.plan i.list j.state line c.args.change.now c.args.next.now i.lawful few i.stands.world_is i.is_of in_range
    (subst (λ t. Writes j.plan j.state.world t line c.args.change.now c.args.next.now) i.stands.last_is may)

pub invariant_of-self : goal.invariant_of-self
invariant_of-self c =
    let j = c.self.inside in
    let line = line_by c.args.actor c.args.time c.args.event.now in
    let may = may_write c.args.self.now (judged j.plan j.state.world j.last j.lines) line c.args.change.now c.args.next.now (sym c.self.view_is) c.requires.writes in
    let room : j.lines < j.plan.lines = subst (λ (old : Judged). old.lines < old.plan.lines) (sym c.self.view_is) c.requires.room in
    subst (λ (s : Standing). StandsForSome j.plan s line.time (j.lines + 1)) (sym c.go.ensures)
    (goes_on_for_some j.plan j.state j.last j.lines line c.args.change.now c.args.next.now c.self.invariant room c.requires.in_time may)

pub returns-clause-taken : goal.returns-clause-taken
returns-clause-taken c =
    let j = c.self.inside in
    let line = line_by c.args.actor c.args.time c.args.event.now in
    let may = may_write c.args.self.now (judged j.plan j.state.world j.last j.lines) line c.args.change.now c.args.next.now (sym c.self.view_is) c.requires.writes in
    let Taken : Judged → Type 0 = λ (old : Judged). (h : List Line) → IsLawful old.plan h → JudgeStandsFor old h → JudgeStandsFor (judged j.plan c.go.new.self.world line.time (j.lines + 1)) (line ∷ h) in
    let New : Standing → Type 0 = λ (s : Standing). (h : List Line) → JudgeStandsFor (judged j.plan j.state.world j.last j.lines) h → JudgeStandsFor (judged j.plan s.world line.time (j.lines + 1)) (line ∷ h) in
    let taken = subst New (sym c.go.ensures) (λ h stands. stands_on j.plan j.state.world j.last j.lines h line c.args.change.now c.args.next.now stands may) in
    subst Taken c.self.view_is (λ h lawful stands. taken h stands)

pub returns-clause-answer : goal.returns-clause-answer
returns-clause-answer c =
    let old = c.args.self.now in
    λ h lawful stands. answers_ok old.plan old.world old.last old.lines h (line_by c.args.actor c.args.time c.args.event.now) c.args.change.now c.args.next.now stands c.requires.room c.requires.writes
