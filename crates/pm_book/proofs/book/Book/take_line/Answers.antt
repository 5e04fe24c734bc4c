-- By what a judge says of the line.
use Rattle.std.proofs.Common.{◌∙◌, Ok, reverse, subst, sym}
use Rattle.pm_book.proofs.Moves.{permits}
use Rattle.pm_book.specs.Judging.{IsAnswer}
use Rattle.pm_book.specs.Pages.{Pages}
use Rattle.pm_book.specs.Takes.{judged_as}
use Rattle.pm_book.proofs.TakeLemmas.{lacks, refuses, room_of}
use Rattle.pm_book.proofs.book.Book.take_line.Goals as goal

pub decide-requires-clause-stands : goal.decide-requires-clause-stands
decide-requires-clause-stands c =
    let b = c.self.inside in
    c.all_stand_well.ensures b.plan (reverse b.lines.lines) b.state.world c.self.invariant.lawful c.self.invariant.in_time c.self.invariant.world_is c.args.line.now.actor

pub returns-in_err-coming-clause-answer : goal.returns-in_err-coming-clause-answer
returns-in_err-coming-clause-answer c =
    let b = c.self.inside in
    let h = reverse b.lines.lines in
    let line = c.args.line.now in
    let wrong = c.in_err-coming in
    let room = room_of c.args.self.now (record { plan = b.plan; lines = h; spare = b.lines.spare }) c.self.view_is (sym c.is_full.ensures ∙ c.if-is_full.false) in
    subst (λ (p : Pages). IsAnswer p.plan p.lines line (judged_as c.from_residual.result)) c.self.view_is
    (refuses b.plan h line wrong.field-0.0 c.from_residual.result c.from_residual.ensures.1 (wrong.ensures.err h c.self.invariant.world_is c.last_time.ensures room))

pub returns-in_err-write-clause-answer : goal.returns-in_err-write-clause-answer
returns-in_err-write-clause-answer c =
    let b = c.self.inside in
    let h = reverse b.lines.lines in
    let line = c.args.line.now in
    let it = c.in_ok-coming in
    let r = c.from_residual-in_err-write in
    let room = room_of c.args.self.now (record { plan = b.plan; lines = h; spare = b.lines.spare }) c.self.view_is (sym c.is_full.ensures ∙ c.if-is_full.false) in
    subst (λ (p : Pages). IsAnswer p.plan p.lines line (judged_as r.result)) c.self.view_is
    (lacks b.plan h line r.result r.ensures.1 (room, permits b.plan h b.state.world c.last_time.result line it.coming.change it.coming.next c.self.invariant.world_is c.last_time.ensures it.ensures.ok))

pub returns-clause-answer : goal.returns-clause-answer
returns-clause-answer c =
    let b = c.self.inside in
    let h = reverse b.lines.lines in
    let line = c.args.line.now in
    let it = c.in_ok-coming in
    let room = room_of c.args.self.now (record { plan = b.plan; lines = h; spare = b.lines.spare }) c.self.view_is (sym c.is_full.ensures ∙ c.if-is_full.false) in
    subst (λ (p : Pages). IsAnswer p.plan p.lines line (Ok tt)) c.self.view_is
    (room, permits b.plan h b.state.world c.last_time.result line it.coming.change it.coming.next c.self.invariant.world_is c.last_time.ensures it.ensures.ok)
