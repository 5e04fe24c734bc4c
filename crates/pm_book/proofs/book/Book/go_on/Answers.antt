use Rattle.std.proofs.Common.{◌≡◌, Some, length, reverse, arith, subst, sym}
use Rattle.pm_model.specs.declared.event.Line.{Line}
use Rattle.pm_model.specs.declared.stage.Move.{Move}
use Rattle.pm_model.specs.World.{World, move, stage_at}
use Rattle.pm_book.specs.Pages.{BeginsWithin, MayGo, MayWrite, Pages}
use Rattle.pm_book.proofs.PageLemmas.{begins_within, can_go, may_write, permits}
use Rattle.pm_book.proofs.book.Book.go_on.Goals as goal

pub write_next-requires-clause-stands : goal.write_next-requires-clause-stands
write_next-requires-clause-stands c =
    let b = c.self.inside in
    let may = subst (λ (p : Pages). MayGo p.plan p.lines c.args.actor c.args.stage.now c.args.time) (sym c.self.view_is) c.requires.may in
    can_go b.plan b.state.world c.args.actor c.args.stage.now
    (c.all_stand_well.ensures b.plan (reverse b.lines.lines) b.state.world c.self.invariant.lawful c.self.invariant.in_time c.self.invariant.world_is c.args.actor)
    (subst (λ (w : World). stage_at b.plan w c.args.actor ≡ Some c.args.stage.now) (sym c.self.invariant.world_is) may.stands)

pub write_move-requires-clause-may : goal.write_move-requires-clause-may
write_move-requires-clause-may c =
    let b = c.self.inside in
    let line : Line = record { time = c.args.time; actor = c.args.actor; event = c.in-Write.event } in
    let may = subst (λ (p : Pages). MayGo p.plan p.lines c.args.actor c.args.stage.now c.args.time) (sym c.self.view_is) c.requires.may in
    let gives = subst (λ (m : Move). Some m ≡ move b.plan b.state.world.views c.args.stage.now c.args.time) c.in-Write.is c.write_next.ensures in
    subst (λ (p : Pages). MayWrite p.plan p.lines c.args.stage.now line c.in-Write.change c.in-Write.then) c.self.view_is
    (may_write b.plan (reverse b.lines.lines) b.state.world c.args.actor c.args.time c.args.stage.now c.in-Write.event c.in-Write.change c.in-Write.then c.self.invariant.world_is may gives)

pub write_move-requires-clause-within : goal.write_move-requires-clause-within
write_move-requires-clause-within c =
    let b = c.self.inside in
    let h = reverse b.lines.lines in
    let line : Line = record { time = c.args.time; actor = c.args.actor; event = c.in-Write.event } in
    let may = subst (λ (p : Pages). MayGo p.plan p.lines c.args.actor c.args.stage.now c.args.time) (sym c.self.view_is) c.requires.may in
    let gives = subst (λ (m : Move). Some m ≡ move b.plan b.state.world.views c.args.stage.now c.args.time) c.in-Write.is c.write_next.ensures in
    let write = may_write b.plan h b.state.world c.args.actor c.args.time c.args.stage.now c.in-Write.event c.in-Write.change c.in-Write.then c.self.invariant.world_is may gives in
    let told = c.lines_are_of_plan.ensures.event b.plan h line c.self.invariant.lawful (permits b.plan h c.args.stage.now line c.in-Write.change c.in-Write.then write) (omega (arith, may.in_time)) in
    subst (λ (p : Pages). BeginsWithin (length p.plan.devices) c.in-Write.event) c.self.view_is (begins_within (length b.plan.devices) c.in-Write.event told)
