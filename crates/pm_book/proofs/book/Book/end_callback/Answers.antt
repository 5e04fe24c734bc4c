use Rattle.std.proofs.Common.{◌≡◌, ◌∙◌, Some, reverse, subst, sym, true}
use Rattle.pm_model.specs.declared.stage.Move.{Move}
use Rattle.pm_model.specs.World.{World, move}
use Rattle.pm_state.specs.Turns.{is_running, running_due}
use Rattle.pm_book.specs.Pages.{Pages, world_of}
use Rattle.pm_book.proofs.EndLemmas.{move_ends, no_wait}
use Rattle.pm_book.proofs.PageLemmas.{can_go}
use Rattle.pm_book.proofs.book.Book.end_callback.Goals as goal

pub write_next-requires-clause-stands : goal.write_next-requires-clause-stands
write_next-requires-clause-stands c =
    let b = c.self.inside in
    can_go b.plan b.state.world c.args.actor c.in-Some.stage
    (c.all_stand_well.ensures b.plan (reverse b.lines.lines) b.state.world c.self.invariant.lawful c.self.invariant.in_time c.self.invariant.world_is c.args.actor) (sym c.stage_at.ensures ∙ c.in-Some.is)

pub unreachable-requires-in-Wait : goal.unreachable-requires-in-Wait
unreachable-requires-in-Wait c =
    let b = c.self.inside in
    let runs = subst (λ (w : World). is_running b.plan w c.args.actor ≡ true) (sym c.self.invariant.world_is) (subst (λ (p : Pages). is_running p.plan (world_of p) c.args.actor ≡ true) (sym c.self.view_is) c.requires.running) in
    let gives = subst (λ (m : Move). Some m ≡ move b.plan b.state.world.views c.in-Some.stage c.moment-time.result) c.in-Wait.is c.write_next.ensures in
    no_wait c.moment-time.result c.in-Wait.field-0 (running_due b.plan c.in-Some.stage)
    (move_ends b.plan b.state.world c.args.actor c.in-Some.stage c.moment-time.result _ (sym c.stage_at.ensures ∙ c.in-Some.is) runs gives)
