use Rattle.std.proofs.Common.{◌∙◌, reverse, sym}
use Rattle.pm_book.proofs.PageLemmas.{can_go}
use Rattle.pm_book.proofs.book.Book.step.Goals as goal

pub running_until-requires-clause-stands : goal.running_until-requires-clause-stands
running_until-requires-clause-stands c =
    let b = c.self.inside in
    can_go b.plan b.state.world c.args.actor c.in-Some.stage
    (c.all_stand_well.ensures b.plan (reverse b.lines.lines) b.state.world c.self.invariant.lawful c.self.invariant.in_time c.self.invariant.world_is c.args.actor) (sym c.stage_at.ensures ∙ c.in-Some.is)
