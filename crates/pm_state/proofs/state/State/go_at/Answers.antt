use Rattle.std.proofs.Common.{◌≡◌, ◌∙◌, true, ap, drop, subst, sym}
use Rattle.pm_model.specs.CanTake.{can_take}
use Rattle.pm_model.specs.Handing.{after_then}
use Rattle.pm_model.specs.Views.{Views}
use Rattle.pm_model.specs.World.{place}
use Rattle.pm_state.specs.Seats.{actor_in}
use Rattle.pm_state.specs.Standing.{Standing}
use Rattle.pm_state.proofs.PlaceLemmas.{with_place_views}
use Rattle.pm_state.proofs.state.State.go_at.Goals as goal

pub apply-requires-clause-fits : goal.apply-requires-clause-fits
apply-requires-clause-fits c =
    let plan = c.args.plan.now in
    let w = c.args.self.now.world in
    let views_of : Standing → Views = λ s. s.world.views in
    let kept : c.self.inside.parts.views ≡ w.views =
    ap views_of c.self.view_is ∙ ap views_of c.count_call.ensures ∙ ap views_of c.give_way.ensures
    ∙ with_place_views w (actor_in plan c.args.seat) (after_then c.args.then.now (drop 1 (place w (actor_in plan c.args.seat)))) in
    subst (λ v. can_take plan v c.args.change.now c.args.event.now ≡ true) (sym kept) c.requires.takes.counters
