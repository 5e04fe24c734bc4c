-- By the kind of the stage.
use Rattle.std.proofs.Common.{◌≡◌, true, None, ap, subst, sym}
use Rattle.pm_device.specs.Parts.{Counters}
use Rattle.pm_model.specs.Views.{Views}
use Rattle.pm_model.specs.WellFormed.{is_well_formed}
use Rattle.pm_state.proofs.PlaceLemmas.{well_formed_of}
use Rattle.pm_laws.specs.bounds.Times.{arms_for}
use Rattle.pm_book.specs.Sometime.{Comes, awaited}
use Rattle.pm_book.proofs.Coming.{Tells, by_armed, by_awaited, by_later, by_none, by_now, tested_in}
use Rattle.pm_book.proofs.sometime.comes.Goals as goal

pub armed-requires-clause-well_formed : goal.armed-requires-clause-well_formed
armed-requires-clause-well_formed c =
    let a = c.args in
    let views = ap (λ (p : Counters). p.views) c.parts-parts.ensures in
    subst (λ (v : Views). is_well_formed a.plan.now v a.stage ≡ true) (sym views) (well_formed_of a.plan.now a.state.now.world.views a.stage c.requires.stands)

pub returns-in-Some : goal.returns-in-Some
returns-in-Some c =
    let a = c.args in
    let views = ap (λ (p : Counters). p.views) c.parts-parts.ensures in
    subst (λ (v : Views). Tells c.same.result (Comes a.plan.now v a.stage a.last a.event)) views
    (by_awaited a.plan.now c.parts-parts.result.now.views a.stage a.last c.in-Some.only a.event c.same.result c.in-Some.ensures c.same.ensures)

pub returns-in-Some-armed : goal.returns-in-Some-armed
returns-in-Some-armed c =
    let a = c.args in
    let views = ap (λ (p : Counters). p.views) c.parts-parts.ensures in
    subst (λ (v : Views). Tells c.arms_from.result (Comes a.plan.now v a.stage a.last a.event)) views
    (by_armed a.plan.now c.parts-parts.result.now.views a.stage a.last c.in-Some-armed.ms c.in-Some-armed.dev a.event c.arms_from.result c.in_default.ensures c.in-Some-armed.ensures.some c.arms_from.ensures)

pub follows-requires : goal.follows-requires
follows-requires c = tested_in c.args.plan.now c.args.state.now.world.views c.args.stage (well_formed_of c.args.plan.now c.args.state.now.world.views c.args.stage c.requires.stands)

pub returns-then-same : goal.returns-then-same
returns-then-same c =
    let a = c.args in
    let views = ap (λ (p : Counters). p.views) c.parts-parts.ensures in
    let once = subst (λ (v : Views). None ≡ awaited a.plan.now v a.stage) views c.in_default.ensures in
    let none = subst (λ (v : Views). arms_for a.plan.now v a.stage ≡ None) views c.in_default-armed.ensures.none in
    by_now a.plan.now a.state.now.world.views a.stage a.last c.in-Some-event_of.now a.event c.same-in-Some-event_of.result once none c.in-Some-event_of.ensures c.same-in-Some-event_of.ensures c.if-same.true

pub returns-else-same : goal.returns-else-same
returns-else-same c =
    let a = c.args in
    let views = ap (λ (p : Counters). p.views) c.parts-parts.ensures in
    let once = subst (λ (v : Views). None ≡ awaited a.plan.now v a.stage) views c.in_default.ensures in
    let none = subst (λ (v : Views). arms_for a.plan.now v a.stage ≡ None) views c.in_default-armed.ensures.none in
    by_later a.plan.now a.state.now.world.views a.stage a.last c.in-Some-event_of.now a.event c.same-in-Some-event_of.result c.follows.result once none c.in-Some-event_of.ensures c.same-in-Some-event_of.ensures c.if-same.false c.follows.ensures

pub returns-in-None : goal.returns-in-None
returns-in-None c =
    let a = c.args in
    let views = ap (λ (p : Counters). p.views) c.parts-parts.ensures in
    let none = subst (λ (v : Views). arms_for a.plan.now v a.stage ≡ None) views c.in_default-armed.ensures.none in
    by_none a.plan.now a.state.now.world.views a.stage a.last a.event none c.in-None.ensures
