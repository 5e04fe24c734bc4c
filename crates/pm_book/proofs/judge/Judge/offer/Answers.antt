-- By the list for which the judge stands.
use Rattle.std.proofs.Common.{◌≡◌, ◌<◌, ◌^◌, true, false, subst}
use Rattle.pm_model.specs.declared.event.Event.{Event}
use Rattle.pm_book.specs.Judging.{Judged}
use Rattle.pm_book.specs.Offering.{IsOfPlan}
use Rattle.pm_book.specs.Sometime.{MayCome}
use Rattle.pm_book.proofs.Answering.{offer_of_plan}
use Rattle.pm_book.proofs.judge.Judge.offer.Goals as goal

pub offered-requires-clause-stands : goal.offered-requires-clause-stands
offered-requires-clause-stands c =
    let j = c.self.inside in
    let i = c.self.invariant in
    let early = subst (λ n. n < 2 ^ 63) i.stands.last_is i.in_time in
    c.all_stand_well.ensures j.plan i.list j.state.world i.lawful early i.stands.world_is c.args.actor

pub returns-clause-of_plan : goal.returns-clause-of_plan
returns-clause-of_plan c =
    let j = c.self.inside in
    let i = c.self.invariant in
    let Is : Judged → Type 0 = λ (old : Judged). c.offered.result ≡ true → IsOfPlan old.plan c.args.actor c.args.time c.offered.new.out in
    subst Is c.self.view_is
    (λ yes. offer_of_plan j.plan j.state.world j.last c.args.actor c.args.time i.list c.offered.new.out i.stands.world_is i.stands.last_is c.requires.in_time
    (λ line permitted early. c.lines_are_of_plan.ensures.next j.plan i.list line i.lawful permitted early) (c.offered.ensures.writes yes))

pub returns-clause-none : goal.returns-clause-none
returns-clause-none c =
    let None_for : Judged → Type 0 = λ (old : Judged).
    c.offered.result ≡ false → old.lines < old.plan.lines → (event : Event) → MayCome old.plan old.world old.last (record { time = c.args.time; actor = c.args.actor; event = event }) → ⊥ in
    subst None_for c.self.view_is (λ no room. c.offered.ensures.none no)
