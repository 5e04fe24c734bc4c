-- Where each island stands after lines of all: as after its own in its part.
use Rattle.std.proofs.Common.{ℕ, ◌≡◌, Bool, true, List, Option, Some, None, nat_eq, refl, sym, subst, ◌∙◌, ap}
use Rattle.std.specs.Prelude.{option_map, slice_get}
use Rattle.pm_model.specs.declared.event.Line.{Line}
use Rattle.pm_model.specs.declared.plan.Plan.{Plan}
use Rattle.pm_model.specs.declared.rows.LinkRow.{LinkRow}
use Rattle.pm_laws.specs.islands.Apart.{IsLawfulOn, OwnAreLawful, StandAlike}
use Rattle.pm_model.specs.Islands.{Node, own, the_device}
use Rattle.pm_model.specs.Lawful.{IsLawful}
use Rattle.pm_model.specs.World.{World, world}
use Rattle.pm_laws.proofs.stacks.Tests.{same_self}
use Rattle.pm_laws.proofs.islands.Isles.{Labelled, isle, part, part_is}
use Rattle.pm_laws.proofs.islands.AlikeLists.{alike_get, by_get}
use Rattle.pm_laws.proofs.islands.Whole.{merges}
use Rattle.pm_laws.proofs.islands.Region.{AlikeBy, WorldsAgree}

-- a link whose consumer is on the island
own_link : (island : Node → ℕ) (n : ℕ) (rows : List LinkRow) (xs ys : List Bool) → AlikeBy (λ row. nat_eq (island (the_device row.consumer.0)) n) rows xs ys
    → (l : ℕ) → option_map (λ row. island (the_device row.consumer.0)) (slice_get rows l) ≡ Some n → slice_get xs l ≡ slice_get ys l
own_link island n rows xs ys a l is = go (slice_get rows l) refl is
  where
    go : (x : Option LinkRow) → slice_get rows l ≡ x → option_map (λ row. island (the_device row.consumer.0)) x ≡ Some n → slice_get xs l ≡ slice_get ys l
    go None at is = absurd (cc)
    go (Some row) at is =
        let same : island (the_device row.consumer.0) ≡ n = cc in
        by_get (λ row. nat_eq (island (the_device row.consumer.0)) n) rows xs ys l row a at (ap (λ m. nat_eq m n) same ∙ same_self n)

stand_alike : (plan : Plan) (p : Labelled plan) (n : ℕ) (v w : World) → WorldsAgree plan (isle p n) v w → StandAlike plan p.island n v w
unfolding isle
stand_alike plan p n v w a = record {
  devices = λ d is. alike_get (isle p n).region.inside v.views.devices w.views.devices d a.views.devices (on is);
  pending = λ d is. alike_get (isle p n).region.inside v.views.pending w.views.pending d a.views.pending (on is);
  timers = λ d is. alike_get (isle p n).region.inside v.views.timers w.views.timers d a.views.timers (on is);
  on = λ o is. alike_get (isle p n).region.domains v.views.on w.views.on o a.views.on (on is);
  held = λ l is. own_link p.island n plan.links v.views.held w.views.held a.views.held l is;
  present = λ l is. own_link p.island n plan.links v.views.present w.views.present a.views.present l is;
  caller_places = λ c is. alike_get (isle p n).callers v.caller_places w.caller_places c a.caller_places (on is);
  work_places = λ d is. alike_get (isle p n).region.inside v.work_places w.work_places d a.work_places (on is);
  timer_places = λ d is. alike_get (isle p n).region.inside v.timer_places w.timer_places d a.timer_places (on is);
  called = λ c is. alike_get (isle p n).callers v.called w.called c a.called (on is);
}
  where
    on : {x : ℕ} → x ≡ n → nat_eq x n ≡ true
    on is = ap (λ m. nat_eq m n) is ∙ same_self n

-- what is lawful on an island is lawful for its part
pub lawful_on : {plan : Plan} (p : Labelled plan) (n : ℕ) (h : List Line) → IsLawfulOn plan p.island n h → IsLawful (part p n) h
lawful_on p n h on = subst (λ q. IsLawful q h) (part_is p n on.0 on.1) on.2

pub own_are_lawful : (plan : Plan) → OwnAreLawful plan
own_are_lawful plan island h shared timely room each =
    let p : Labelled plan = record { island = island; shared = shared } in
    let whole = merges plan p h timely room (λ n. lawful_on p n (own island n h) (each n)) in (
      whole.0,
      λ n q is. subst (λ q. StandAlike plan island n (world plan h) (world q (own island n h))) (sym (part_is p n q is))
          (stand_alike plan p n (world plan h) (world (part p n) (own island n h)) (whole.1 n).0),
    )
