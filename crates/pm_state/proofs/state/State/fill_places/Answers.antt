use Rattle.std.proofs.Common.{◌≡◌, ◌∙◌, ℕ, List, Vec, Global, drop, length, map, take, sym, ap, arith}
use Rattle.std.proofs.lemmas.List.{length-drop, length-take-le}
use Rattle.pm_model.specs.declared.stage.Stage.{Stage}
use Rattle.pm_state.specs.Places.{Stacks}
use Rattle.pm_state.specs.Standing.{Standing}
use Rattle.pm_state.proofs.SeatLemmas.{three_filled}
use Rattle.pm_state.proofs.state.State.fill_places.Goals as goal

pub returns : goal.returns
returns c =
    let items : Vec Stage Global → List Stage = λ v. v.items in
    let s = c.self.inside in
    let n = s.callers in
    let d = s.devices in
    let l = s.places.stages in
    let of_callers : length c.args.callers.now ≡ n =
    c.requires.callers ∙ sym (ap (λ (x : Standing). length x.world.caller_places) c.self.view_is) ∙ length-take-le n l (omega (arith, c.self.invariant.each)) in
    let of_works : length c.args.works.now ≡ d =
    c.requires.works ∙ sym (ap (λ (x : Standing). length x.world.work_places) c.self.view_is) ∙ length-take-le d (drop n l) (omega (arith, c.self.invariant.each, length-drop n l)) in
    let under : length (drop d (drop n l)) ≡ d = omega (arith, length-drop d (drop n l), length-drop n l, c.self.invariant.each) in
    let of_timers : length c.args.timers.now ≡ d = c.requires.timers ∙ sym (ap (λ (x : Standing). length x.world.timer_places) c.self.view_is) ∙ under in
    let long = c.fill-3.ensures.each ∙ c.fill-2.ensures.each ∙ c.fill.ensures.each ∙ c.self.invariant.each in
    let callers = map items c.args.callers.now in
    let works = map items c.args.works.now in
    let timers = map items c.args.timers.now in
    let it = three_filled n d (length c.args.callers.now) (length c.args.works.now) (length c.args.timers.now) callers works timers c.fill.new.self.stages c.fill-2.new.self.stages c.fill-3.new.self.stages
    of_callers of_works of_timers long c.fill.ensures.filled c.fill-2.ensures.before c.fill-2.ensures.filled c.fill-3.ensures.before c.fill-3.ensures.filled in
    let room = ap (λ (p : Stacks). p.room) c.fill-3.ensures.rest ∙ ap (λ (p : Stacks). p.room) c.fill-2.ensures.rest ∙ ap (λ (p : Stacks). p.room) c.fill.ensures.rest in
    let stands : List (List Stage) → List (List Stage) → List (List Stage) → List ℕ → ℕ → Standing =
    λ of_callers of_works of_timers called room. record {
      shape = s.parts.shape;
      world = record { views = s.parts.views; caller_places = of_callers; work_places = of_works; timer_places = of_timers; called = called };
      room = room;
    } in
    let l3 = c.fill-3.new.self.stages in
    let called = c.copy_from_slice.new.self.items in
    let after = c.fill-3.new.self.room in
    ap (λ a. stands a (take d (drop n l3)) (drop d (drop n l3)) called after) it.0 ∙ ap (λ a. stands callers a (drop d (drop n l3)) called after) it.1 ∙ ap (λ a. stands callers works a called after) it.2
    ∙ ap (λ a. stands callers works timers a after) c.copy_from_slice.ensures.items ∙ ap (stands callers works timers c.args.called.now) room
    ∙ ap (λ (x : Standing). record x { world = record x.world { caller_places = callers; work_places = works; timer_places = timers; called = c.args.called.now } }) c.self.view_is
