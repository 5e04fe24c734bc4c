use Rattle.std.proofs.Common.{◌∙◌, ap, drop, slice_set, List}
use Rattle.pm_model.specs.declared.stage.Stage.{Stage}
use Rattle.pm_model.specs.Handing.{after_then}
use Rattle.pm_state.specs.Places.{Stacks}
use Rattle.pm_state.specs.Standing.{Standing}
use Rattle.pm_state.specs.Seats.{world_of}
use Rattle.pm_state.proofs.SeatLemmas.{is_seat, put_at}
use Rattle.pm_state.proofs.state.State.give_way.Goals as goal

pub returns : goal.returns
returns c =
    let s = c.self.inside in
    let plan = c.args.plan.now in
    let l = s.places.stages in
    let seat = c.args.seat in
    let it = is_seat plan s.parts.shape s.parts.views s.callers s.devices l s.called.items s.places.room c.args.self.now seat c.self.invariant c.self.view_is c.requires.is_of c.requires.in_range in
    let after : List Stage → List Stage = λ stages. after_then c.args.then.now (drop 1 stages) in
    ap (λ (p : Stacks). let x : Standing = record { shape = s.parts.shape; world = world_of s.parts.views s.callers s.devices p.stages s.called.items; room = p.room } in x)
    (c.go.ensures ∙ ap (λ (stages : List Stage). let x : Stacks = record { stages = slice_set l seat (after stages); room = s.places.room } in x) it.stages)
    ∙ put_at plan s.parts.shape s.parts.views s.callers s.devices l s.called.items s.places.room c.args.self.now seat _ c.self.invariant c.self.view_is c.requires.is_of
