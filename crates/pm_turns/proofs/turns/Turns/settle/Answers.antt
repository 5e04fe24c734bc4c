use Rattle.std.proofs.Common.{◌∷◌, subst, sym}
use Rattle.pm_base.specs.declared.ActorId.{ActorId}
use Rattle.pm_model.specs.declared.event.Line.{Line}
use Rattle.pm_turns.specs.Turning.{IsIndex, Leads}
use Rattle.pm_turns.proofs.turns.Turns.settle.Goals as goal

pub returns : goal.returns
returns c = λ h leads is.
    let plan = c.args.plan.now in
    let by : ActorId → Line = λ actor. record { time = c.args.time; actor = actor; event = c.args.event.now } in
    let sits = c.seat-seat.ensures.sits in
    subst (λ a. IsIndex plan (by a ∷ h) c.settle_at.new.self) sits
    (c.settle_at.ensures h (subst (λ a. Leads plan h (by a) c.args.at c.args.change.now c.args.state.now.world) (sym sits) leads) is)
