use Rattle.std.proofs.Common.{◌∙◌, sym}
use Rattle.pm_state.specs.Seats.{actor_in}
use Rattle.pm_turns.proofs.AfterLemmas.{seen_more}
use Rattle.pm_turns.proofs.IndexLemmas.{in_plan}
use Rattle.pm_turns.proofs.turns.Turns.look_at_all.Goals as goal

pub loop-seat-preserved : goal.loop-seat-preserved
loop-seat-preserved c =
    let plan = c.args.plan.now in
    let so_far = c.loop-seat.invariant.asks in
    let sits = sym (in_plan plan c.loop-seat.self.rows c.loop-seat.seat (record { callers = so_far.callers ∙ c.requires.seats.callers; devices = so_far.devices ∙ c.requires.seats.devices })) in
    seen_more plan c.args.state.now.world c.args.self.now c.loop-seat.self c.look_at.new.self c.loop-seat.seat (actor_in plan c.loop-seat.seat) c.loop-seat.invariant sits c.look_at.ensures.asks
    c.look_at.ensures.right c.look_at.ensures.others c.look_at.ensures.listed
