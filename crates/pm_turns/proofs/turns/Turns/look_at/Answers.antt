use Rattle.std.proofs.Common.{◌∙◌, arith}
use Rattle.pm_state.specs.Seats.{actor_in}
use Rattle.pm_turns.proofs.AfterLemmas.{listed_at}
use Rattle.pm_turns.proofs.IndexLemmas.{seat_here}
use Rattle.pm_turns.proofs.turns.Turns.look_at.Goals as goal

pub returns-clause-listed : goal.returns-clause-listed
returns-clause-listed c = λ d looks within.
    let x = c.args.self.now in
    let plan = c.args.plan.now in
    let asks = c.refresh_at.ensures.asks in
    listed_at x c.refresh_at.new.self c.join_at.new.self (actor_in plan c.args.seat) d c.args.seat (seat_here plan x.rows c.args.seat c.requires.seats c.requires.in_range) asks.callers asks.devices c.join_at.ensures.rows
    (c.join_at.ensures.joined d (c.looked_at.ensures ∙ looks) (omega (arith, within, asks.devices)))
