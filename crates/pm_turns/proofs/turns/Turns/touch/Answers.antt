use Rattle.pm_laws.specs.turns.Wakes.{wakes}
use Rattle.pm_state.specs.Seats.{actor_in}
use Rattle.pm_turns.proofs.IndexLemmas.{touched_all}
use Rattle.pm_turns.proofs.turns.Turns.touch.Goals as goal

pub returns : goal.returns
returns c =
    touched_all (wakes c.args.plan.now c.args.state.now.world) c.args.stirred c.args.self.now c.refresh_stirred.new.self c.refresh_waiters.new.self c.args.dev (actor_in c.args.plan.now c.args.but) c.refresh_stirred.ensures.asks
    c.refresh_stirred.ensures.queues c.refresh_stirred.ensures.work c.refresh_stirred.ensures.timer c.refresh_waiters.ensures
