use Rattle.std.proofs.Common.{arith}
use Rattle.pm_laws.specs.turns.Wakes.{wakes}
use Rattle.pm_turns.proofs.IndexLemmas.{looked_all, looked_more}
use Rattle.pm_turns.proofs.turns.Turns.refresh_waiters.Goals as goal

pub loop-seat-preserved : goal.loop-seat-preserved
loop-seat-preserved c =
    record {
      looked = looked_more (wakes c.args.plan.now c.args.state.now.world) c.args.self.now c.loop-seat.self c.refresh_seat.new.self c.args.dev c.loop-seat.from c.in-Some.seat c.loop-seat.invariant.looked
          c.in-Some.ensures.first c.refresh_seat.ensures.asks c.refresh_seat.ensures.queues c.refresh_seat.ensures.right;
      low = omega (arith, c.in-Some.ensures.found.1, c.loop-seat.invariant.looked.asks.callers, c.loop-seat.invariant.looked.asks.devices);
    }

pub returns : goal.returns
returns c = looked_all (wakes c.args.plan.now c.args.state.now.world) c.args.self.now c.loop-seat.self c.args.dev c.loop-seat.from c.loop-seat.invariant.looked c.in_default.ensures.missing
