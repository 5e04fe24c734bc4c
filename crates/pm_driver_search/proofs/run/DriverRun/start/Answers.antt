use Rattle.std.proofs.Common.{[], subst, sym}
use Rattle.pm_laws.specs.counts.Sizes.{HasEntries}
use Rattle.pm_model.specs.World.{World}
use Rattle.pm_driver_search.proofs.run.DriverRun.start.Goals as goal

pub returns-clause-run : goal.returns-clause-run
returns-clause-run c = record {
  is_of = c.in_ok-state.ensures.is_of;
  entries = subst (λ (w : World). HasEntries c.args.plan.now w.views) (sym c.in_ok-state.ensures.start) (c.sizes.ensures.entries c.args.plan.now [] tt);
  room = let is_of = c.in_ok-state.ensures.is_of in c.least_room-room.ensures c.in_ok-state.state.room is_of.roomy.each;
}
