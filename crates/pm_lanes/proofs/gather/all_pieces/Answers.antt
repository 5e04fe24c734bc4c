use Rattle.pm_lanes.proofs.ShowLemmas.{no_line, shown_more}
use Rattle.pm_lanes.proofs.gather.all_pieces.Goals as goal

pub loop-place-preserved : goal.loop-place-preserved
loop-place-preserved c = record {
  stands = c.in_ok-step.ensures.stands;
  shown =
      shown_more c.args.plan.now c.args.lines.now c.loop-place.place no_line c.loop-place.replay c.step.new.replay c.loop-place.all.items c.step.new.all.items c.loop-place-test.true c.loop-place.invariant.stands
      c.in_ok-step.ensures.stands c.loop-place.invariant.shown c.in_ok-step.ensures.shown;
}
