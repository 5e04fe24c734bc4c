use Rattle.std.proofs.Common.{◌∙◌, arith, reverse}
use Rattle.pm_expect.proofs.uses.WatchLemmas.{judged_all}
use Rattle.pm_expect.proofs.uses.judging.uses.Goals as goal

pub returns : goal.returns
returns c =
    judged_all c.args.plan.now (reverse c.args.lines.now) c.args.all.now c.args.expected.now c.deref-watch-items.result.now c.loop-watch.verdicts.items c.loop-watch.watch-index (omega arith)
    c.loop-watch.invariant (c.deref-watch-items.ensures.value ∙ c.in_ok-watches.ensures) c.requires.returned
