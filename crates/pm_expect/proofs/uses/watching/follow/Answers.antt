use Rattle.std.proofs.Common.{◌≡◌, ◌∙◌, ap, arith, get_or, rules, set}
use Rattle.std.proofs.lemmas.List.Edits.{map_over_more}
use Rattle.pm_expect.specs.uses.Watching.{watch_after}
use Rattle.pm_expect.specs.declared.uses.watching.Watch.{Watch}
use Rattle.pm_expect.proofs.uses.watching.follow.Goals as goal

pub loop-place-preserved : goal.loop-place-preserved
loop-place-preserved c =
    let at : c.index.result.now ≡ get_or c.loop-place.watches.items c.loop-place.place c.index.result.now = search rules in
    ap (λ (w : Watch). set c.loop-place.watches.items c.loop-place.place w) c.watch_after.ensures
    ∙ map_over_more (watch_after c.args.plan.now c.args.parts.now.views c.args.number c.args.line.now) c.args.watches.now.items c.loop-place.watches.items c.loop-place.place c.index.result.now
    (omega arith) c.loop-place.invariant at
