use Rattle.std.proofs.Common.{ap, ◌++◌, ◌∙◌}
use Rattle.pm_base.specs.declared.DevId.{DevId}
use Rattle.pm_find.specs.findings.AllFound.{at_line}
use Rattle.pm_find.specs.findings.Ending.{left_on}
use Rattle.pm_find.specs.findings.Kept.{Known}
use Rattle.pm_find.specs.findings.WatchTable.{counts_in, on_in}
use Rattle.pm_find.proofs.findings.StepLemmas.{end_more}
use Rattle.pm_find.proofs.findings.telling.at_end.Goals as goal

pub loop-place-preserved : goal.loop-place-preserved
loop-place-preserved c =
    let dev : DevId = record { 0 = c.loop-place.place } in
    end_more (λ d. at_line c.args.number (on_in c.args.plan.now c.args.parts.now.views c.args.ends.now c.args.drops.now (record { 0 = d }))) c.loop-place.place c.args.all.now.items c.loop-place.all.items c.push.new.all.items
    c.loop-place.invariant
    (c.in_ok-push.ensures ∙ ap (λ found. c.loop-place.all.items ++ at_line c.args.number found)
    (c.left_on.ensures
    ∙ ap (λ (x : Known). left_on c.args.plan.now c.args.parts.now.views x.counts c.dropped_at-has_dropped.result dev) c.row.ensures
    ∙ ap (λ b. left_on c.args.plan.now c.args.parts.now.views (counts_in c.args.ends.now dev) b dev) c.dropped_at-has_dropped.ensures))
