use Rattle.std.proofs.Common.{arith, length, reverse, take}
use Rattle.std.proofs.lemmas.List.{with_items_is}
use Rattle.pm_account.proofs.KeptLemmas.{all_ready, in_time_at, kept_more}
use Rattle.pm_account.proofs.after_lines.Goals as goal

pub keep-requires : goal.keep-requires
keep-requires c =
    let plan = c.args.plan.now in
    let lines = c.args.lines.now in
    let i = c.loop-line.line-index in
    rw c.deref_mut.ensures.value
    (all_ready (length plan.devices) (reverse (take i lines)) c.loop-line.stays.items _ (in_time_at plan lines i _ c.loop-line-test.true c.requires) c.loop-line.invariant)

pub loop-line-preserved : goal.loop-line-preserved
loop-line-preserved c =
    kept_more c.args.plan.now c.args.lines.now c.loop-line.line-index _ c.deref_mut.result.now c.keep.new.stays _ c.loop-line-test.true c.requires
    (rw c.deref_mut.ensures.value c.loop-line.invariant) c.keep.ensures.entries c.keep.ensures.each
    (with_items_is c.loop-line.stays c.keep.new.stays (omega arith))
