use Rattle.std.proofs.Common.{◌<◌, arith, length, rules, subst, sym}
use Rattle.std.proofs.lemmas.Grind.{common_steps}
use Rattle.pm_islands.proofs.Going.{Going, goes}
use Rattle.pm_islands.proofs.NextLemmas.{held}
use Rattle.pm_islands.proofs.merging.merge.Goals as goal

pub loop-rests-preserved : goal.loop-rests-preserved
loop-rests-preserved c =
    let more : length c.loop-rests.lines.items < c.args.limit =
    first_of (omega (arith, c.len.ensures, c.loop-rests-test.true), search rules, grind (arith, common_steps)) in
    let next = goes (held c.args.lists.now) (held c.loop-rests.rests.items) (held c.take_next.new.lists.items) c.args.limit c.loop-rests.lines.items c.in-Some.line
    c.loop-rests.invariant more c.in-Some.ensures.in_time c.in-Some.ensures.some in
    subst (λ lines. Going (held c.args.lists.now) (held c.take_next.new.lists.items) c.args.limit lines) (sym c.in_ok-push.ensures.items) next
