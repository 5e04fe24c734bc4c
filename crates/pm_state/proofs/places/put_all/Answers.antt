use Rattle.std.proofs.Common.{◌∙◌, ◌++◌, List, [], drop, slice_index_or, slice_set, ap, arith}
use Rattle.pm_model.specs.declared.stage.Stage.{Stage}
use Rattle.pm_state.proofs.StackLemmas.{one_more, pile_now, twice}
use Rattle.pm_state.proofs.places.put_all.Goals as goal

pub loop-left-preserved : goal.loop-left-preserved
loop-left-preserved c =
    let l = slice_index_or c.args.below.now.stages c.args.actor [] in
    let here = pile_now c.args.below.now c.loop-left.below c.args.actor (drop c.loop-left.left c.args.more.now ++ l) c.requires.in_range c.loop-left.invariant.stages in
    let more = twice c.args.below.now c.loop-left.below c.push.new.self c.args.actor (drop c.loop-left.left c.args.more.now ++ l) _ c.loop-left.invariant.stages c.push.ensures in
    record { within = let w = c.loop-left.invariant.within in omega (arith, w); stages = more ∙ ap (λ (m : List Stage). record c.args.below.now { stages = slice_set c.args.below.now.stages c.args.actor m }) (one_more c.args.more.now _ l c.loop-left.left _ c.loop-left-test.true c.loop-left.invariant.within here) }
