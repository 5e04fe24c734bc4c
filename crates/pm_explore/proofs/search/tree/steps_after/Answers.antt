use Rattle.std.proofs.Common.{◌≡◌, ◌<◌, Some, ap, length, slice_get, sym, ◌∙◌, arith}
use Rattle.std.proofs.lemmas.Option.{slice_get-get_or}
use Rattle.pm_explore.proofs.search.TreeLemmas.{few_steps}
use Rattle.pm_explore.proofs.search.tree.steps_after.Goals as goal

pub overflow_add-result : goal.overflow_add-result
overflow_add-result g c =
    let tree = c.args.tree.now in
    let n = c.index-before.result.now in
    let within : c.args.parent < length tree.steps.items = omega (arith, c.if-parent-len.false, c.len.ensures, tree.steps.ok.0) in
    let few = few_steps tree.parents.items tree.steps.items c.args.parent n tree.counted (slice_get-get_or tree.steps.items c.args.parent n within ∙ ap Some (sym c.index-before.ensures)) in
    omega (arith, few, c.if-parent-len.false, c.len.type_inv)
