use Rattle.std.proofs.Common.{◌≡◌, Some, ap, slice_get, sym, ◌∙◌, arith}
use Rattle.std.proofs.lemmas.Option.{slice_get-get_or}
use Rattle.pm_explore.proofs.search.TreeLemmas.{has_path}
use Rattle.pm_explore.proofs.search.tree.steps_to.Goals as goal

pub returns : goal.returns
returns g c =
    let tree = c.args.tree.now in
    let n = c.index-steps.result.now in
    let counted = tree.counted in
    let each = counted.each in
    has_path tree.parents.items tree.steps.items c.args.at n counted (slice_get-get_or tree.steps.items c.args.at n (omega (arith, c.requires.within, each)) ∙ ap Some (sym c.index-steps.ensures))
