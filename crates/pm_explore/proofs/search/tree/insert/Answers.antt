use Rattle.std.proofs.Common.{◌≡◌, ◌++◌, ◌∷◌, [], ap, subst, sym, ◌∙◌}
use Rattle.pm_explore.specs.search.Trees.{AreCounted}
use Rattle.pm_explore.proofs.search.TreeLemmas.{counted_more}
use Rattle.pm_explore.proofs.search.tree.insert.Goals as goal

pub invariant_of-tree-then-is_new : goal.invariant_of-tree-then-is_new
invariant_of-tree-then-is_new g c =
    let tree = c.args.tree.now in
    let n = c.steps_after-steps.result in
    let parents_are : c.push_reserved.new.self.items ≡ tree.parents.items ++ c.args.parent ∷ [] = c.push_reserved.ensures.items ∙ ap (λ l. l ++ c.args.parent ∷ []) c.reserve.ensures.items in
    let steps_are : c.push_reserved-then-is_new.new.self.items ≡ tree.steps.items ++ n ∷ [] = c.push_reserved-then-is_new.ensures.items ∙ ap (λ l. l ++ n ∷ []) c.reserve-2.ensures.items in
    record {
      counted =
          subst (λ l. AreCounted l c.push_reserved-then-is_new.new.self.items) (sym parents_are)
          (subst (AreCounted (tree.parents.items ++ c.args.parent ∷ [])) (sym steps_are) (counted_more tree.parents.items tree.steps.items c.args.parent n tree.counted c.requires.follows c.steps_after-steps.ensures.first c.steps_after-steps.ensures.next));
    }
