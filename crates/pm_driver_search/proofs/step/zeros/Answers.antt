use Rattle.std.proofs.Common.{ℕ, ◌∙◌, ◌++◌, ◌∷◌, [], ap, sym}
use Rattle.std.proofs.lemmas.List.{map_more}
use Rattle.pm_driver_search.proofs.step.zeros.Goals as goal

pub loop-preserved : goal.loop-preserved
loop-preserved c = let none : ℕ = 0 in c.in_ok-push.ensures.items ∙ ap (λ l. l ++ none ∷ []) c.loop.invariant ∙ sym (map_more (λ (n : ℕ). none) c.args.called.now c.loop.index 0 c.loop-test.true)
