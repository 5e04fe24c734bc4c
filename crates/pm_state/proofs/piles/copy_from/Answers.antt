use Rattle.std.proofs.Common.{◌≢◌, ◌∙◌, ◌++◌, ◌-◌, List, [], ◌∷◌, ap, sym, arith}
use Rattle.std.proofs.lemmas.List.{append_assoc}
use Rattle.pm_model.specs.declared.stage.Stage.{Stage}
use Rattle.pm_state.specs.Piles.{stages_from}
use Rattle.pm_state.proofs.PileLemmas.{upper_is}
use Rattle.pm_state.proofs.piles.copy_from.Goals as goal

pub loop-left-preserved : goal.loop-left-preserved
loop-left-preserved c =
    let some : c.loop-left.left ≢ 0 = λ e. omega (arith, e, c.loop-left-test.true) in
    let it = upper_is c.args.cells.now c.args.owner c.loop-left.left c.loop-left.at c.index-cell.result.now c.loop-left.invariant.kept some c.index-cell.ensures in
    let rest = stages_from c.args.cells.now (c.loop-left.left - 1) c.index-cell.result.now.below in
    let was = c.loop-left.stages.items in
    let now = c.index-cell.result.now.stage in
    record {
      kept = it.rest;
      stages =
          ap (λ (l : List Stage). l ++ rest) c.in_ok-push.ensures.items ∙ append_assoc was (now ∷ []) rest ∙ ap (λ (l : List Stage). was ++ l) (sym it.stages)
          ∙ c.loop-left.invariant.stages;
    }
