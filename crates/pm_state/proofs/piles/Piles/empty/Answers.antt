use Rattle.std.proofs.Common.{◌∙◌, List, map, ap}
use Rattle.pm_model.specs.declared.stage.Stage.{Stage}
use Rattle.pm_state.specs.Places.{Stacks}
use Rattle.pm_state.specs.Piles.{stages_of_pile}
use Rattle.pm_state.proofs.PileLemmas.{empty_seen}
use Rattle.pm_state.specs.declared.cell.Pile.{Pile}
use Rattle.pm_state.proofs.piles.Piles.empty.Goals as goal

pub returns : goal.returns
returns c =
    let shown : List (List Stage) → Stacks = λ l. record { stages = l; room = c.args.room } in
    let cells = c.in_ok-with_capacity.field-0 in
    ap (λ (l : List Pile). shown (map (stages_of_pile cells) l)) c.in_ok-empty_piles.ensures ∙ ap shown (empty_seen c.args.count cells)
