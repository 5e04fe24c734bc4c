use Rattle.std.proofs.Common.{◌∙◌, List, None, ap}
use Rattle.pm_model.specs.declared.stage.Stage.{Stage}
use Rattle.pm_state.specs.Places.{Stacks, all_over}
use Rattle.std.proofs.Common.{Option, replicate}
use Rattle.pm_state.proofs.StackLemmas.{empty_over}
use Rattle.pm_state.proofs.places.Places.empty.Goals as goal

pub returns : goal.returns
returns c =
    ap (λ (l : List (Option Stage)). record { stages = all_over l c.in_ok-empty.field-0.stages; room = c.in_ok-empty.field-0.room }) c.in_ok-no_tops.ensures
    ∙ ap (λ (s : Stacks). record s { stages = all_over (replicate c.args.actors None) s.stages }) c.in_ok-empty.ensures
    ∙ ap (λ (l : List (List Stage)). record { stages = l; room = c.args.room }) (empty_over c.args.actors)
