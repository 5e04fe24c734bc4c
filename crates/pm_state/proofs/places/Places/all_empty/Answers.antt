use Rattle.std.proofs.Common.{◌∙◌, ap, sym}
use Rattle.pm_state.specs.Places.{Stacks}
use Rattle.std.specs.List.{list_all}
use Rattle.pm_model.specs.Lawful.{is_empty_place}
use Rattle.pm_state.specs.Places.{are_none}
use Rattle.pm_state.proofs.StackLemmas.{empty_none}
use Rattle.pm_state.proofs.places.Places.all_empty.Goals as goal

pub returns : goal.returns
returns c =
    c.are_none.ensures ∙ ap are_none c.deref.ensures.value ∙ sym (empty_none c.self.inside.tops.items c.self.inside.below.stages c.self.invariant.each) ∙ ap (λ (s : Stacks). list_all is_empty_place s.stages) c.self.view_is
