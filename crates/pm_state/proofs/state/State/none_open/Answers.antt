use Rattle.std.proofs.Common.{◌∙◌, ◌&&◌, Bool, ap}
use Rattle.std.specs.List.{list_all}
use Rattle.pm_model.specs.Lawful.{is_empty_place}
use Rattle.pm_state.specs.Standing.{Standing}
use Rattle.pm_state.proofs.SeatLemmas.{all_three}
use Rattle.pm_state.proofs.state.State.none_open.Goals as goal

pub returns : goal.returns
returns c =
    let empty : Standing → Bool = λ s. list_all is_empty_place s.world.caller_places && list_all is_empty_place s.world.work_places && list_all is_empty_place s.world.timer_places in
    c.all_empty.ensures ∙ all_three is_empty_place c.self.inside.callers c.self.inside.devices c.self.inside.places.stages ∙ ap empty c.self.view_is
