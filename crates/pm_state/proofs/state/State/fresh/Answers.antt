use Rattle.std.proofs.Common.{◌∙◌, List, ap, map}
use Rattle.pm_model.specs.declared.rows.CallerRow.{CallerRow}
use Rattle.pm_state.proofs.PlaceLemmas.{fresh_world}
use Rattle.pm_state.proofs.state.State.fresh.Goals as goal

pub returns-clause-start : goal.returns-clause-start
returns-clause-start c =
    fresh_world c.args.plan.now c.in_ok-fresh.field-0.views c.in_ok-empty.field-0 c.in_ok-none_called.field-0.items c.len-callers.result c.len-devices.result c.in_ok-room.room c.in_ok-fresh.ensures.start
    c.len-callers.ensures c.len-devices.ensures c.in_ok-empty.ensures (c.in_ok-none_called.ensures ∙ ap (λ (rows : List CallerRow). map (λ row. 0) rows) c.as_slice.ensures)
