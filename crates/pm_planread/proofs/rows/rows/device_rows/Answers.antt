-- By the names that the text gives.
use Rattle.std.proofs.Common.{◌∙◌, List, ap, map, sym}
use Rattle.pm_model.specs.declared.rows.DeviceRow.{DeviceRow}
use Rattle.pm_planread.specs.declared.tree.raw.RawDevice.{RawDevice}
use Rattle.pm_planread.specs.rows.Names.{names_in}
use Rattle.pm_planread.specs.declared.rows.index.Label.{Label}
use Rattle.pm_planread.proofs.rows.RowNames.{device_row_names}
use Rattle.pm_planread.proofs.rows.rows.device_rows.Goals as goal

pub named_as-requires : goal.named_as-requires
named_as-requires c =
    let names = c.args.names.now in
    ap (λ (rows : List DeviceRow). map (λ (row : DeviceRow). row.name) rows) c.in_ok-rows.ensures
    ∙ (device_row_names (names_in names.domains) (names_in names.devices) c.as_slice-rows.result.now
    ∙ (ap (λ (rows : List RawDevice). map (λ (row : RawDevice). row.name) rows) c.as_slice-rows.ensures ∙ (sym c.requires.names.devices ∙ ap (λ (labels : List Label). names_in labels) (sym c.labels.ensures))))
