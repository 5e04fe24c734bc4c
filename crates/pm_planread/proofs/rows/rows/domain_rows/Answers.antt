-- By the names that the text gives.
use Rattle.std.proofs.Common.{◌∙◌, List, ap, map, sym}
use Rattle.pm_model.specs.declared.rows.DomainRow.{DomainRow}
use Rattle.pm_planread.specs.declared.tree.raw.RawDomain.{RawDomain}
use Rattle.pm_planread.specs.rows.Names.{names_in}
use Rattle.pm_planread.specs.declared.rows.index.Label.{Label}
use Rattle.pm_planread.proofs.rows.RowNames.{domain_row_names}
use Rattle.pm_planread.proofs.rows.rows.domain_rows.Goals as goal

pub named_as-requires : goal.named_as-requires
named_as-requires c =
    let names = c.args.names.now in
    ap (λ (rows : List DomainRow). map (λ (row : DomainRow). row.name) rows) c.in_ok-rows.ensures
    ∙ (domain_row_names (names_in names.domains) c.as_slice.result.now
    ∙ (ap (λ (rows : List RawDomain). map (λ (row : RawDomain). row.name) rows) c.as_slice.ensures ∙ (sym c.requires.names.domains ∙ ap (λ (labels : List Label). names_in labels) (sym c.labels.ensures))))
