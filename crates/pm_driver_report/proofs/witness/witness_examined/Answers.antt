-- The list is shorter.
use Rattle.std.proofs.Common.{◌≡◌, ◌∙◌, ◌-◌, List, None, ap, length, slice_get, subst, sym}
use Rattle.std.specs.Prelude.{option_map}
use Rattle.pm_driver_report.specs.declared.lines.DriverLine.{DriverLine}
use Rattle.pm_driver_report.proofs.WitnessedLemmas.{are_fewer}
use Rattle.pm_driver_report.proofs.witness.witness_examined.Goals as goal

pub returns : goal.returns
returns c =
    let value = c.as_slice-told.ensures.value in
    let lacks = subst (λ (l : List DriverLine). slice_get l (c.args.number - 1) ≡ None) value (sym c.finding_numbered.ensures ∙ ap (option_map (λ line. line.now)) c.in-None.is) in
    are_fewer c.args.driver.now c.args.examined.now c.args.bounds c.args.notes c.in_ok-search.search c.args.number (length c.as_slice-told.result.now) c.requires.of_driver c.in_ok-search.ensures lacks (ap length value)
