-- The lines of the schedule, and their plan.
use Rattle.std.proofs.Common.{List, subst}
use Rattle.pm_driver_report.specs.Witnessed.{IsWitnessOf}
use Rattle.pm_driver_report.specs.declared.passes.DriverPass.{DriverPass}
use Rattle.pm_driver_report.proofs.WitnessedLemmas.{is_too_long, shows_line}
use Rattle.pm_driver_report.proofs.witness.witness_line.Goals as goal

pub returns-in_default : goal.returns-in_default
returns-in_default c = is_too_long c.args.driver.now c.args.examined.now c.args.bounds c.args.notes c.args.search.now c.args.number c.args.line.now c.requires.of_driver c.requires.searched c.requires.told

pub returns-in-Some-2 : goal.returns-in-Some-2
returns-in-Some-2 c =
    let E = c.args.examined.now in
    let told = c.args.line.now in
    let lines = c.in-Some.lines.items in
    let shown = subst (λ (l : List DriverPass). IsWitnessOf E l told lines) c.as_slice-passes.ensures.value (rw c.in-Some.is at c.in_ok-lines.ensures) in
    shows_line c.args.driver.now E c.args.bounds c.args.notes c.args.search.now c.args.number told lines c.in-Some-2.run' c.collected_schedules_are_lawful.ensures.lawful c.requires.of_driver c.requires.searched c.requires.told shown (rw c.in-Some-2.is at c.in_ok-run.ensures)

pub returns-in-None : goal.returns-in-None
returns-in-None c = is_too_long c.args.driver.now c.args.examined.now c.args.bounds c.args.notes c.args.search.now c.args.number c.args.line.now c.requires.of_driver c.requires.searched c.requires.told
