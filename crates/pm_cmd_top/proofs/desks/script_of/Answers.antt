use Rattle.std.proofs.Common.{◌≡◌, List, length, rules, subst, sym}
use Rattle.std.specs.List.{AllPass}
use Rattle.pm_model.specs.declared.event.Command.{Command}
use Rattle.pm_model.specs.IsPlan.{is_command}
use Rattle.pm_cmd_top.proofs.DeskLemmas.{script_lawful}
use Rattle.pm_cmd_top.proofs.desks.script_of.Goals as goal

pub returns-clause-of_plan : goal.returns-clause-of_plan
returns-clause-of_plan c =
    let devices = length c.args.desk.now.plan.devices in
    let same : length c.args.plan.now.devices ≡ devices = search rules in
    subst (λ (script : List Command). AllPass (is_command devices) script) (sym c.as_slice.ensures)
    (script_lawful c.args.plan.now c.args.caller devices c.in_ok-row.row.now (sym c.in_ok-row.ensures) same)
