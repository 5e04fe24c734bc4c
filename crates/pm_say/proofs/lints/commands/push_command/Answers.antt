use Rattle.std.proofs.Common.{arith, take}
use Rattle.std.proofs.lemmas.Grind.{common_steps}
use Rattle.pm_laws.proofs.stacks.PlanLaw.{all_get}
use Rattle.pm_model.specs.IsPlan.{is_command}
use Rattle.pm_say.specs.lints.Warnings.{of_command}
use Rattle.pm_say.proofs.lints.commands.push_command.Goals as goal

pub lacks_autosuspend-lacks-requires-clause-lawful : goal.lacks_autosuspend-lacks-requires-clause-lawful
lacks_autosuspend-lacks-requires-clause-lawful c =
    all_get (is_command _) c.args.script.now c.args.place c.args.command.now c.requires.lawful c.requires.in_script

pub keeps_autosuspend-keeps-requires-clause-lawful : goal.keeps_autosuspend-keeps-requires-clause-lawful
keeps_autosuspend-keeps-requires-clause-lawful c =
    all_get (is_command _) c.args.script.now c.args.place c.args.command.now c.requires.lawful c.requires.in_script

pub returns : goal.returns
unfolding of_command
returns c =
    let dark = c.is_dark.ensures (take c.args.place c.args.script.now) c.requires.lit in
    grind (arith, common_steps)
