use Rattle.std.proofs.Common.{rules}
use Rattle.pm_say.proofs.lints.PlanLemmas.{dark_at}
use Rattle.pm_say.proofs.lints.commands.is_dark.Goals as goal

pub returns-in-Some : goal.returns-in-Some
returns-in-Some c =
    λ before lit. dark_at c.args.plan.now before c.args.on.now c.args.command.now c.in-Some.domain c.has_mark.result lit
    (search rules) (search rules) c.has_mark.ensures
