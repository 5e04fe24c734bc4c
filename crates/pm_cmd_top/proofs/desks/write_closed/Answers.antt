use Rattle.pm_cmd_top.proofs.DeskLemmas.{closed_run}
use Rattle.pm_cmd_top.proofs.desks.write_closed.Goals as goal

pub write_finished-requires : goal.write_finished-requires
write_finished-requires g c =
    closed_run c.args.plan.now c.args.book.now c.lines.result.now c.requires.plan c.requires.finished c.lines.ensures.lines c.lines.ensures.lawful c.lines.ensures.of_plan
