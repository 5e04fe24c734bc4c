use Rattle.pm_cmd_top.proofs.ComesLemmas.{island_comes}
use Rattle.pm_cmd_top.proofs.lists.finish_island.Goals as goal

pub returns : goal.returns
returns c =
    let done = c.finished.ensures in
    island_comes c.args.plan.now c.in_ok-part.part c.args.island c.args.book c.finished.result c.in_ok-part.ensures done.plan done.lawful done.finished done.in_time done.comes done.cut
