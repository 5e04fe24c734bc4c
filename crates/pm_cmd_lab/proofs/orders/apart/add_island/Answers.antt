-- What was found of the island's part.
use Rattle.std.proofs.Common.{◌∙◌, ◌+◌, ◌++◌, ap}
use Rattle.pm_outcomes.specs.islands.Homes.{at_home}
use Rattle.pm_islands.specs.Numbers.{island_in}
use Rattle.pm_cmd_lab.specs.orders.Orders.{both}
use Rattle.pm_cmd_lab.proofs.orders.ApartLemmas.{added}
use Rattle.pm_outcomes.specs.text.Reached.{reach_of}
use Rattle.pm_cmd_lab.proofs.orders.apart.add_island.Goals as goal

pub returns : goal.returns
returns c =
    let island = island_in c.args.numbers.now in
    let all = c.in_ok-outcomes.outcomes in
    let old = c.args.all.now in
    added c.args.bounds c.args.plan.now c.in_ok-part.part island c.args.island all old _ c.in_ok-outcomes.ensures.found c.in_ok-part.ensures
    (c.in_ok-push_own.ensures ∙ ap (λ l. old.observations.items ++ at_home island c.args.island l) c.as_slice-observations.ensures.value)
    (c.both-all.ensures ∙ ap (both old.reach) (c.reach_of-reach.ensures ∙ ap (reach_of all.found.ended) (c.len.ensures ∙ all.found.rounds.ok.0)))
    (c.in_ok-all.ensures ∙ ap (λ n. old.snapshots + n) c.len-2.ensures.len)
