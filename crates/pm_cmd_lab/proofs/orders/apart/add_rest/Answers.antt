use Rattle.std.proofs.Common.{◌∙◌, subst, sym}
use Rattle.pm_islands.specs.Numbers.{island_in}
use Rattle.pm_cmd_lab.specs.orders.Apart.{IsAdded}
use Rattle.pm_cmd_lab.proofs.orders.ApartLemmas.{no_rest, rest_there}
use Rattle.pm_cmd_lab.proofs.orders.apart.add_rest.Goals as goal

pub returns-then-not-has_rest : goal.returns-then-not-has_rest
returns-then-not-has_rest c =
    no_rest c.args.bounds c.args.plan.now c.args.numbers.now c.args.all.now c.requires.numbers (sym c.has_rest.ensures ∙ c.if-not-has_rest.true) c.requires.islands

pub returns : goal.returns
returns c =
    rest_there c.args.bounds c.args.plan.now c.args.numbers.now c.args.all.now _ c.requires.numbers (sym c.has_rest.ensures ∙ c.if-not-has_rest.false) c.requires.islands
    (subst (λ n. IsAdded c.args.bounds c.args.plan.now (island_in c.args.numbers.now) n c.args.all.now c.add_island.new.all) c.count.ensures c.in_ok-add_island.ensures)
