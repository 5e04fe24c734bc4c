use Rattle.std.proofs.Common.{arith}
use Rattle.pm_link.proofs.OrderLemmas.{length_order, suppliers_of_own_rise}
use Rattle.pm_link.proofs.SearchLemmas.{first_above_is, first_free_is, first_held_is, first_taken_is, first_to_is}
use Rattle.pm_link.proofs.search.first_wanted.Goals as goal

pub first_marked-requires-clause-few : goal.first_marked-requires-clause-few
first_marked-requires-clause-few c = omega (arith, c.requires.ordered.few, c.requires.sized.live_held, length_order c.args.rows.now c.args.order.now c.requires.ordered)

pub first_marked-requires-in-Free-clause-few : goal.first_marked-requires-in-Free-clause-few
first_marked-requires-in-Free-clause-few c = omega (arith, c.requires.ordered.few, c.requires.sized.live_free, length_order c.args.rows.now c.args.order.now c.requires.ordered)

pub count_up_to-requires : goal.count_up_to-requires
count_up_to-requires c = suppliers_of_own_rise c.args.rows.now c.args.dev c.own-own.result.now c.own-own.ensures.links

pub first_marked-requires-in-Above-clause-few : goal.first_marked-requires-in-Above-clause-few
first_marked-requires-in-Above-clause-few c = omega (arith, c.requires.ordered.few, c.requires.sized.live, length_order c.args.rows.now c.args.order.now c.requires.ordered)

pub first_to-requires : goal.first_to-requires
first_to-requires c = suppliers_of_own_rise c.args.rows.now c.args.dev c.own-own.result.now c.own-own.ensures.links

pub first_marked-requires-in-Taken-clause-few : goal.first_marked-requires-in-Taken-clause-few
first_marked-requires-in-Taken-clause-few c = omega (arith, c.requires.ordered.few, c.requires.sized.held, length_order c.args.rows.now c.args.order.now c.requires.ordered)

pub returns-in-Held : goal.returns-in-Held
returns-in-Held c = λ held present are.
    rw c.in-Held.is (first_held_is c.args.rows.now c.args.order.now held present c.args.marks.now are c.args.dev _ c.own-own.result.now c.own-own.ensures c.first_marked.result (rw c.start-from.ensures at c.first_marked.ensures))

pub returns-in-Free : goal.returns-in-Free
returns-in-Free c = λ held present are.
    rw c.in-Free.is (first_free_is c.args.rows.now c.args.order.now held present c.args.marks.now are c.args.dev _ c.own-own.result.now c.own-own.ensures c.first_marked-in-Free.result (rw c.start-from.ensures at c.first_marked-in-Free.ensures))

pub returns-in-Above : goal.returns-in-Above
returns-in-Above c = λ held present are.
    rw c.in-Above.is (first_above_is c.args.rows.now c.args.order.now held present c.args.marks.now are c.args.dev _ c.own-own.result.now c.own-own.ensures c.in-Above.last c.count_up_to.result c.first_marked-in-Above.result c.count_up_to.ensures (rw c.start-from.ensures at c.first_marked-in-Above.ensures))

pub returns-in-To : goal.returns-in-To
returns-in-To c = λ held present are.
    rw c.in-To.is (first_to_is c.args.rows.now c.args.order.now held present c.args.marks.now are c.args.dev _ c.own-own.result.now c.own-own.ensures c.in-To.supplier c.first_to.result c.first_to.ensures)

pub returns-in-Taken : goal.returns-in-Taken
returns-in-Taken c = λ held present are.
    rw c.in-Taken.is (first_taken_is c.args.rows.now c.args.order.now held present c.args.marks.now are c.args.dev _ c.own-own.result.now c.own-own.ensures c.first_marked-in-Taken.result (rw c.start-from.ensures at c.first_marked-in-Taken.ensures))
