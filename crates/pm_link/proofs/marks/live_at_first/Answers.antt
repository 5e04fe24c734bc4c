use Rattle.std.proofs.Common.{◌≡◌, ℕ, length, subst, arith}
use Rattle.pm_link.specs.Marked.{starts_live}
use Rattle.pm_link.proofs.MarkLemmas.{AreMarkedUpTo, marked_all}
use Rattle.pm_link.proofs.OrderLemmas.{below_rows, length_order}
use Rattle.pm_link.proofs.marks.live_at_first.Goals as goal

pub new-requires : goal.new-requires
new-requires c = omega (arith, c.requires.few, length_order c.args.rows.now c.args.order.now c.requires)

pub bounds-rows-order : goal.bounds-rows-order
bounds-rows-order c = below_rows c.args.rows.now c.args.order.now c.requires c.loop-rank.rank 0 c.loop-rank-test.true

pub returns : goal.returns
returns c =
    let all : c.loop-rank.rank ≡ length c.args.order.now = omega (arith, c.loop-rank.auto.rank-end, c.loop-rank-test.false) in
    marked_all (starts_live c.args.rows.now) c.args.order.now c.loop-rank.bits
    (subst (λ (n : ℕ). AreMarkedUpTo (starts_live c.args.rows.now) c.args.order.now n c.loop-rank.bits) all c.loop-rank.invariant)
