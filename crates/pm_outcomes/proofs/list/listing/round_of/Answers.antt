use Rattle.std.proofs.Common.{nat_lt, arith, rules, sym}
use Rattle.std.proofs.lemmas.List.Sums.{position_or_len_is}
use Rattle.pm_outcomes.proofs.list.listing.round_of.Goals as goal

pub returns-then-place-rounds : goal.returns-then-place-rounds
returns-then-place-rounds c = sym (position_or_len_is (nat_lt c.args.place) c.args.rounds.now c.loop-round.round 0 (omega arith) c.loop-round.invariant (λ within. search rules))

pub returns : goal.returns
returns c =
    let at = position_or_len_is (nat_lt c.args.place) c.args.rounds.now c.loop-round.round 0 (omega arith) c.loop-round.invariant (λ within. absurd (omega arith)) in
    omega (arith, at)
