use Rattle.std.proofs.Common.{◌+◌, ◌≤◌, subst}
use Rattle.pm_turns.proofs.PlaceLemmas.{below_first, first_is}
use Rattle.pm_turns.proofs.rows.Rows.seat_at.Goals as goal

pub returns-clause-first : goal.returns-clause-first
returns-clause-first c = λ wake are.
    let begins = subst (λ s. s.seat ≤ s.callers + s.devices) c.self.view_is c.self.invariant.begins in
    first_is wake c.args.self.now c.args.moment c.first_place.result begins are c.first_place.ensures.found c.first_place.ensures.missing

pub returns-clause-below : goal.returns-clause-below
returns-clause-below c = below_first c.args.self.now c.args.moment c.first_place.result c.first_place.ensures.found
