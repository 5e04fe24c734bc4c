use Rattle.std.proofs.Common.{◌≡◌, ◌<◌, ℕ, Option, Some, None, subst}
use Rattle.std.specs.List.{filter_map}
use Rattle.pm_base.specs.declared.ActorId.{ActorId}
use Rattle.pm_model.specs.Serial.{least}
use Rattle.pm_state.specs.Seats.{actor_at}
use Rattle.pm_turns.specs.Seats.{AreMoments, Seating, round_of}
use Rattle.pm_turns.proofs.PlaceLemmas.{least_is, none_is, turn_later, turn_lost, turn_never}
use Rattle.pm_turns.proofs.rows.Rows.later.Goals as goal

-- what the least of all moments is to the round
abbrev LeastIs : Seating → ℕ → Type 0
LeastIs s m = (wake : ActorId → Option ℕ) → AreMoments wake s → least (filter_map wake (round_of s)) ≡ Some m

abbrev NoneIs : Seating → Type 0
NoneIs s = (wake : ActorId → Option ℕ) → AreMoments wake s → least (filter_map wake (round_of s)) ≡ None

pub returns-in-Some-seat_at-clause-turn : goal.returns-in-Some-seat_at-clause-turn
returns-in-Some-seat_at-clause-turn c = λ wake are.
    let held = c.in-Some.ensures.held in
    let m = c.in-Some.later in
    let low : LeastIs c.args.self.now m = subst (λ s. LeastIs s m) c.self.view_is (λ wake are. least_is wake (record { callers = c.self.inside.callers; devices = c.self.inside.devices; moments = c.self.inside.moments; seat = c.self.inside.seat; time = c.self.inside.time }) m held.0 c.self.invariant.begins are (subst (λ n. held.0 < n) c.self.invariant.each held.1) held.2 c.in-Some.ensures.least) in
    turn_later wake (round_of c.args.self.now) c.args.self.now.time m (actor_at c.args.self.now.callers c.args.self.now.devices c.in-Some-seat_at.seat) (c.requires.nobody wake are) (low wake are) (c.in-Some-seat_at.ensures.first wake are)

pub returns-in-None-seat_at-clause-turn : goal.returns-in-None-seat_at-clause-turn
returns-in-None-seat_at-clause-turn c = λ wake are.
    let held = c.in-Some.ensures.held in
    let m = c.in-Some.later in
    let low : LeastIs c.args.self.now m = subst (λ s. LeastIs s m) c.self.view_is (λ wake are. least_is wake (record { callers = c.self.inside.callers; devices = c.self.inside.devices; moments = c.self.inside.moments; seat = c.self.inside.seat; time = c.self.inside.time }) m held.0 c.self.invariant.begins are (subst (λ n. held.0 < n) c.self.invariant.each held.1) held.2 c.in-Some.ensures.least) in
    turn_lost wake (round_of c.args.self.now) c.args.self.now.time m (c.requires.nobody wake are) (low wake are) (c.in-None-seat_at.ensures.first wake are)

pub returns-in-None-clause-turn : goal.returns-in-None-clause-turn
returns-in-None-clause-turn c = λ wake are.
    let none : NoneIs c.args.self.now = subst NoneIs c.self.view_is (λ wake are. none_is wake (record { callers = c.self.inside.callers; devices = c.self.inside.devices; moments = c.self.inside.moments; seat = c.self.inside.seat; time = c.self.inside.time }) c.self.invariant.begins are c.in-None.ensures.missing) in
    turn_never wake (round_of c.args.self.now) c.args.self.now.time (c.requires.nobody wake are) (none wake are)
