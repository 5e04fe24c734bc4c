-- By the newest of the lines, if there is one.
use Rattle.std.proofs.Common.{◌∙◌, ap, arith, reverse, subst, sym}
use Rattle.pm_state.specs.Seats.{actor_at}
use Rattle.pm_turns.specs.Seats.{IsSeated, place_of, seat_after}
use Rattle.pm_turns.specs.Turning.{Index}
use Rattle.pm_turns.proofs.QueueLemmas.{at_place}
use Rattle.pm_turns.proofs.AfterLemmas.{newest_seat, newest_seated, newest_time}
use Rattle.pm_turns.proofs.turns.Turns.note_last.Goals as goal

pub place-seat-requires : goal.place-seat-requires
place-seat-requires c =
    subst (λ (x : Index). IsSeated x.rows c.in-Some.line.now.actor) (sym c.self.view_is)
    (newest_seated c.args.plan.now (reverse c.args.lines.now) c.in-Some.line.now c.args.self.now.rows c.in-Some.ensures c.requires.seats c.requires.lawful)

pub write_down-requires-clause-in_time : goal.write_down-requires-clause-in_time
write_down-requires-clause-in_time c = omega (arith, c.requires.in_time, newest_time (reverse c.args.lines.now) c.in-Some.line.now c.in-Some.ensures)

pub returns-clause-seats : goal.returns-clause-seats
returns-clause-seats c =
    record { callers = ap (λ (x : Index). x.rows.callers) c.write_down.ensures ∙ c.requires.seats.callers; devices = ap (λ (x : Index). x.rows.devices) c.write_down.ensures ∙ c.requires.seats.devices }

pub returns-clause-seat : goal.returns-clause-seat
returns-clause-seat c =
    let s = c.args.self.now.rows in
    let seated = newest_seated c.args.plan.now (reverse c.args.lines.now) c.in-Some.line.now s c.in-Some.ensures c.requires.seats c.requires.lawful in
    let here = c.place-seat.ensures.is ∙ ap (λ (x : Index). place_of x.rows c.in-Some.line.now.actor) c.self.view_is in
    let sat = ap (seat_after s) (ap (actor_at s.callers s.devices) here ∙ at_place s c.in-Some.line.now.actor seated) in
    ap (λ (x : Index). x.rows.seat) c.write_down.ensures ∙ sat ∙ newest_seat c.args.plan.now (reverse c.args.lines.now) c.in-Some.line.now c.args.self.now.rows c.in-Some.ensures c.requires.seats.callers

pub returns-clause-time : goal.returns-clause-time
returns-clause-time c = ap (λ (x : Index). x.rows.time) c.write_down.ensures ∙ newest_time (reverse c.args.lines.now) c.in-Some.line.now c.in-Some.ensures
