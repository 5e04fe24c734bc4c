use Rattle.std.proofs.Common.{◌∙◌, ap, sym}
use Rattle.pm_model.specs.declared.event.Line.{Line}
use Rattle.pm_state.specs.Seats.{actor_at}
use Rattle.pm_turns.specs.Seats.{Seating, seat_after}
use Rattle.pm_turns.specs.Turning.{Index}
use Rattle.pm_turns.proofs.IndexLemmas.{noted_by}
use Rattle.pm_turns.proofs.QueueLemmas.{at_seat}
use Rattle.pm_turns.proofs.turns.Turns.note.Goals as goal

pub returns : goal.returns
returns c =
    let s = c.args.self.now.rows in
    let sits = at_seat s c.args.seat c.requires.below in
    let line : Line = record { time = c.args.time; actor = actor_at s.callers s.devices c.args.seat; event = c.args.event.now } in
    let x2 = c.join_in.new.self in
    let after : Seating → Index = λ of. record x2 { rows = record x2.rows { seat = seat_after x2.rows (actor_at of.callers of.devices c.args.seat); time = c.args.time } } in
    let written = c.write_down.ensures ∙ ap after (c.join_in.ensures.rows ∙ c.leave_at.ensures.rows) in
    noted_by c.args.self.now c.leave_at.new.self c.join_in.new.self c.write_down.new.self line c.args.seat (sym sits.1) sits.0 c.leave_at.ensures.rows c.join_in.ensures.rows written c.leave_at.ensures.others
    c.join_in.ensures.others c.join_in.ensures.joined
