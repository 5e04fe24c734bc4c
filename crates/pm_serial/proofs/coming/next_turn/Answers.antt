use Rattle.pm_state.specs.Seats.{actor_in}
use Rattle.pm_serial.proofs.ComingLemmas.{below_seats, due_of, early, fits, in_time, is_coming, rests, some_stage}
use Rattle.pm_serial.proofs.coming.next_turn.Goals as goal

pub returns-in_err-seat-clause-none : goal.returns-in_err-seat-clause-none
returns-in_err-seat-clause-none c =
    let k = c.requires.after in
    rw c.from_residual.ensures (rests c.args.plan.now c.args._came c.args.state.now c.args.turns.now k (c.in_err-seat.ensures.turn c.args.plan.now k.list k.turns_are))

pub move_of-at-requires-clause-stands : goal.move_of-at-requires-clause-stands
move_of-at-requires-clause-stands c =
    let k = c.requires.after in
    let plan = c.args.plan.now in
    let due = due_of plan c.args._came c.args.state.now c.args.turns.now c.in_ok-seat.seat c.in_ok-seat.time k c.due_moments.ensures.due (c.in_ok-seat.ensures.turn plan k.list k.turns_are)
    c.in_ok-seat.ensures.below in
    some_stage plan c.args._came c.args.state.now c.args.turns.now (actor_in plan c.in_ok-seat.seat, c.in_ok-seat.time) k due

pub move_of-at-requires-clause-well : goal.move_of-at-requires-clause-well
move_of-at-requires-clause-well c =
    let k = c.requires.after in
    c.all_stand_well.ensures c.args.plan.now k.list c.args.state.now.world k.lawful (in_time c.args.plan.now k.list k.in_time) k.world_is (actor_in c.args.plan.now c.in_ok-seat.seat)

pub move_of-at-requires-clause-in_time : goal.move_of-at-requires-clause-in_time
move_of-at-requires-clause-in_time c =
    let k = c.requires.after in
    let plan = c.args.plan.now in
    let due = due_of plan c.args._came c.args.state.now c.args.turns.now c.in_ok-seat.seat c.in_ok-seat.time k c.due_moments.ensures.due (c.in_ok-seat.ensures.turn plan k.list k.turns_are)
    c.in_ok-seat.ensures.below in
    early plan k.list (actor_in plan c.in_ok-seat.seat, c.in_ok-seat.time) due k.in_time (fits plan c.args._came c.args.state.now c.args.turns.now k c.requires.room)

pub returns-clause-some : goal.returns-clause-some
returns-clause-some c =
    let k = c.requires.after in
    let plan = c.args.plan.now in
    let due = due_of plan c.args._came c.args.state.now c.args.turns.now c.in_ok-seat.seat c.in_ok-seat.time k c.due_moments.ensures.due (c.in_ok-seat.ensures.turn plan k.list k.turns_are)
    c.in_ok-seat.ensures.below in
    is_coming plan c.args._came c.args.state.now c.args.turns.now (record { seat = c.in_ok-seat.seat; time = c.in_ok-seat.time; at = c.move_of-at.result }) c.move_of-at.new.out k c.requires.room (below_seats plan c.args.turns.now c.in_ok-seat.seat k.turns_are.of_plan c.in_ok-seat.ensures.below) due
    c.move_of-at.ensures
