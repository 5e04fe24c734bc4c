use Rattle.std.proofs.Common.{◌∷◌, Option, subst, sym}
use Rattle.pm_base.specs.declared.DevId.{DevId}
use Rattle.pm_model.specs.declared.event.Line.{Line}
use Rattle.pm_state.specs.Seats.{actor_in}
use Rattle.pm_state.specs.Standing.{AllStandWell, IsOf, Standing, after_write}
use Rattle.pm_turns.specs.Turning.{Leads}
use Rattle.pm_book.proofs.Moves.{stays_of}
use Rattle.pm_book.proofs.PageLemmas.{leads}
use Rattle.pm_serial.proofs.ComingLemmas.{a_write, due_coming, early, fits, goes, sits_in, step_of}
use Rattle.pm_serial.proofs.coming.write_line.Goals as goal

pub unreachable-requires : goal.unreachable-requires
unreachable-requires c = a_write c.args.plan.now c.args._came c.args.turn.now c.args.next.now c.requires.coming c.in_default.not-Write

pub go_at-requires-clause-takes : goal.go_at-requires-clause-takes
go_at-requires-clause-takes c =
    let k = c.requires.after in
    let plan = c.args.plan.now in
    let turn = c.args.turn.now in
    let line : Line = record { time = turn.time; actor = actor_in plan turn.seat; event = c.in-Write.event } in
    let step = step_of plan c.args._came c.args.state.now c.args.turns.now turn c.args.next.now c.in-Write.event c.in-Write.change c.in-Write.then k c.due_moments.ensures.due c.requires.coming c.in-Write.is in
    c.each_line_is_taken.ensures plan k.list c.args.state.now.world line c.in-Write.change c.in-Write.then k.lawful k.world_is step.writes

pub go_at-requires-clause-room : goal.go_at-requires-clause-room
go_at-requires-clause-room c =
    let k = c.requires.after in
    let plan = c.args.plan.now in
    let turn = c.args.turn.now in
    let line : Line = record { time = turn.time; actor = actor_in plan turn.seat; event = c.in-Write.event } in
    let step = step_of plan c.args._came c.args.state.now c.args.turns.now turn c.args.next.now c.in-Write.event c.in-Write.change c.in-Write.then k c.due_moments.ensures.due c.requires.coming c.in-Write.is in
    c.each_line_fits.ensures plan k.list c.args.state.now line c.in-Write.change c.in-Write.then k.lawful
    (fits plan c.args._came c.args.state.now c.args.turns.now k c.requires.coming.room) k.world_is k.is_of (sits_in plan turn.seat c.requires.coming.in_range) step.writes

pub go_at-requires-clause-in_time : goal.go_at-requires-clause-in_time
go_at-requires-clause-in_time c =
    let k = c.requires.after in
    let plan = c.args.plan.now in
    let turn = c.args.turn.now in
    let due = due_coming plan c.args._came c.args.state.now c.args.turns.now turn c.args.next.now k c.due_moments.ensures.due c.requires.coming in
    early plan k.list (actor_in plan turn.seat, turn.time) due k.in_time (fits plan c.args._came c.args.state.now c.args.turns.now k c.requires.coming.room)

pub go_at-requires-clause-in_range : goal.go_at-requires-clause-in_range
go_at-requires-clause-in_range c = c.requires.coming.in_range

pub settle_at-requires-clause-is_of : goal.settle_at-requires-clause-is_of
settle_at-requires-clause-is_of c =
    let plan = c.args.plan.now in
    let turn = c.args.turn.now in
    let line : Line = record { time = turn.time; actor = actor_in plan turn.seat; event = c.in-Write.event } in
    subst (IsOf plan) (sym c.go_at.ensures) (stays_of plan c.args.state.now c.in-Write.change line c.in-Write.then c.requires.after.is_of)

pub settle_at-requires-clause-stand : goal.settle_at-requires-clause-stand
settle_at-requires-clause-stand c =
    let k = c.requires.after in
    let plan = c.args.plan.now in
    let turn = c.args.turn.now in
    let line : Line = record { time = turn.time; actor = actor_in plan turn.seat; event = c.in-Write.event } in
    let step = step_of plan c.args._came c.args.state.now c.args.turns.now turn c.args.next.now c.in-Write.event c.in-Write.change c.in-Write.then k c.due_moments.ensures.due c.requires.coming c.in-Write.is in
    let led = leads plan k.list c.args.state.now.world c.requires.coming.stage line c.in-Write.change c.in-Write.then k.lawful k.world_is step.may in
    subst (λ (s : Standing). AllStandWell plan s.world) (sym c.go_at.ensures) (c.all_stand_well.ensures plan (line ∷ k.list) _ led.lawful step.may.may.in_time led.world_is)

pub settle_at-requires-clause-in_time : goal.settle_at-requires-clause-in_time
settle_at-requires-clause-in_time c =
    let k = c.requires.after in
    let plan = c.args.plan.now in
    let turn = c.args.turn.now in
    let due = due_coming plan c.args._came c.args.state.now c.args.turns.now turn c.args.next.now k c.due_moments.ensures.due c.requires.coming in
    early plan k.list (actor_in plan turn.seat, turn.time) due k.in_time (fits plan c.args._came c.args.state.now c.args.turns.now k c.requires.coming.room)

pub returns : goal.returns
returns c =
    let k = c.requires.after in
    let plan = c.args.plan.now in
    let turn = c.args.turn.now in
    let due = due_coming plan c.args._came c.args.state.now c.args.turns.now turn c.args.next.now k c.due_moments.ensures.due c.requires.coming in
    let line : Line = record { time = turn.time; actor = actor_in plan turn.seat; event = c.in-Write.event } in
    let step = step_of plan c.args._came c.args.state.now c.args.turns.now turn c.args.next.now c.in-Write.event c.in-Write.change c.in-Write.then k c.due_moments.ensures.due c.requires.coming c.in-Write.is in
    let led = leads plan k.list c.args.state.now.world c.requires.coming.stage line c.in-Write.change c.in-Write.then k.lawful k.world_is step.may in
    let here = subst (λ (o : Option DevId). Leads plan k.list line o c.in-Write.change (after_write plan c.args.state.now.world c.in-Write.change line c.in-Write.then)) (sym c.requires.coming.at_is) led in
    let index = c.settle_at.ensures k.list (subst (λ (s : Standing). Leads plan k.list line turn.at c.in-Write.change s.world) (sym c.go_at.ensures) here) k.turns_are in
    (goes plan c.args._came c.args.state.now c.go_at.new.self c.args.turns.now c.settle_at.new.self (actor_in plan turn.seat, turn.time) c.requires.coming.stage c.in-Write.event c.in-Write.change c.in-Write.then k c.requires.coming.room due
    step.stands step.gives c.go_at.ensures index).0
