-- By the lines after which the run stands.
use Rattle.std.proofs.Common.{◌<◌, ◌^◌, sym, subst}
use Rattle.pm_book.specs.Replayed.{IsAfter, Replayed}
use Rattle.pm_book.specs.Sometime.{Writes}
use Rattle.pm_book.proofs.Moves.{may_come}
use Rattle.pm_book.proofs.ReplayLemmas.{actor_of, goes_on, never_else, time_of, write_is}
use Rattle.pm_book.proofs.replay.Replay.go.Goals as goal

pub put_move-requires-clause-stands : goal.put_move-requires-clause-stands
put_move-requires-clause-stands c =
    let h = c.requires.some.0 in
    let b = subst (λ (r : Replayed). IsAfter c.args.plan.now r h) (sym c.self.view_is) c.requires.some.2 in
    c.all_stand_well.ensures c.args.plan.now h c.self.inside.state.world c.requires.some.1.2 (subst (λ n. n < 2 ^ 63) b.last_is b.in_time) b.world_is c.args.line.now.actor

pub put_move-requires-clause-in_range : goal.put_move-requires-clause-in_range
put_move-requires-clause-in_range c = actor_of c.args.plan.now c.args.line.now c.requires.of_plan

pub put_move-requires-clause-in_time : goal.put_move-requires-clause-in_time
put_move-requires-clause-in_time c = time_of c.args.plan.now c.args.line.now c.requires.of_plan

pub put_move-requires-clause-may : goal.put_move-requires-clause-may
put_move-requires-clause-may c =
    let h = c.requires.some.0 in
    let b = subst (λ (r : Replayed). IsAfter c.args.plan.now r h) (sym c.self.view_is) c.requires.some.2 in
    may_come c.args.plan.now h c.self.inside.state.world c.self.inside.last c.args.line.now b.world_is b.last_is c.requires.some.1.0

pub unreachable-requires : goal.unreachable-requires
unreachable-requires c = never_else c.args.plan.now c.self.inside.state.world c.self.inside.last c.args.line.now c.put_move.new.out c.put_move.ensures c.in_default.not-Write

pub go-requires-clause-in_range : goal.go-requires-clause-in_range
go-requires-clause-in_range c = actor_of c.args.plan.now c.args.line.now c.requires.of_plan

pub go-requires-clause-takes : goal.go-requires-clause-takes
go-requires-clause-takes c =
    let h = c.requires.some.0 in
    let b = subst (λ (r : Replayed). IsAfter c.args.plan.now r h) (sym c.self.view_is) c.requires.some.2 in
    c.each_line_is_taken.ensures c.args.plan.now h c.self.inside.state.world c.args.line.now c.in-Write.change c.in-Write.next c.requires.some.1.2 b.world_is
    (subst (λ n. Writes c.args.plan.now c.self.inside.state.world n c.args.line.now c.in-Write.change c.in-Write.next) b.last_is (write_is c.args.plan.now c.self.inside.state.world c.self.inside.last c.args.line.now c.put_move.new.out _ c.in-Write.change c.in-Write.next c.in-Write.is c.put_move.ensures))

pub go-requires-clause-room : goal.go-requires-clause-room
go-requires-clause-room c =
    let h = c.requires.some.0 in
    let b = subst (λ (r : Replayed). IsAfter c.args.plan.now r h) (sym c.self.view_is) c.requires.some.2 in
    c.each_line_fits.ensures c.args.plan.now h c.self.inside.state c.args.line.now c.in-Write.change c.in-Write.next c.requires.some.1.2 c.requires.some.1.1 b.world_is b.is_of
    (actor_of c.args.plan.now c.args.line.now c.requires.of_plan)
    (subst (λ n. Writes c.args.plan.now c.self.inside.state.world n c.args.line.now c.in-Write.change c.in-Write.next) b.last_is (write_is c.args.plan.now c.self.inside.state.world c.self.inside.last c.args.line.now c.put_move.new.out _ c.in-Write.change c.in-Write.next c.in-Write.is c.put_move.ensures))

pub go-requires-clause-in_time : goal.go-requires-clause-in_time
go-requires-clause-in_time c = time_of c.args.plan.now c.args.line.now c.requires.of_plan

pub returns : goal.returns
returns c = λ h lawful after.
    goes_on c.args.plan.now h c.args.line.now _ c.in-Write.change c.in-Write.next c.go.new.self lawful (time_of c.args.plan.now c.args.line.now c.requires.of_plan)
    (subst (λ (r : Replayed). IsAfter c.args.plan.now r h) (sym c.self.view_is) after) (write_is c.args.plan.now c.self.inside.state.world c.self.inside.last c.args.line.now c.put_move.new.out _ c.in-Write.change c.in-Write.next c.in-Write.is c.put_move.ensures) c.go.ensures
