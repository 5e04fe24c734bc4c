use Rattle.std.proofs.Common.{◌∙◌, ap, refl, sym, length}
use Rattle.pm_state.specs.Standing.{Standing}
use Rattle.pm_driver_search.specs.declared.run.DriverRun.{DriverRun}
use Rattle.pm_driver_search.specs.Poses.{world_by}
use Rattle.pm_driver_search.proofs.StepLemmas.{room_for, same_place, still_run, wrote}
use Rattle.pm_driver_search.proofs.step.write.Goals as goal

pub go-requires-clause-room : goal.go-requires-clause-room
go-requires-clause-room c =
    let run = c.args.run.now in
    let w = world_by c.args.node.now c.args.pose.now in
    room_for run.state w c.args.line.now.actor c.in-Write.next c.stages_at-stages.result run.room c.requires.stands (c.stages_at-stages.ensures ∙ ap length (same_place c.args.node.now c.args.pose.now c.args.line.now.actor)) c.requires.run.room (c.if-not-fits.ensures refl)

pub returns-clause-run : goal.returns-clause-run
returns-clause-run c =
    let new : DriverRun = record { state = c.go.new.self; room = c.args.run.now.room } in
    still_run c.args.plan.now c.args.run.now new c.in-Write.change (record { time = c.args.line.now.time; actor = c.args.line.now.actor; event = c.in-Write.event }) c.in-Write.next c.requires.run c.go.ensures refl

pub returns-clause-stands : goal.returns-clause-stands
returns-clause-stands c =
    let w = c.args.run.now.state.world in
    ap (λ (s : Standing). s.world) c.go.ensures
    ∙ wrote c.args.plan.now w c.args.line.now c.args._last c.requires.may c.in-Some.stage c.in-Write.event c.in-Write.change c.in-Write.next c.next.result (sym c.stage_at.ensures ∙ c.in-Some.is) c.next.ensures c.in-Write.is
