use Rattle.std.proofs.Common.{ℕ, None, Some, sym, ◌∙◌}
use Rattle.std.proofs.lemmas.List.{append-nil}
use Rattle.pm_explore.specs.successors.Lines.{line_for}
use Rattle.pm_explore.specs.successors.Standing.{snapshot_at}
use Rattle.pm_explore.proofs.successors.LoopLemmas.{put_more}
use Rattle.pm_explore.proofs.successors.lines.push_at_stage.Goals.{in-Some+in_ok-push, in_default}
use Rattle.pm_explore.proofs.successors.lines.push_at_stage.Goals as goal

pub loop-time-preserved : goal.loop-time-preserved
loop-time-preserved c =
    let f = λ (t : ℕ). line_for c.args.pace c.args.plan.now (snapshot_at c.args.state.now.world c.args.last) c.args.spends t c.args.actor in
    elim c.match-line_for.branch [
      | in-Some+in_ok-push w ↦
          let told =
          put_more f c.args.times.now c.loop-time.time-index _ c.args.out.now.items c.loop-time.out.items w.push.new.self.items (Some w.in-Some.line) c.loop-time-test.true c.loop-time.invariant
          (sym w.in-Some.is ∙ c.line_for.ensures) w.in_ok-push.ensures.items
          in
          rw w.out-is told
      | in_default w ↦
          let told =
          put_more f c.args.times.now c.loop-time.time-index _ c.args.out.now.items c.loop-time.out.items c.loop-time.out.items None c.loop-time-test.true c.loop-time.invariant
          (sym w.in_default.is ∙ c.line_for.ensures) (sym (append-nil c.loop-time.out.items))
          in
          rw w.out-is told
    ]
