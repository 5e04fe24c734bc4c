use Rattle.std.proofs.Common.{◌∙◌, arith}
use Rattle.pm_model.specs.Text.{names_of}
use Rattle.pm_cmd_ends.proofs.OutputLemmas.{behind_err}
use Rattle.pm_cmd_ends.proofs.Writing.{under_way_first, under_way_more, under_way_part}
use Rattle.pm_cmd_top.proofs.WriteLemmas.{items_more}
use Rattle.pm_why.specs.Texts.{reason_line}
use Rattle.pm_cmd_top.proofs.why.write_each.Goals as goal

pub loop-reason-init : goal.loop-reason-init
loop-reason-init g c = record { way = under_way_first _ _; faults = omega arith }

pub returns-in_err-write_whole-clause-prefix : goal.returns-in_err-write_whole-clause-prefix
returns-in_err-write_whole-clause-prefix g c =
    let taken = g.O.Sink.taken in
    behind_err c.from_residual.result
    (under_way_part (taken c.args.out.now) (taken c.loop-reason.out) (taken c.write_whole.new.sink) _ _ c.as_slice.result.now _ c.loop-reason.invariant.way
    (items_more (reason_line (names_of c.args.plan.now)) c.args.reasons.now c.loop-reason.reason-index _ c.as_slice.result.now c.loop-reason-test.true (c.as_slice.ensures ∙ c.reason_text.ensures))
    c.in_err-write_whole.ensures.prefix)

pub loop-reason-preserved : goal.loop-reason-preserved
loop-reason-preserved g c =
    let taken = g.O.Sink.taken in
    record {
      way = under_way_more (taken c.args.out.now) (taken c.loop-reason.out) (taken c.write_whole.new.sink) _ _ c.as_slice.result.now _ c.loop-reason.invariant.way
          (items_more (reason_line (names_of c.args.plan.now)) c.args.reasons.now c.loop-reason.reason-index _ c.as_slice.result.now c.loop-reason-test.true (c.as_slice.ensures ∙ c.reason_text.ensures))
          c.in_ok-write_whole.ensures.bytes;
      faults = omega (arith, c.loop-reason.invariant.faults, c.write_whole.ensures.never_falls);
    }
