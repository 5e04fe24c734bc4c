use Rattle.std.proofs.Common.{◌∙◌, arith}
use Rattle.pm_model.specs.Text.{names_of}
use Rattle.pm_cmd_ends.proofs.OutputLemmas.{behind_err}
use Rattle.pm_cmd_ends.proofs.Writing.{under_way_first, under_way_more, under_way_part}
use Rattle.pm_cmd_top.proofs.WriteLemmas.{stays_more}
use Rattle.pm_cmd_top.proofs.times.write_account.Goals as goal

pub loop-place-init : goal.loop-place-init
loop-place-init g c = record { way = under_way_first _ _; faults = omega arith }

pub returns-in_err-write_whole-clause-prefix : goal.returns-in_err-write_whole-clause-prefix
returns-in_err-write_whole-clause-prefix g c =
    let taken = g.O.Sink.taken in
    behind_err c.from_residual.result
    (under_way_part (taken c.args.out.now) (taken c.loop-place.out) (taken c.write_whole.new.sink) _ _ c.as_slice.result.now _ c.loop-place.invariant.way
    (stays_more (names_of c.args.plan.now) c.args.stays.now c.loop-place.place c.times.result c.as_slice.result.now (omega (arith, c.requires, c.loop-place-test.true, c.len-place-end.ensures)) c.times.ensures (c.as_slice.ensures ∙ c.times_text.ensures))
    c.in_err-write_whole.ensures.prefix)

pub loop-place-preserved : goal.loop-place-preserved
loop-place-preserved g c =
    let taken = g.O.Sink.taken in
    record {
      way = under_way_more (taken c.args.out.now) (taken c.loop-place.out) (taken c.write_whole.new.sink) _ _ c.as_slice.result.now _ c.loop-place.invariant.way
          (stays_more (names_of c.args.plan.now) c.args.stays.now c.loop-place.place c.times.result c.as_slice.result.now (omega (arith, c.requires, c.loop-place-test.true, c.len-place-end.ensures)) c.times.ensures (c.as_slice.ensures ∙ c.times_text.ensures))
          c.in_ok-write_whole.ensures.bytes;
      faults = omega (arith, c.loop-place.invariant.faults, c.write_whole.ensures.never_falls);
    }
