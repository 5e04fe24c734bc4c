use Rattle.std.proofs.Common.{◌∙◌, arith}
use Rattle.pm_cmd_ends.proofs.OutputLemmas.{behind_err, in_time_more, pieces_more}
use Rattle.pm_cmd_ends.proofs.Writing.{under_way_first, under_way_more, under_way_part}
use Rattle.pm_cmd_ends.proofs.output.write_lines.Goals as goal

pub loop-line-init : goal.loop-line-init
loop-line-init g c = record { way = under_way_first _ _; in_time = c.requires.in_time; faults = omega arith }

pub spell-requires-clause-in_time : goal.spell-requires-clause-in_time
spell-requires-clause-in_time g c = (in_time_more c.loop-line.base c.args.lines.now c.loop-line.line-index _ c.loop-line-test.true c.loop-line.invariant.in_time).0

pub returns-in_err-write_whole-clause-prefix : goal.returns-in_err-write_whole-clause-prefix
returns-in_err-write_whole-clause-prefix g c =
    let taken = g.O.Sink.taken in
    behind_err c.from_residual.result
    (under_way_part (taken c.args.out.now) (taken c.loop-line.out) (taken c.write_whole.new.sink) _ _ c.as_slice.result.now _ c.loop-line.invariant.way
    (pieces_more c.args.format c.args.speller.now c.loop-line.base c.args.lines.now c.loop-line.line-index _ c.as_slice.result.now c.loop-line-test.true (c.as_slice.ensures ∙ c.spell.ensures))
    c.in_err-write_whole.ensures.prefix)

pub loop-line-preserved : goal.loop-line-preserved
loop-line-preserved g c =
    let taken = g.O.Sink.taken in
    record {
      way = under_way_more (taken c.args.out.now) (taken c.loop-line.out) (taken c.write_whole.new.sink) _ _ c.as_slice.result.now _ c.loop-line.invariant.way
          (pieces_more c.args.format c.args.speller.now c.loop-line.base c.args.lines.now c.loop-line.line-index _ c.as_slice.result.now c.loop-line-test.true (c.as_slice.ensures ∙ c.spell.ensures))
          c.in_ok-write_whole.ensures.bytes;
      in_time = (in_time_more c.loop-line.base c.args.lines.now c.loop-line.line-index _ c.loop-line-test.true c.loop-line.invariant.in_time).1;
      faults = omega (arith, c.loop-line.invariant.faults, c.write_whole.ensures.never_falls);
    }
