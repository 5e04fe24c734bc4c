-- One word more.
use Rattle.std.proofs.Common.{arith}
use Rattle.std.proofs.lemmas.Grind.{common_steps}
use Rattle.pm_lineread.proofs.PieceLemmas.{common_len_more}
use Rattle.pm_lineread.proofs.pieces.most_common.Goals as goal

pub loop-place-preserved : goal.loop-place-preserved
loop-place-preserved g c =
    let more = common_len_more c.args.bytes.now c.args.table.now c.loop-place.place c.name_of.result.now c.name_of.ensures.word in
    grind (arith, common_steps, more, c.max-most.ensures, c.common_prefix_len.ensures.len, c.loop-place.invariant)
