-- The text stands before its padding.
use Rattle.std.proofs.Common.{arith}
use Rattle.pm_linetext.proofs.Placing.{whole_put, within}
use Rattle.pm_linetext.proofs.pieces.put_whole.Goals as goal

pub returns-clause-put : goal.returns-clause-put
returns-clause-put g c =
    rw c.copy_from_slice.ensures.after (whole_put g.row.N c.args.at c.len.result c.args.bytes.now c.padded.result.now c.args.text.now (within c.args.at c.args.bytes.now c.args.text.now (omega arith) c.requires.room) (omega arith) c.len.ensures.len c.padded.ensures.text)
