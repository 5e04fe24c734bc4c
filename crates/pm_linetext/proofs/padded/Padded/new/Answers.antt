-- What is kept of the text stands before the padding.
use Rattle.pm_linetext.proofs.Padding.{cut_text}
use Rattle.pm_linetext.proofs.padded.Padded.new.Goals as goal

pub returns : goal.returns
returns g c = rw c.copy_from_slice.ensures.after (cut_text c.args.text.now _ g.row.N c.min-len.result c.min-len.ensures)
