-- The pieces, one after another.
use Rattle.std.proofs.Common.{append_assoc}
use Rattle.pm_linetext.proofs.fields.put_states.Goals as goal

pub returns : goal.returns
returns c =
    rw (c.put_number.ensures, c.put-at-5.ensures, c.put-at-4.ensures, c.bit-2.ensures, c.put-at-3.ensures, c.put-at-2.ensures, c.bit.ensures, c.put-at.ensures) (simp append_assoc)
