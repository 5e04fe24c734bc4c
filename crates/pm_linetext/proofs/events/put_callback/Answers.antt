-- The pieces, one after another.
use Rattle.std.proofs.Common.{append_assoc}
use Rattle.pm_linetext.proofs.events.put_callback.Goals as goal

pub returns : goal.returns
returns g c = rw (c.put_cb.ensures, c.put-at.ensures, c.put_device-at.ensures) (simp append_assoc)
