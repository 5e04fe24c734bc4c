use Rattle.std.proofs.Common.{◌+◌, ◌/◌}
use Rattle.pm_index.proofs.MarkLemmas.{no_bits, no_marks}
use Rattle.pm_index.proofs.bits.Bits.new.Goals as goal

pub invariant_of-result : goal.invariant_of-result
invariant_of-result c = rw (c.in_ok-nothing.ensures, c.in_ok-nothing-2.ensures) (no_bits c.args.bound c.requires)

pub returns : goal.returns
returns c = rw c.in_ok-nothing.ensures (no_marks c.args.bound (c.args.bound / 64 + 1))
