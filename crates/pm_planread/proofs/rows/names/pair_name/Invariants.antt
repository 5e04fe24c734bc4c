use Rattle.std.proofs.Common.{◌≡◌, ◌++◌, drop}
use Rattle.pm_planread.specs.rows.Names.{pair_name}
use Rattle.pm_planread.proofs.rows.names.pair_name.Given as goal

abbrev pub invariant-loop-byte : goal.invariant-loop-byte
invariant-loop-byte l = l.bytes.items ++ pair_name (drop l.byte-index l.consumer) l.supplier ≡ pair_name l.consumer l.supplier
