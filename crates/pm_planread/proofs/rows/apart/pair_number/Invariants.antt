use Rattle.std.proofs.Common.{◌≡◌, drop}
use Rattle.pm_planread.specs.rows.Apart.{number_from}
use Rattle.pm_planread.specs.rows.Names.{pair_name}
use Rattle.pm_planread.proofs.rows.apart.pair_number.Given as goal

abbrev pub invariant-loop-byte : goal.invariant-loop-byte
invariant-loop-byte l = number_from l.number (pair_name (drop l.byte-index l.consumer) l.supplier) ≡ number_from 0 (pair_name l.consumer l.supplier)
