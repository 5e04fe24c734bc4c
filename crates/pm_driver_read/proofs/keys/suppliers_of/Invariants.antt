use Rattle.std.proofs.Common.{◌≡◌, ◌≤◌, ◌++◌, drop, length}
use Rattle.pm_driver_read.specs.Keys.{suppliers_of}
use Rattle.pm_driver_read.proofs.keys.suppliers_of.Given as goal

abbrev pub invariant-loop-link : goal.invariant-loop-link
invariant-loop-link l = record {
  all : l.suppliers.items ++ suppliers_of l.dev (drop l.link-index l.links) ≡ suppliers_of l.dev l.links;
  few : length l.suppliers.items ≤ l.link-index;
}
