use Rattle.std.proofs.Common.{◌≡◌, drop, length, nat_eq, true}
use Rattle.std.specs.List.{list_all}
use Rattle.std.specs.Option.{option_map_or}
use Rattle.pm_driver_rules.proofs.rules.has_quiet_idle.Given as goal

abbrev pub invariant-loop-row : goal.invariant-loop-row
invariant-loop-row l = list_all (λ row. option_map_or (λ codes. nat_eq (length codes) 0) row.idle true) (drop l.row-index l.rows) ≡ list_all (λ row. option_map_or (λ codes. nat_eq (length codes) 0) row.idle true) l.rows
