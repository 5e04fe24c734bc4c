-- What scripts do, all of them together (this project's own).
use Rattle.std.specs.Prelude.{ℕ, Bool, false, ◌&&◌, nat_abs, nat_eq}
use Rattle.std.specs.List.{list_any}
use Rattle.std.specs.Option.{option_map_or}
use Rattle.pm_model.specs.declared.event.Command.{Command}
use Rattle.pm_model.specs.declared.plan.Plan.{Plan}
use Rattle.pm_model.specs.declared.rows.LinkRow.{LinkRow}
use Rattle.pm_say.specs.declared.lints.helpers.Deed.{Deed}
use Rattle.pm_say.specs.lints.Helpers.{is_link_add, place_of}

-- some command of some script passes the test
abbrev pub some_command : (Command → Bool) → Plan → Bool
some_command test plan = list_any (λ row. list_any test row.script) plan.callers

-- a command does this to device d
abbrev pub does_to : Deed → ℕ → Command → Bool
does_to deed d c = option_map_or (nat_eq d) (place_of deed c) false

-- some script does this to device d
abbrev pub is_done : Plan → Deed → ℕ → Bool
is_done plan deed d = some_command (does_to deed d) plan

-- a command adds the link
abbrev pub adds : LinkRow → Command → Bool
adds row c = is_link_add c.helper && nat_eq c.dev.0 row.consumer.0 && nat_eq (nat_abs c.number) row.supplier.0

abbrev pub is_added : Plan → LinkRow → Bool
is_added plan row = some_command (adds row) plan
