-- What a plan needs a device for (this project's own).
use Rattle.std.specs.Prelude.{ℕ, Bool, false, ◌||◌, is_some, nat_eq}
use Rattle.std.specs.List.{list_any}
use Rattle.std.specs.Option.{option_map_or}
use Rattle.pm_model.specs.declared.plan.Plan.{Plan}
use Rattle.pm_model.specs.declared.rows.DeviceRow.{DeviceRow}
use Rattle.pm_model.specs.declared.rows.LinkRow.{LinkRow}
use Rattle.pm_say.specs.declared.lints.helpers.Deed.TheVariants as deed
use Rattle.pm_say.specs.lints.Scripts.{is_done}

-- some script uses the device: a command that is no link's is for it
abbrev pub is_used : Plan → ℕ → Bool
is_used plan d = is_done plan deed.Uses d

abbrev pub is_enabled : Plan → ℕ → Bool
is_enabled plan d = is_done plan deed.Enables d

-- some script names it: a command is for it, or it is the supplier of a link's command
abbrev pub is_named : Plan → ℕ → Bool
is_named plan d = is_done plan deed.Names d || is_done plan deed.Supplies d

-- it is the parent of this device
abbrev pub is_parent : ℕ → DeviceRow → Bool
is_parent d row = option_map_or (λ p. nat_eq p.0 d) row.parent false

-- it is the consumer or the supplier of this link
abbrev pub is_end : ℕ → LinkRow → Bool
is_end d row = nat_eq row.consumer.0 d || nat_eq row.supplier.0 d

-- a script names it, or it is a device's parent, a link's consumer or supplier, or in a domain
abbrev pub is_needed : Plan → ℕ → DeviceRow → Bool
is_needed plan d row = is_named plan d || list_any (is_parent d) plan.devices || list_any (is_end d) plan.links || is_some row.domain
