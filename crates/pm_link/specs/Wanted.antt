-- Which link of a consumer is looked for.
use Rattle.std.specs.Prelude.{ℕ, ◌+◌, Bool, not, ◌&&◌, List, Option, Some, None, nat_eq}
use Rattle.pm_base.specs.declared.DevId.{DevId}
use Rattle.pm_model.specs.declared.rows.LinkRow.{LinkRow}
use Rattle.pm_model.specs.Derived.{is_above, is_link_of}
use Rattle.pm_model.specs.PlanRows.{is_of_pair}
use Rattle.pm_link.specs.declared.search.Want.{Want}
use Rattle.pm_link.specs.declared.search.Want.TheVariants.{Held, Free, Above, To, Taken}
use Rattle.pm_link.specs.Links.{bit_at, row_at}

-- a held link of a device, present or not and whatever its flags
abbrev pub is_taken : DevId → LinkRow → Bool → Bool
is_taken d row held = nat_eq row.consumer.0 d.0 && held

abbrev pub is_taken_at : DevId → List LinkRow → List Bool → ℕ → Bool
is_taken_at d rows held link = is_taken d (row_at rows link) (bit_at held link)

abbrev pub is_wanted : Want → DevId → LinkRow → Bool → Bool → Bool
is_wanted Held d row held present = is_link_of d row present && held
is_wanted Free d row held present = is_link_of d row present && not held
is_wanted (Above last) d row held present = is_link_of d row present && is_above last row.supplier
is_wanted (To supplier) d row held present = is_of_pair d supplier row
is_wanted Taken d row held present = is_taken d row held

abbrev pub is_wanted_at : Want → DevId → List LinkRow → List Bool → List Bool → ℕ → Bool
is_wanted_at want d rows held present link = is_wanted want d (row_at rows link) (bit_at held link) (bit_at present link)

-- the number above the last supplier, and 0 where there is none
abbrev pub bound_of : Option DevId → ℕ
bound_of None = 0
bound_of (Some last) = last.0 + 1
