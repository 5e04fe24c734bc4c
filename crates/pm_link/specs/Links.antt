-- The links of a plan, and which of them are held and present (device_link.rst).
use Rattle.std.specs.Prelude.{◌≡◌, ◌<◌, ℕ, Bool, false, not, List, length, map, slice_index_or, slice_set}
use Rattle.pm_base.specs.declared.DevId.{DevId}
use Rattle.pm_model.specs.declared.plan.Plan.{Plan}
use Rattle.pm_model.specs.declared.rows.LinkRow.{LinkRow}
use Rattle.pm_model.specs.Changes.{at_pair}

-- the links of the plan, and for each whether it is held and whether it is present
pub record LinkViews : Type 0 where
  pub rows : List LinkRow
  pub held : List Bool
  pub present : List Bool

-- before any line: none is held, and each is present but those that are added later
abbrev pub fresh_links : Plan → LinkViews
fresh_links plan = record {
  rows = plan.links;
  held = map (λ row. false) plan.links;
  present = map (λ row. not row.later) plan.links;
}

-- a link without effect
abbrev pub no_link : LinkRow
no_link = record { consumer = record { 0 = 0 }; supplier = record { 0 = 0 }; pm_runtime = false; later = false }

abbrev pub row_at : List LinkRow → ℕ → LinkRow
row_at rows link = slice_index_or rows link no_link

abbrev pub bit_at : List Bool → ℕ → Bool
bit_at bits link = slice_index_or bits link false

-- a link by its place, with its supplier
abbrev pub with_supplier : List LinkRow → ℕ → ℕ × DevId
with_supplier rows link = (link, (row_at rows link).supplier)

-- the place of a link
abbrev pub IsPlace : LinkViews → ℕ → Type 0
IsPlace links link = (link < length links.rows) × (link < length links.held) × (link < length links.present)

-- to set the bit of this link is to set the bit of the pair
abbrev pub SetsPair : Plan → DevId → DevId → ℕ → Type 0
SetsPair plan consumer supplier link =
    (bits : List Bool) (b : Bool) → length bits ≡ length plan.links → at_pair plan consumer supplier b bits ≡ slice_set bits link b
