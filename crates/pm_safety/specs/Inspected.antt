-- What is answered of a device: whether it is live, and how it stands with what it depends on (this project's own).
use Rattle.std.specs.Prelude.{◌≡◌, ℕ, Bool, true, false, ◌&&◌, List, [], ◌∷◌, if◌then◌else◌}
use Rattle.pm_base.specs.declared.DevId.{DevId}
use Rattle.pm_model.specs.declared.plan.Plan.{Plan}
use Rattle.pm_model.specs.declared.rows.LinkRow.{LinkRow}
use Rattle.pm_model.specs.Derived.{is_active, is_link_of}
use Rattle.pm_model.specs.History.{History}
use Rattle.pm_model.specs.Promises.{BondState, all_hold, are_excused, domain_bonds, implies, parent_bonds, supplier_bonds}
use Rattle.pm_model.specs.Views.{Views, is_present}
use Rattle.pm_safety.specs.declared.answers.Bond.{Bond}
use Rattle.pm_safety.specs.declared.answers.Bond.TheVariants as bond
use Rattle.pm_safety.specs.declared.answers.Inspect.{Inspect}

-- nothing where the device isn't live or has no bond of the kind; kept where they all hold, and excused where one doesn't
abbrev pub answer : Bool → Bool → Bool → Bond
answer live some hold = if live && some then (if hold then bond.Kept else bond.Excused) else bond.Nothing

abbrev pub has_some : List BondState → Bool
has_some [] = false
has_some (b ∷ bonds) = true

-- how a device that is live or not stands with these bonds
abbrev pub bond_of : Bool → List BondState → Bond
bond_of live bonds = answer live (has_some bonds) (all_hold bonds)

-- the device is excused from each of these bonds that doesn't hold, where the answer is so
abbrev pub Means : Bond → List BondState → Type 0
Means answered bonds = answered ≡ bond.Excused → are_excused bonds ≡ true

-- what Excused means in each of the three answers
pub record AreExcused (plan : Plan) (h : History) (d : DevId) (answered : Inspect) : Type 0 where
  pub domains : Means answered.domains (domain_bonds plan h d)
  pub parent : Means answered.parent (parent_bonds plan h d)
  pub suppliers : Means answered.suppliers (supplier_bonds plan h d)

-- a link, by its place and its row, is d's, has pm_runtime and is present
abbrev pub is_bond : Views → DevId → ℕ × LinkRow → Bool
is_bond v d p = is_link_of d p.1 (is_present v p.0)

-- if it is, its supplier is Active
abbrev pub has_active : Views → DevId → ℕ × LinkRow → Bool
has_active v d p = implies (is_bond v d p) (is_active v p.1.supplier)
