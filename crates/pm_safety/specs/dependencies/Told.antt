-- What is told of the bonds that are off, by views and the excuses (this project's own).
use Rattle.std.specs.Prelude.{ℕ, Bool, not, ◌&&◌, List, [], ◌++◌, Option, option_map, if◌then◌else◌}
use Rattle.std.specs.List.{flat_map}
use Rattle.std.specs.Option.{option_to_list}
use Rattle.pm_base.specs.declared.DevId.{DevId}
use Rattle.pm_model.specs.declared.plan.Plan.{Plan}
use Rattle.pm_model.specs.Views.{Views}
use Rattle.pm_safety.specs.declared.dependencies.bond.Bond.{Bond}
use Rattle.pm_safety.specs.declared.dependencies.bond.Bond.TheVariants as bond
use Rattle.pm_safety.specs.declared.dependencies.bond.Excuse.{Excuse}
use Rattle.pm_safety.specs.dependencies.Bonds.{off_domain, off_link, off_parent}

-- what excuses a device from another one: from its parent, and from a supplier
pub record Excuses : Type 0 where
  pub parent : DevId → DevId → Excuse
  pub supplier : DevId → DevId → Excuse

abbrev pub domain_bond : Plan → Views → DevId → Option Bond
domain_bond plan v d = option_map (λ o. bond.Domain d o) (off_domain plan v d)

abbrev pub parent_bond : Plan → Views → (DevId → DevId → Excuse) → DevId → Option Bond
parent_bond plan v excuse d = option_map (λ p. bond.Parent d p (excuse d p)) (off_parent plan v d)

abbrev pub supplier_bond : Plan → Views → (DevId → DevId → Excuse) → ℕ → Option Bond
supplier_bond plan v excuse l = option_map (λ row. bond.Supplier row.consumer row.supplier (excuse row.consumer row.supplier)) (off_link plan v l)

-- what is off of these devices with their parents, and of these links
abbrev pub parent_bonds : Plan → Views → (DevId → DevId → Excuse) → List ℕ → List Bond
parent_bonds plan v excuse devices = flat_map (λ c. option_to_list (parent_bond plan v excuse (record { 0 = c }))) devices

abbrev pub supplier_bonds : Plan → Views → (DevId → DevId → Excuse) → List ℕ → List Bond
supplier_bonds plan v excuse links = flat_map (λ l. option_to_list (supplier_bond plan v excuse l)) links

-- what is broken on these views by a line that turned d, where these are its children, the links from it and those to it: whether d was
-- Active and ignored its children before the line, and whether it is and does after it
abbrev pub broken_near : Plan → Views → Excuses → DevId → List ℕ → List ℕ → List ℕ → Bool → Bool → Bool → Bool → List Bond
broken_near plan v excuses d children from to was_active ignored active ignores =
    if active then (
    if was_active then [] else option_to_list (domain_bond plan v d) ++ option_to_list (parent_bond plan v excuses.parent d) ++ supplier_bonds plan v excuses.supplier from
    )
    else if was_active then parent_bonds plan v excuses.parent children ++ supplier_bonds plan v excuses.supplier to
    else if ignored && not ignores then parent_bonds plan v excuses.parent children
    else []
