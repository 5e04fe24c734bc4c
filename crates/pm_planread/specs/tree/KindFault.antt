-- The refusal `kind`: a value of another kind than its key's (this project's own). The place is that of the key among its
-- table's keys in byte order; an element of an array of tables that is no table has place 0.
use Rattle.std.specs.Prelude.{ℕ, Bool, true, not, List, Option, Some, None, option_map}
use Rattle.std.specs.Option.{option_map_or, option_or}
use Rattle.toml.specs.Data.{Data, Members, as_table}
use Rattle.pm_planread.specs.tree.Keys.{is_of_kind, kind_of, section_key}
use Rattle.pm_planread.specs.tree.Places.{first_fault, first_place, place}
use Rattle.pm_planread.specs.tree.Tree.{list_at, member_list}
use Rattle.pm_planread.specs.declared.tree.place.Place.{Place}
use Rattle.pm_planread.specs.declared.tree.keys.Format.{Format}
use Rattle.pm_planread.specs.declared.tree.place.Section.{Section}
use Rattle.pm_planread.specs.declared.tree.place.Section.TheVariants.{Top, Domain, Device, Link, Caller}

-- whether the value is of its key's kind; a key that is unknown is refused before
unfoldable pub fits_key : Format → Section → List ℕ → Data → Bool
fits_key f section key d = option_map_or (λ kind. is_of_kind kind d) (kind_of f section key) true

abbrev pub is_misfit : Format → Section → List ℕ × Data → Bool
is_misfit f section entry = not (fits_key f section entry.0 entry.1)

-- the first key whose value is of another kind
unfoldable pub wrong_kind : Format → Section → Members → Option ℕ
wrong_kind f section members = first_place (is_misfit f section) 0 (member_list members)

-- of an item of a section
abbrev pub table_kind_fault : Format → Section → ℕ → Option Members → Option Place
table_kind_fault f section i None = Some (place section i 0)
table_kind_fault f section i (Some members) = option_map (place section i) (wrong_kind f section members)

abbrev pub item_kind_fault : Format → Section → ℕ → Data → Option Place
item_kind_fault f section i d = table_kind_fault f section i (as_table d)

abbrev pub section_kind_fault : Format → Section → Members → Option Place
section_kind_fault f section members = first_fault (item_kind_fault f section) 0 (list_at (section_key section) members)

abbrev pub top_kind_fault : Format → Members → Option Place
top_kind_fault f members = option_map (λ at. place Top at 0) (wrong_kind f Top members)

unfoldable pub kind_fault : Format → Members → Option Place
kind_fault f members =
    option_or (top_kind_fault f members)
    (option_or (section_kind_fault f Domain members)
    (option_or (section_kind_fault f Device members)
    (option_or (section_kind_fault f Link members)
    (section_kind_fault f Caller members))))
