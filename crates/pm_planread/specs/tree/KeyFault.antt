-- The refusal `key`: a key that its table doesn't have, or a required one that is missing (this project's own). The place is
-- that of the key among its table's keys in byte order, and for a missing one the number of the keys.
use Rattle.std.specs.Prelude.{ℕ, Bool, false, ◌||◌, List, Option, Some, None, codes, is_none, length, option_map, if◌then◌else◌}
use Rattle.std.specs.Option.{option_or}
use Rattle.toml.specs.Data.{Data, Members, as_table, get_member}
use Rattle.pm_planread.specs.tree.Keys.{kind_of, section_key}
use Rattle.pm_planread.specs.tree.Places.{first_fault, first_place, place}
use Rattle.pm_planread.specs.tree.Tree.{list_at, member_keys}
use Rattle.pm_planread.specs.declared.tree.place.Place.{Place}
use Rattle.pm_planread.specs.declared.tree.keys.Format.{Format}
use Rattle.pm_planread.specs.declared.tree.place.Section.{Section}
use Rattle.pm_planread.specs.declared.tree.place.Section.TheVariants.{Top, Domain, Device, Link, Caller}

abbrev pub is_unknown_key : Format → Section → List ℕ → Bool
is_unknown_key f section key = is_none (kind_of f section key)

-- the first key that tables of the section don't have
unfoldable pub unknown_key : Format → Section → Members → Option ℕ
unknown_key f section members = first_place (is_unknown_key f section) 0 (member_keys members)

abbrev pub lacks : List ℕ → Members → Bool
lacks key members = is_none (get_member key members)

-- whether a required key is missing
abbrev pub lacks_key : Section → Members → Bool
lacks_key Top _ = false
lacks_key Link members = lacks (codes "consumer") members || lacks (codes "supplier") members
lacks_key _ members = lacks (codes "name") members

-- unknown keys come before missing ones
unfoldable pub wrong_key : Format → Section → Members → Option ℕ
wrong_key f section members =
    option_or (unknown_key f section members) (if lacks_key section members then Some (length (member_keys members)) else None)

-- of an item of a section; what is no table has no keys
abbrev pub table_key_fault : Format → Section → ℕ → Option Members → Option Place
table_key_fault f section i None = None
table_key_fault f section i (Some members) = option_map (place section i) (wrong_key f section members)

abbrev pub item_key_fault : Format → Section → ℕ → Data → Option Place
item_key_fault f section i d = table_key_fault f section i (as_table d)

abbrev pub section_key_fault : Format → Section → Members → Option Place
section_key_fault f section members = first_fault (item_key_fault f section) 0 (list_at (section_key section) members)

abbrev pub top_key_fault : Format → Members → Option Place
top_key_fault f members = option_map (λ at. place Top at 0) (unknown_key f Top members)

unfoldable pub key_fault : Format → Members → Option Place
key_fault f members =
    option_or (top_key_fault f members)
    (option_or (section_key_fault f Domain members)
    (option_or (section_key_fault f Device members)
    (option_or (section_key_fault f Link members)
    (section_key_fault f Caller members))))
