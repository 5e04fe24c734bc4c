-- The tree of a plan's text (this project's own).
use Rattle.std.specs.Prelude.{ℕ, List, [], ◌∷◌, Option, None, option_and_then, map, String, if◌then◌else◌}
use Rattle.std.specs.Option.{option_map_or}
use Rattle.std.specs.Str.{is_utf8}
use Rattle.toml.specs.Data.{Data, Items, no_items, item, Members, no_members, member, as_array, get_member}
use Rattle.toml.specs.Parse.{parse_document}
use Rattle.toml.specs.View.{members_view}
use Rattle.std.specs.declared.alloc.Global.{Global}
use Rattle.toml.specs.declared.value.Value.{Value}
use Rattle.std.specs.Map.Iter.{deref_pair}
use denote.Ref.{Bor}

-- the tree of the bytes, where they are UTF-8 and TOML
unfoldable pub document : List ℕ → Option Members
document bytes = if is_utf8 bytes then parse_document bytes else None

-- the keys of a table, in byte order
abbrev pub member_keys : Members → List (List ℕ)
member_keys no_members = []
member_keys (member key d more) = key ∷ member_keys more

-- the keys with their values, in byte order of the keys
abbrev pub member_list : Members → List (List ℕ × Data)
member_list no_members = []
member_list (member key d more) = (key, d) ∷ member_list more

abbrev pub items_list : Items → List Data
items_list no_items = []
items_list (item d more) = d ∷ items_list more

-- the elements of the array under a key, and none where no array stands there
abbrev pub list_at : List ℕ → Members → List Data
list_at key members = option_map_or items_list (option_and_then as_array (get_member key members)) []

-- the table of these keys and values
abbrev pub entries_view : List (Bor (String Global) × Bor Value) → Members
entries_view entries = members_view (map deref_pair entries)
