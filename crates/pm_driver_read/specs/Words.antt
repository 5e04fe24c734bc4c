-- What a driver's tables say beside a plan's (this project's own).
use Rattle.std.specs.Prelude.{ℕ, false, List, [], Option, codes, option_and_then, option_map, slice_get, unwrap_or}
use Rattle.toml.specs.Data.{Data, Members, as_array, as_table, get_member}
use Rattle.pm_base.specs.declared.DevId.{DevId}
use Rattle.pm_planread.specs.tree.Raw.{number_at, rows_in, switch_at, text_at, texts_in}
use Rattle.pm_planread.specs.tree.Tree.{items_list, list_at}
use Rattle.pm_driver_read.specs.declared.words.CallerWords.{CallerWords}

abbrev pub texts_at : List ℕ → Members → List (List ℕ)
texts_at key members = texts_in (list_at key members)

abbrev pub caller_words : Members → CallerWords
caller_words members = record {
  name = unwrap_or (text_at (codes "name") members) [];
  script = texts_at (codes "script") members;
  after = texts_at (codes "after") members;
  adopts = texts_at (codes "adopts") members;
  times = number_at (codes "times") members;
  irq = unwrap_or (switch_at (codes "irq") members) false;
  role = text_at (codes "role") members;
  binds = text_at (codes "binds") members;
  bus = text_at (codes "bus") members;
}

-- of the callers' tables
abbrev pub all_words : List Data → List CallerWords
all_words items = rows_in caller_words items

-- which callbacks may fail, where the table says so
abbrev pub device_fails : Members → Option (List (List ℕ))
device_fails members = option_map (λ items. texts_in (items_list items)) (option_and_then as_array (get_member (codes "fails") members))

-- of the devices' tables
abbrev pub all_fails : List Data → List (Option (List (List ℕ)))
all_fails items = rows_in device_fails items

-- the parent that the table of a device names
abbrev pub parent_in : List Data → DevId → Option (List ℕ)
parent_in items dev = option_and_then (text_at (codes "parent")) (option_and_then as_table (slice_get items dev.0))
