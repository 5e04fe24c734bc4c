-- What the tree of a plan says, row by row, with names for what the plan will have as places (this project's own). Where no
-- value of the right kind stands under a key, the default stands for it.
use Rattle.std.specs.Prelude.{ℕ, Bool, true, false, List, [], Option, ℤ, pos, codes, option_and_then, option_map, unwrap_or}
use Rattle.toml.specs.Data.{Data, Members, as_array, as_bool, as_integer, as_str, as_table, get_member}
use Rattle.std.specs.List.{filter_map}
use Rattle.std.specs.Str.{bytes_eq}
use Rattle.pm_planread.specs.tree.Places.{first_place}
use Rattle.pm_planread.specs.tree.Tree.{items_list, list_at, member_keys}
use Rattle.pm_planread.specs.declared.tree.raw.RawDomain.{RawDomain}
use Rattle.pm_planread.specs.declared.tree.raw.RawDevice.{RawDevice}
use Rattle.pm_planread.specs.declared.tree.raw.RawLink.{RawLink}
use Rattle.pm_planread.specs.declared.tree.raw.RawCaller.{RawCaller}
use Rattle.pm_planread.specs.declared.tree.raw.RawPlan.{RawPlan}

abbrev pub text_at : List ℕ → Members → Option (List ℕ)
text_at key members = option_and_then as_str (get_member key members)

abbrev pub number_at : List ℕ → Members → Option ℤ
number_at key members = option_and_then as_integer (get_member key members)

abbrev pub switch_at : List ℕ → Members → Option Bool
switch_at key members = option_and_then as_bool (get_member key members)

-- the integers of an array
abbrev pub numbers_in : List Data → List ℤ
numbers_in items = filter_map as_integer items

abbrev pub numbers_at : List ℕ → Members → Option (List ℤ)
numbers_at key members = option_map (λ items. numbers_in (items_list items)) (option_and_then as_array (get_member key members))

-- the strings of an array
abbrev pub texts_in : List Data → List (List ℕ)
texts_in items = filter_map as_str items

unfoldable pub raw_domain : Members → RawDomain
raw_domain members = record {
  name = unwrap_or (text_at (codes "name") members) [];
  parent = text_at (codes "parent") members;
  always_on = unwrap_or (switch_at (codes "always_on") members) false;
}

unfoldable pub raw_device : Members → RawDevice
raw_device members = record {
  name = unwrap_or (text_at (codes "name") members) [];
  parent = text_at (codes "parent") members;
  domain = text_at (codes "domain") members;
  ignore_children = unwrap_or (switch_at (codes "ignore_children") members) false;
  no_callbacks = unwrap_or (switch_at (codes "no_callbacks") members) false;
  busy = unwrap_or (switch_at (codes "busy") members) false;
  idle = numbers_at (codes "idle") members;
  suspend = numbers_in (list_at (codes "suspend") members);
  resume = numbers_in (list_at (codes "resume") members);
  idle_ms = unwrap_or (number_at (codes "idle_ms") members) (pos 0);
  suspend_ms = unwrap_or (number_at (codes "suspend_ms") members) (pos 0);
  resume_ms = unwrap_or (number_at (codes "resume_ms") members) (pos 0);
}

unfoldable pub raw_link : Members → RawLink
raw_link members = record {
  consumer = unwrap_or (text_at (codes "consumer") members) [];
  supplier = unwrap_or (text_at (codes "supplier") members) [];
  pm_runtime = unwrap_or (switch_at (codes "pm_runtime") members) true;
  later = unwrap_or (switch_at (codes "later") members) false;
}

unfoldable pub raw_caller : Members → RawCaller
raw_caller members = record {
  name = unwrap_or (text_at (codes "name") members) [];
  script = texts_in (list_at (codes "script") members);
}

-- the rows of an array's tables
abbrev pub row_in : {A : Type 0} → (Members → A) → Data → Option A
row_in row_of d = option_map row_of (as_table d)

abbrev pub rows_in : {A : Type 0} → (Members → A) → List Data → List A
rows_in row_of items = filter_map (row_in row_of) items

-- the place of a key among the keys of a table in byte order; 0 where it is missing
abbrev pub key_place : List ℕ → Members → ℕ
key_place key members = unwrap_or (first_place (λ k. bytes_eq k key) 0 (member_keys members)) 0

unfoldable pub raw_plan : Members → RawPlan
raw_plan members = record {
  lines = unwrap_or (number_at (codes "lines") members) (pos 20000);
  lines_at = key_place (codes "lines") members;
  trace = unwrap_or (number_at (codes "trace") members) (pos 1);
  trace_at = key_place (codes "trace") members;
  domains = rows_in raw_domain (list_at (codes "domain") members);
  devices = rows_in raw_device (list_at (codes "device") members);
  links = rows_in raw_link (list_at (codes "link") members);
  callers = rows_in raw_caller (list_at (codes "caller") members);
}
