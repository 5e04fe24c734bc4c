-- The keys of a plan's tables and the kinds of their values (this project's own).
use Rattle.std.specs.Prelude.{ℕ, Bool, false, ◌||◌, List, Option, Some, None, codes, is_some, if◌then◌else◌}
use Rattle.std.specs.List.{list_all}
use Rattle.std.specs.Str.{bytes_eq}
use Rattle.toml.specs.Data.{Data, array, as_array, as_bool, as_integer, as_str}
use Rattle.pm_planread.specs.tree.Tree.{items_list}
use Rattle.pm_planread.specs.declared.tree.keys.Format.{Format}
use Rattle.pm_planread.specs.declared.tree.keys.Format.TheVariants as format
use Rattle.pm_planread.specs.declared.tree.keys.Kind.{Kind}
use Rattle.pm_planread.specs.declared.tree.keys.Kind.TheVariants.{Text, Number, Switch, Numbers, Texts, Tables}
use Rattle.pm_planread.specs.declared.tree.place.Section.{Section}
use Rattle.pm_planread.specs.declared.tree.place.Section.TheVariants.{Top, Domain, Device, Link, Caller}

-- the word of a section in messages; but for the top's, it is the key under which a plan has the tables of the section
abbrev pub section_key : Section → List ℕ
section_key Top = codes "top"
section_key Domain = codes "domain"
section_key Device = codes "device"
section_key Link = codes "link"
section_key Caller = codes "caller"

abbrev pub is_text_key : Section → List ℕ → Bool
is_text_key Top key = false
is_text_key Domain key = bytes_eq key (codes "name") || bytes_eq key (codes "parent")
is_text_key Device key = bytes_eq key (codes "name") || bytes_eq key (codes "parent") || bytes_eq key (codes "domain")
is_text_key Link key = bytes_eq key (codes "consumer") || bytes_eq key (codes "supplier")
is_text_key Caller key = bytes_eq key (codes "name")

abbrev pub is_number_key : Section → List ℕ → Bool
is_number_key Top key = bytes_eq key (codes "lines") || bytes_eq key (codes "trace")
is_number_key Device key = bytes_eq key (codes "idle_ms") || bytes_eq key (codes "suspend_ms") || bytes_eq key (codes "resume_ms")
is_number_key _ key = false

abbrev pub is_switch_key : Section → List ℕ → Bool
is_switch_key Domain key = bytes_eq key (codes "always_on")
is_switch_key Device key = bytes_eq key (codes "ignore_children") || bytes_eq key (codes "no_callbacks") || bytes_eq key (codes "busy")
is_switch_key Link key = bytes_eq key (codes "pm_runtime") || bytes_eq key (codes "later")
is_switch_key _ key = false

abbrev pub is_numbers_key : Section → List ℕ → Bool
is_numbers_key Device key = bytes_eq key (codes "idle") || bytes_eq key (codes "suspend") || bytes_eq key (codes "resume")
is_numbers_key _ key = false

abbrev pub is_texts_key : Section → List ℕ → Bool
is_texts_key Caller key = bytes_eq key (codes "script")
is_texts_key _ key = false

abbrev pub is_tables_key : Section → List ℕ → Bool
is_tables_key Top key = bytes_eq key (codes "domain") || bytes_eq key (codes "device") || bytes_eq key (codes "link") || bytes_eq key (codes "caller")
is_tables_key _ key = false

-- what a driver's tables have beside
abbrev pub caller_kind : List ℕ → Option Kind
caller_kind key =
    if bytes_eq key (codes "after") || bytes_eq key (codes "adopts") then Some Texts
    else if bytes_eq key (codes "role") || bytes_eq key (codes "binds") || bytes_eq key (codes "bus") then Some Text
    else if bytes_eq key (codes "times") then Some Number
    else if bytes_eq key (codes "irq") then Some Switch
    else None

abbrev pub own_kind : Section → List ℕ → Option Kind
own_kind Device key = if bytes_eq key (codes "fails") then Some Texts else None
own_kind Caller key = caller_kind key
own_kind _ key = None

abbrev pub more_kind : Format → Section → List ℕ → Option Kind
more_kind format.Plan section key = None
more_kind format.Driver section key = own_kind section key

-- the kind of a key's value, where a table of the section has the key
unfoldable pub kind_of : Format → Section → List ℕ → Option Kind
kind_of f section key =
    if is_text_key section key then Some Text
    else if is_number_key section key then Some Number
    else if is_switch_key section key then Some Switch
    else if is_numbers_key section key then Some Numbers
    else if is_texts_key section key then Some Texts
    else if is_tables_key section key then Some Tables
    else more_kind f section key

-- whether a value is of the kind. The elements of an array of tables are looked at apart.
abbrev pub is_of_kind : Kind → Data → Bool
is_of_kind Text d = is_some (as_str d)
is_of_kind Number d = is_some (as_integer d)
is_of_kind Switch d = is_some (as_bool d)
is_of_kind Numbers (array items) = list_all (λ d. is_some (as_integer d)) (items_list items)
is_of_kind Numbers d = false
is_of_kind Texts (array items) = list_all (λ d. is_some (as_str d)) (items_list items)
is_of_kind Texts d = false
is_of_kind Tables d = is_some (as_array d)
