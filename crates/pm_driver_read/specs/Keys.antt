-- The words of callers, and what is wrong with them (this project's own).
use Rattle.std.specs.Prelude.{ℕ, ℤ, ◌+◌, Bool, true, false, not, ◌&&◌, List, [], ◌∷◌, Option, Some, None, codes, drop, filter, int_le, is_none, is_some, map, nat_abs, nat_eq, option_and_then, option_map, pos, position, slice_get, suc, take, if◌then◌else◌}
use Rattle.std.specs.Option.{option_map_or}
use Rattle.std.specs.Str.{bytes_eq}
use Rattle.pm_base.specs.declared.DevId.{DevId}
use Rattle.pm_model.specs.NamedList.{place_named}
use Rattle.pm_model.specs.declared.rows.DeviceRow.{DeviceRow}
use Rattle.pm_model.specs.declared.rows.LinkRow.{LinkRow}
use Rattle.pm_driver_read.specs.declared.around.Bus.{Bus}
use Rattle.pm_driver_read.specs.declared.around.Bus.TheVariants as bus
use Rattle.pm_driver_read.specs.declared.around.Core.{Core}
use Rattle.pm_driver_read.specs.declared.driver.Role.{Role}
use Rattle.pm_driver_read.specs.declared.driver.Role.TheVariants as role
use Rattle.pm_driver_read.specs.declared.refusal.KeyFault.{KeyFault}
use Rattle.pm_driver_read.specs.declared.refusal.KeyRefusal.{KeyRefusal}
use Rattle.pm_driver_read.specs.declared.refusal.KeyWhy.{KeyWhy}
use Rattle.pm_driver_read.specs.declared.refusal.KeyWhy.TheVariants as why
use Rattle.pm_driver_read.specs.declared.words.CallerWords.{CallerWords}
use Rattle.pm_script.specs.Command.{dev_at}

unfoldable pub role_of : List ℕ → Option Role
role_of text =
    if bytes_eq text (codes "probe") then Some role.Probe
    else if bytes_eq text (codes "remove") then Some role.Remove
    else if bytes_eq text (codes "shutdown") then Some role.Shutdown
    else None

unfoldable pub bus_of : List ℕ → Option Bus
bus_of text = if bytes_eq text (codes "amba") then Some bus.Amba else if bytes_eq text (codes "pci") then Some bus.Pci else None

-- 1 to 1,000
abbrev pub is_turns : ℤ → Bool
is_turns count = int_le (pos 1) count && int_le count (pos 1000)

abbrev pub has_times : Option ℤ → Bool
has_times times = option_map_or is_turns times true

abbrev pub turns_in : ℤ → ℕ
turns_in count = if is_turns count then nat_abs count else 1

abbrev pub turns_of : Option ℤ → ℕ
turns_of times = option_map_or turns_in times 1

abbrev pub wrong_role : Option (List ℕ) → Bool
wrong_role text = option_map_or (λ t. is_none (role_of t)) text false

abbrev pub wrong_bus : Option (List ℕ) → Bool
wrong_bus text = option_map_or (λ t. is_none (bus_of t)) text false

abbrev pub wrong_binds : List (List ℕ) → Option (List ℕ) → Bool
wrong_binds devices text = option_map_or (λ t. is_none (place_named t devices)) text false

-- binds needs a role, and bus needs binds
abbrev pub is_alone : CallerWords → Bool
is_alone words = if is_some words.binds then is_none words.role else is_some words.bus

-- `CALLER` or `CALLER:MARK`
abbrev pub is_colon : ℕ → Bool
is_colon c = nat_eq c 58

abbrev pub after_name : List ℕ → List ℕ
after_name text = option_map_or (λ at. take at text) (position is_colon text) text

abbrev pub after_mark : List ℕ → Option (List ℕ)
after_mark text = option_map (λ at. drop (at + 1) text) (position is_colon text)

abbrev pub is_stranger : List (List ℕ) → List ℕ → Bool
is_stranger callers name = is_none (place_named name callers)

unfoldable pub is_lost_after : List (List ℕ) → List ℕ → Bool
is_lost_after callers text = is_none (place_named (after_name text) callers)

abbrev pub key_fault : KeyWhy → Option KeyFault
key_fault w = Some (record { why = w; part = 0 })

abbrev pub fault_at : KeyWhy → ℕ → KeyFault
fault_at w part = record { why = w; part = part }

-- Adopts, After: the first that names no caller
abbrev pub after_fault : List (List ℕ) → CallerWords → Option KeyFault
after_fault callers words = option_map (fault_at why.After) (position (is_lost_after callers) words.after)

abbrev pub names_fault : List (List ℕ) → CallerWords → Option KeyFault
names_fault callers words = option_map_or (λ part. Some (fault_at why.Adopts part)) (position (is_stranger callers) words.adopts) (after_fault callers words)

unfoldable pub words_fault : List (List ℕ) → List (List ℕ) → CallerWords → Option KeyFault
words_fault devices callers words =
    if not (has_times words.times) then key_fault why.Times
    else if wrong_role words.role then key_fault why.Role
    else if wrong_bus words.bus then key_fault why.Bus
    else if wrong_binds devices words.binds then key_fault why.Binds
    else if is_alone words then key_fault why.Alone
    else names_fault callers words

abbrev pub refused_key : ℕ → KeyFault → KeyRefusal
refused_key caller fault = record { why = fault.why; caller = caller; part = fault.part }

-- of callers, the first of which has this number
abbrev pub keys_fault : List (List ℕ) → List (List ℕ) → ℕ → List CallerWords → Option KeyRefusal
keys_fault devices callers caller [] = None
keys_fault devices callers caller (words ∷ more) =
    option_map_or (λ (fault : KeyFault). Some (refused_key caller fault)) (words_fault devices callers words) (keys_fault devices callers (caller + 1) more)

-- a link that resumes the supplier of a device, from the begin on
abbrev pub supplies : DevId → LinkRow → Bool
supplies dev link = nat_eq link.consumer.0 dev.0 && link.pm_runtime && not link.later

abbrev pub suppliers_of : DevId → List LinkRow → List DevId
suppliers_of dev links = map (λ link. link.supplier) (filter (supplies dev) links)

abbrev pub parent_of : List DeviceRow → DevId → Option DevId
parent_of devices dev = option_and_then (λ row. row.parent) (slice_get devices dev.0)

abbrev pub bound_to : List DeviceRow → Option (List ℕ) → Option DevId
bound_to devices text = option_and_then (λ t. option_map dev_at (place_named t (map (λ row. row.name) devices))) text

abbrev pub role_in : CallerWords → Option Role
role_in words = option_and_then role_of words.role

abbrev pub bus_in : CallerWords → Option Bus
bus_in words = option_and_then bus_of words.bus

abbrev pub core_at : List DeviceRow → List LinkRow → CallerWords → Role → DevId → Core
core_at devices links words r dev = record { role = r; dev = dev; bus = bus_in words; suppliers = suppliers_of dev links; parent = parent_of devices dev }

-- a caller with a role that binds a device
abbrev pub core_of : List DeviceRow → List LinkRow → CallerWords → Option Core
core_of devices links words = option_and_then (λ r. option_map (core_at devices links words r) (bound_to devices words.binds)) (role_in words)
