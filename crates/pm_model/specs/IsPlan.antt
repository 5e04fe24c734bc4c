-- Which lists make a plan. All limits and the rules on names, links and codes are this project's own.
use Rattle.std.specs.Prelude.{ℕ, ◌+◌, Bool, true, false, not, ◌&&◌, ◌||◌, List, [], ◌∷◌, ℤ, pos, neg_ℤ, nat_abs, length, map, nat_eq, nat_lt, nat_le, int_le, is_some, slice_get, if◌then◌else◌}
use Rattle.std.specs.Char.{is_ascii_alphanumeric}
use Rattle.std.specs.List.{list_all, list_any}
use Rattle.std.specs.Option.{option_map_or}
use Rattle.std.specs.Ordering.{int_eq}
use Rattle.std.specs.Str.{bytes_eq}
use Rattle.pm_base.specs.declared.DevId.{DevId}
use Rattle.pm_base.specs.declared.codes.TheConstants.{EACCES}
use Rattle.pm_model.specs.declared.rows.DomainRow.{DomainRow}
use Rattle.pm_model.specs.declared.rows.DeviceRow.{DeviceRow}
use Rattle.pm_model.specs.declared.rows.LinkRow.{LinkRow}
use Rattle.pm_model.specs.declared.rows.CallerRow.{CallerRow}
use Rattle.pm_model.specs.declared.event.Helper.{Helper}
use Rattle.pm_model.specs.declared.event.Helper.TheVariants.{SetAutosuspendDelay}
use Rattle.pm_model.specs.declared.event.Operand.{Operand}
use Rattle.pm_model.specs.declared.event.Operand.TheVariants.{Nothing, Milliseconds, Switch, Supplier}
use Rattle.pm_model.specs.declared.event.Command.{Command}
use Rattle.pm_model.specs.Spelling.{operand_of, takes_device}

-- no two pass the test
abbrev pub are_distinct : {A : Type 0} → (A → A → Bool) → List A → Bool
are_distinct same [] = true
are_distinct same (x ∷ xs) = not (list_any (same x) xs) && are_distinct same xs

-- each row passes the test, with its place
abbrev pub each_at : {A : Type 0} → (ℕ → A → Bool) → ℕ → List A → Bool
each_at test i [] = true
each_at test i (x ∷ xs) = test i x && each_at test (i + 1) xs

-- a letter, a digit, _ or -
abbrev pub is_plain_byte : ℕ → Bool
is_plain_byte c = is_ascii_alphanumeric c || nat_eq c 95 || nat_eq c 45

-- or . or :
abbrev pub is_name_byte : ℕ → Bool
is_name_byte c = is_plain_byte c || nat_eq c 46 || nat_eq c 58

abbrev pub is_name_of : (ℕ → Bool) → List ℕ → Bool
is_name_of is_byte name = nat_le 1 (length name) && nat_le (length name) 32 && list_all is_byte name

abbrev pub is_name : List ℕ → Bool
is_name name = is_name_of is_name_byte name

abbrev pub is_caller_name : List ℕ → Bool
is_caller_name name = is_name_of is_plain_byte name

-- what a callback may answer: 0, or -4095 to -1 but for -13
abbrev pub is_code : ℤ → Bool
is_code c = int_le (neg_ℤ (pos 4095)) c && int_le c (pos 0) && not (int_eq c EACCES)

abbrev pub are_codes : List ℤ → Bool
are_codes codes = nat_le (length codes) 64 && list_all is_code codes

abbrev pub is_time : ℕ → Bool
is_time ms = nat_le ms 1000000

abbrev pub is_domain : ℕ → DomainRow → Bool
is_domain i row = is_name row.name && option_map_or (λ p. nat_lt p.0 i) row.parent true

abbrev pub is_device : ℕ → ℕ → DeviceRow → Bool
is_device domains i row =
    is_name row.name && option_map_or (λ p. nat_lt p.0 i) row.parent true && option_map_or (λ o. nat_lt o.0 domains) row.domain true
    && not (row.no_callbacks && is_some row.domain)
    && is_time row.idle_ms && is_time row.suspend_ms && is_time row.resume_ms
    && option_map_or are_codes row.idle true && are_codes row.suspend && are_codes row.resume

-- whether this device has no callbacks
abbrev pub lacks_callbacks : List DeviceRow → DevId → Bool
lacks_callbacks devices d = option_map_or (λ row. row.no_callbacks) (slice_get devices d.0) false

abbrev pub is_link : List DeviceRow → LinkRow → Bool
is_link devices row =
    nat_lt row.consumer.0 (length devices) && nat_lt row.supplier.0 row.consumer.0 && not (row.pm_runtime && lacks_callbacks devices row.consumer)

abbrev pub is_same_pair : LinkRow → LinkRow → Bool
is_same_pair a b = nat_eq a.consumer.0 b.consumer.0 && nat_eq a.supplier.0 b.supplier.0

-- the least number of milliseconds that the helper takes
abbrev pub least_ms : Helper → ℤ
least_ms SetAutosuspendDelay = neg_ℤ (pos 1000000)
least_ms _ = pos 0

abbrev pub is_operand : ℕ → Helper → Operand → ℤ → Bool
is_operand devices h Nothing n = int_eq n (pos 0)
is_operand devices h Milliseconds n = int_le (least_ms h) n && int_le n (pos 1000000)
is_operand devices h Switch n = int_eq n (pos 0) || int_eq n (pos 1)
is_operand devices h Supplier n = int_le (pos 0) n && nat_lt (nat_abs n) devices

-- a command over so many devices
abbrev pub is_command : ℕ → Command → Bool
is_command devices c =
    (if takes_device c.helper then nat_lt c.dev.0 devices else nat_eq c.dev.0 0) && is_operand devices c.helper (operand_of c.helper) c.number

abbrev pub is_script : ℕ → List Command → Bool
is_script devices script = nat_le (length script) 1000 && list_all (is_command devices) script

abbrev pub is_caller : ℕ → CallerRow → Bool
is_caller devices row = is_caller_name row.name && is_script devices row.script

abbrev pub is_plan : ℕ → ℕ → List DomainRow → List DeviceRow → List LinkRow → List CallerRow → Bool
is_plan lines trace domains devices links callers =
    nat_le 1 lines && nat_le lines 200000 && nat_le 1 trace && nat_le trace 2
    && nat_le (length domains) 128 && nat_le (length devices) 1024 && nat_le (length links) 1024 && nat_le (length callers) 16
    && each_at is_domain 0 domains && each_at (is_device (length domains)) 0 devices && list_all (is_link devices) links && list_all (is_caller (length devices)) callers
    && are_distinct bytes_eq (map (λ row. row.name) domains) && are_distinct bytes_eq (map (λ row. row.name) devices)
    && are_distinct is_same_pair links && are_distinct bytes_eq (map (λ row. row.name) callers)
