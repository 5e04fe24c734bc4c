-- The rows of a plan that isn't refused, one by one.
use Rattle.std.proofs.Common.{◌≡◌, ℕ, Bool, true, false, not, ◌&&◌, ◌||◌, ℤ, List, [], ◌∷◌, length, map, Option, Some, None, is_some, nat_le, nat_lt, option_and_then, option_map, refl, ap, arith}
use Rattle.std.proofs.lemmas.Bool.{and_from}
use Rattle.std.proofs.lemmas.Bool.Decides.{nat_tests}
use Rattle.std.specs.Option.{option_map_or}
use Rattle.pm_base.specs.declared.DevId.{DevId}
use Rattle.pm_base.specs.declared.DomId.{DomId}
use Rattle.pm_base.specs.declared.limits.TheConstants.{MAX_MS}
use Rattle.pm_model.specs.IsPlan.{are_codes, is_device, is_domain, is_name, is_time}
use Rattle.pm_model.specs.NamedList.{place_named}
use Rattle.pm_planread.specs.declared.tree.raw.RawDomain.{RawDomain}
use Rattle.pm_planread.specs.declared.tree.raw.RawDevice.{RawDevice}
use Rattle.pm_planread.specs.declared.tree.raw.RawCaller.{RawCaller}
use Rattle.pm_planread.specs.declared.tree.raw.RawPlan.{RawPlan}
use Rattle.pm_planread.proofs.rows.PositionLemmas.{place_below}
use Rattle.pm_planread.proofs.RangeLemmas.{at_most, codes_are}
use Rattle.pm_planread.specs.rows.Names.{caller_names, device_names, domain_names}
use Rattle.pm_planread.specs.Scripts.{caller_row, caller_rows}
use Rattle.pm_planread.specs.rows.Rows.{codes_of, device_of, device_row, device_rows, domain_of, domain_row, domain_rows, ms_of}
use Rattle.pm_planread.specs.rows.TooMany.{are_many_codes, has_many_codes}

names_of_list : (domains devices : List (List ℕ)) (rows : List RawDevice) → map (λ row. row.name) (map (device_row domains devices) rows) ≡ map (λ row. row.name) rows
unfolding device_row
names_of_list domains devices [] = refl
names_of_list domains devices (row ∷ rows) = ap (λ rest. row.name ∷ rest) (names_of_list domains devices rows)

-- the devices keep their names
pub names_of_rows : (raw : RawPlan) → map (λ row. row.name) (device_rows raw) ≡ device_names raw
names_of_rows raw = names_of_list _ _ raw.devices

-- a parent that isn't later
abbrev pub is_early : ℕ → Option ℕ → Bool
is_early i place = option_map_or (λ p. nat_lt p i) place true

domain_parent : (i : ℕ) (place : Option ℕ) → option_map_or (λ p. nat_le i p.0) (option_map {U = DomId} (λ p. record { 0 = p }) place) false ≡ false → option_map_or (λ p. nat_lt p.0 i) (option_map {U = DomId} (λ p. record { 0 = p }) place) true ≡ true
domain_parent i None late = refl
domain_parent i (Some p) late = grind (arith, nat_tests)

domain_parent_of : (names : List (List ℕ)) (i : ℕ) (parent : Option (List ℕ)) → option_map_or (λ p. nat_le i p.0) (option_and_then (domain_of names) parent) false ≡ false → option_map_or (λ p. nat_lt p.0 i) (option_and_then (domain_of names) parent) true ≡ true
domain_parent_of names i None late = refl
domain_parent_of names i (Some name) late = domain_parent i (place_named name names) late

device_parent : (i : ℕ) (place : Option ℕ) → option_map_or (λ p. nat_le i p.0) (option_map {U = DevId} (λ p. record { 0 = p }) place) false ≡ false → option_map_or (λ p. nat_lt p.0 i) (option_map {U = DevId} (λ p. record { 0 = p }) place) true ≡ true
device_parent i None late = refl
device_parent i (Some p) late = grind (arith, nat_tests)

device_parent_of : (names : List (List ℕ)) (i : ℕ) (parent : Option (List ℕ)) → option_map_or (λ p. nat_le i p.0) (option_and_then (device_of names) parent) false ≡ false → option_map_or (λ p. nat_lt p.0 i) (option_and_then (device_of names) parent) true ≡ true
device_parent_of names i None late = refl
device_parent_of names i (Some name) late = device_parent i (place_named name names) late

domain_there : (n : ℕ) (place : Option ℕ) → option_map_or (λ p. nat_lt p n) place true ≡ true → option_map_or (λ o. nat_lt o.0 n) (option_map {U = DomId} (λ p. record { 0 = p }) place) true ≡ true
domain_there n None below = refl
domain_there n (Some p) below = below

domain_there_of : (names : List (List ℕ)) (domain : Option (List ℕ)) → option_map_or (λ o. nat_lt o.0 (length names)) (option_and_then (domain_of names) domain) true ≡ true
domain_there_of names None = refl
domain_there_of names (Some name) = domain_there (length names) (place_named name names) (place_below name names)

pub domain_ok : (names : List (List ℕ)) (i : ℕ) (row : RawDomain) → is_name row.name ≡ true → option_map_or (λ p. nat_le i p.0) (domain_row names row).parent false ≡ false → is_domain i (domain_row names row) ≡ true
unfolding domain_row
domain_ok names i row named late = and_from (is_name row.name) _ named (domain_parent_of names i row.parent late)

-- the parts of a device row
idle_codes_ok : (idle : Option (List ℤ)) → option_map_or are_many_codes idle false ≡ false → option_map_or are_codes (option_map codes_of idle) true ≡ true
idle_codes_ok None few = refl
idle_codes_ok (Some codes) few = codes_are codes few

many_parts : (a b c : Bool) → not (a || b || c) ≡ true → (a ≡ false) × (b ≡ false) × (c ≡ false)
many_parts false false false few = (refl, refl, refl)
many_parts true b c few = absurd (grind (arith, nat_tests))
many_parts false true c few = absurd (grind (arith, nat_tests))
many_parts false false true few = absurd (grind (arith, nat_tests))

pub false_not : (b : Bool) → b ≡ false → not b ≡ true
false_not true is = cc
false_not false is = refl

pub not_false : (b : Bool) → not b ≡ true → b ≡ false
not_false true is = cc
not_false false is = refl

pub not_true : (b : Bool) → not b ≡ false → b ≡ true
not_true true is = refl
not_true false is = cc

time_ok : (n : ℤ) → is_time (ms_of n) ≡ true
time_ok n = at_most 0 MAX_MS n (omega arith)

pub device_ok : (domains devices : List (List ℕ)) (i : ℕ) (row : RawDevice) → is_name row.name ≡ true → not (has_many_codes row) ≡ true
    → option_map_or (λ p. nat_le i p.0) (device_row domains devices row).parent false ≡ false
    → ((device_row domains devices row).no_callbacks && is_some (device_row domains devices row).domain) ≡ false
    → is_device (length domains) i (device_row domains devices row) ≡ true
unfolding device_row
device_ok domains devices i row named few late alone =
    let (idle, suspend, resume) = many_parts (option_map_or are_many_codes row.idle false) (are_many_codes row.suspend) (are_many_codes row.resume) few in
    and_from _ _ (and_from _ _ (and_from _ _ (and_from _ _ (and_from _ _ (and_from _ _ (and_from _ _ (and_from _ _ (and_from _ _
    named
    (device_parent_of devices i row.parent late))
    (domain_there_of domains row.domain))
    (false_not _ alone))
    (time_ok row.idle_ms))
    (time_ok row.suspend_ms))
    (time_ok row.resume_ms))
    (idle_codes_ok row.idle idle))
    (codes_are row.suspend suspend))
    (codes_are row.resume resume)

names_of_domain_list : (domains : List (List ℕ)) (rows : List RawDomain) → map (λ row. row.name) (map (domain_row domains) rows) ≡ map (λ row. row.name) rows
unfolding domain_row
names_of_domain_list domains [] = refl
names_of_domain_list domains (row ∷ rows) = ap (λ rest. row.name ∷ rest) (names_of_domain_list domains rows)

pub names_of_domains : (raw : RawPlan) → map (λ row. row.name) (domain_rows raw) ≡ domain_names raw
names_of_domains raw = names_of_domain_list _ raw.domains

names_of_caller_list : (devices : List (List ℕ)) (rows : List RawCaller) → map (λ row. row.name) (map (caller_row devices) rows) ≡ map (λ row. row.name) rows
names_of_caller_list devices [] = refl
names_of_caller_list devices (row ∷ rows) = ap (λ rest. row.name ∷ rest) (names_of_caller_list devices rows)

pub names_of_callers : (raw : RawPlan) → map (λ row. row.name) (caller_rows raw) ≡ caller_names raw
names_of_callers raw = names_of_caller_list (device_names raw) raw.callers
