-- The lists of a plan that isn't refused.
use Rattle.std.proofs.Common.{◌≡◌, ℕ, suc, ◌≤◌, Bool, true, false, not, ◌&&◌, ◌||◌, List, [], ◌∷◌, length, map, Option, Some, None, is_some, nat_le, nat_lt, le-leb, refl, sym, ◌∙◌, arith}
use Rattle.std.specs.List.{filter_map, list_all}
use Rattle.std.specs.Option.{option_map_or}
use Rattle.std.proofs.lemmas.Bool.{and_from, and_parts}
use Rattle.std.proofs.lemmas.Bool.Decides.{nat_tests}
use Rattle.pm_base.specs.declared.limits.TheConstants.{MAX_COMMANDS}
use Rattle.pm_model.specs.IsPlan.{each_at, is_caller, is_caller_name, is_command, is_device, is_domain, is_link, is_name, lacks_callbacks}
use Rattle.pm_model.specs.declared.rows.DomainRow.{DomainRow}
use Rattle.pm_model.specs.declared.rows.DeviceRow.{DeviceRow}
use Rattle.pm_planread.specs.tree.Places.{first_fault}
use Rattle.pm_planread.specs.declared.tree.place.Section.{Section}
use Rattle.pm_planread.specs.declared.tree.place.Section.TheVariants.{Domain, Device, Link, Caller}
use Rattle.pm_planread.specs.declared.tree.raw.RawDomain.{RawDomain}
use Rattle.pm_planread.specs.declared.tree.raw.RawDevice.{RawDevice}
use Rattle.pm_planread.specs.declared.tree.raw.RawLink.{RawLink}
use Rattle.pm_planread.specs.declared.tree.raw.RawCaller.{RawCaller}
use Rattle.pm_planread.proofs.rows.FaultLemmas.{each_all, each_both, each_map, each_of, right}
use Rattle.pm_planread.proofs.LinkLemmas.{link_ok}
use Rattle.pm_planread.proofs.RowLemmas.{device_ok, domain_ok, false_not, not_false, not_true}
use Rattle.pm_planread.specs.rows.Names.{bad_name, first_bad_name, is_name_in, is_unknown, link_unknown}
use Rattle.pm_planread.specs.rows.Orders.{device_later, domain_later, idle_consumer, idle_in_domain, link_later}
use Rattle.pm_planread.specs.rows.Rows.{device_row, domain_row, link_row}
use Rattle.pm_planread.specs.Scripts.{are_commands, caller_row, commands_in}
use Rattle.pm_planread.specs.rows.TooMany.{has_many_codes, has_many_commands}

named_each : (section : Section) (names : List (List ℕ)) → first_bad_name section names ≡ None → each_at (λ i name. is_name_in section name) 0 names ≡ true
named_each section names none =
    each_of (bad_name section) (λ i name. is_name_in section name) (λ i name none. not_true (is_name_in section name) (right section i (not (is_name_in section name)) none)) 0 names none

abbrev pub is_late_domain : ℕ → DomainRow → Bool
is_late_domain i row = option_map_or (λ p. nat_le i p.0) row.parent false

abbrev pub is_late_device : ℕ → DeviceRow → Bool
is_late_device i row = option_map_or (λ p. nat_le i p.0) row.parent false

abbrev pub is_idle_in_domain : DeviceRow → Bool
is_idle_in_domain row = row.no_callbacks && is_some row.domain

pub domains_each : (names : List (List ℕ)) (rows : List RawDomain) → first_bad_name Domain (map (λ row. row.name) rows) ≡ None → first_fault domain_later 0 (map (domain_row names) rows) ≡ None → each_at is_domain 0 (map (domain_row names) rows) ≡ true
domains_each names rows bad late =
    let named : each_at (λ i row. is_name row.name) 0 rows ≡ true =
    sym (each_map (λ row. row.name) (λ i name. is_name name) 0 rows) ∙ named_each Domain (map (λ row. row.name) rows) bad in
    let early : each_at (λ i row. not (is_late_domain i (domain_row names row))) 0 rows ≡ true =
    sym (each_map (domain_row names) (λ i row. not (is_late_domain i row)) 0 rows)
    ∙ each_of domain_later (λ i row. not (is_late_domain i row)) (λ i row none. false_not (is_late_domain i row) (right Domain i (is_late_domain i row) none)) 0 (map (domain_row names) rows) late in
    each_map (domain_row names) is_domain 0 rows
    ∙ each_both (λ i row. is_name row.name) (λ i row. not (is_late_domain i (domain_row names row))) (λ i row. is_domain i (domain_row names row))
    (λ i row is late. domain_ok names i row is (not_false (is_late_domain i (domain_row names row)) late)) 0 rows named early

pub devices_each : (domains devices : List (List ℕ)) (rows : List RawDevice) → first_bad_name Device (map (λ row. row.name) rows) ≡ None
    → each_at (λ i row. not (has_many_codes row)) 0 rows ≡ true
    → first_fault device_later 0 (map (device_row domains devices) rows) ≡ None
    → first_fault idle_in_domain 0 (map (device_row domains devices) rows) ≡ None
    → each_at (is_device (length domains)) 0 (map (device_row domains devices) rows) ≡ true
devices_each domains devices rows bad few late idle =
    let named : each_at (λ i row. is_name row.name) 0 rows ≡ true =
    sym (each_map (λ row. row.name) (λ i name. is_name name) 0 rows) ∙ named_each Device (map (λ row. row.name) rows) bad in
    let early : each_at (λ i row. not (is_late_device i (device_row domains devices row))) 0 rows ≡ true =
    sym (each_map (device_row domains devices) (λ i row. not (is_late_device i row)) 0 rows)
    ∙ each_of device_later (λ i row. not (is_late_device i row)) (λ i row none. false_not (is_late_device i row) (right Device i (is_late_device i row) none)) 0 (map (device_row domains devices) rows) late in
    let alone : each_at (λ i row. not (is_idle_in_domain (device_row domains devices row))) 0 rows ≡ true =
    sym (each_map (device_row domains devices) (λ i row. not (is_idle_in_domain row)) 0 rows)
    ∙ each_of idle_in_domain (λ i row. not (is_idle_in_domain row)) (λ i row none. false_not (is_idle_in_domain row) (right Device i (is_idle_in_domain row) none)) 0 (map (device_row domains devices) rows) idle in
    let front : each_at (λ i row. is_name row.name && not (has_many_codes row)) 0 rows ≡ true =
    each_both (λ i row. is_name row.name) (λ i row. not (has_many_codes row)) (λ i row. is_name row.name && not (has_many_codes row)) (λ i row a b. and_from _ _ a b) 0 rows named few in
    let back : each_at (λ i row. not (is_late_device i (device_row domains devices row)) && not (is_idle_in_domain (device_row domains devices row))) 0 rows ≡ true =
    each_both (λ i row. not (is_late_device i (device_row domains devices row))) (λ i row. not (is_idle_in_domain (device_row domains devices row)))
    (λ i row. not (is_late_device i (device_row domains devices row)) && not (is_idle_in_domain (device_row domains devices row))) (λ i row a b. and_from _ _ a b) 0 rows early alone in
    each_map (device_row domains devices) (is_device (length domains)) 0 rows
    ∙ each_both (λ i row. is_name row.name && not (has_many_codes row)) (λ i row. not (is_late_device i (device_row domains devices row)) && not (is_idle_in_domain (device_row domains devices row)))
    (λ i row. is_device (length domains) i (device_row domains devices row))
    (λ i row a b.
    let (is, short) = and_parts (is_name row.name) (not (has_many_codes row)) a in
    let (on_time, free) = and_parts (not (is_late_device i (device_row domains devices row))) (not (is_idle_in_domain (device_row domains devices row))) b in
    device_ok domains devices i row is short (not_false (is_late_device i (device_row domains devices row)) on_time) (not_false (is_idle_in_domain (device_row domains devices row)) free))
    0 rows front back

pub links_each : (names : List (List ℕ)) (devices : List DeviceRow) (rows : List RawLink) → length devices ≡ length names
    → first_fault (link_unknown names) 0 rows ≡ None
    → first_fault link_later 0 (map (link_row names) rows) ≡ None
    → first_fault (idle_consumer devices) 0 (map (link_row names) rows) ≡ None
    → list_all (is_link devices) (map (link_row names) rows) ≡ true
links_each names devices rows count unknown late idle =
    let known : each_at (λ i row. not (is_unknown names row.consumer || is_unknown names row.supplier)) 0 rows ≡ true =
    each_of (link_unknown names) (λ i row. not (is_unknown names row.consumer || is_unknown names row.supplier)) (λ i row none. false_not _ (right Link i (is_unknown names row.consumer || is_unknown names row.supplier) none)) 0 rows unknown in
    let early : each_at (λ i row. not (nat_le (link_row names row).consumer.0 (link_row names row).supplier.0)) 0 rows ≡ true =
    sym (each_map (link_row names) (λ i row. not (nat_le row.consumer.0 row.supplier.0)) 0 rows)
    ∙ each_of link_later (λ i row. not (nat_le row.consumer.0 row.supplier.0)) (λ i row none. false_not _ (right Link i (nat_le row.consumer.0 row.supplier.0) none)) 0 (map (link_row names) rows) late in
    let alone : each_at (λ i row. not ((link_row names row).pm_runtime && lacks_callbacks devices (link_row names row).consumer)) 0 rows ≡ true =
    sym (each_map (link_row names) (λ i row. not (row.pm_runtime && lacks_callbacks devices row.consumer)) 0 rows)
    ∙ each_of (idle_consumer devices) (λ i row. not (row.pm_runtime && lacks_callbacks devices row.consumer)) (λ i row none. false_not _ (right Link i (row.pm_runtime && lacks_callbacks devices row.consumer) none)) 0 (map (link_row names) rows) idle in
    let back : each_at (λ i row. not (nat_le (link_row names row).consumer.0 (link_row names row).supplier.0) && not ((link_row names row).pm_runtime && lacks_callbacks devices (link_row names row).consumer)) 0 rows ≡ true =
    each_both (λ i row. not (nat_le (link_row names row).consumer.0 (link_row names row).supplier.0)) (λ i row. not ((link_row names row).pm_runtime && lacks_callbacks devices (link_row names row).consumer))
    (λ i row. not (nat_le (link_row names row).consumer.0 (link_row names row).supplier.0) && not ((link_row names row).pm_runtime && lacks_callbacks devices (link_row names row).consumer)) (λ i row a b. and_from _ _ a b) 0 rows early alone in
    let each : each_at (λ i row. is_link devices (link_row names row)) 0 rows ≡ true =
    each_both (λ i row. not (is_unknown names row.consumer || is_unknown names row.supplier)) (λ i row. not (nat_le (link_row names row).consumer.0 (link_row names row).supplier.0) && not ((link_row names row).pm_runtime && lacks_callbacks devices (link_row names row).consumer))
    (λ i row. is_link devices (link_row names row))
    (λ i row a b.
    let (on_time, free) = and_parts (not (nat_le (link_row names row).consumer.0 (link_row names row).supplier.0)) (not ((link_row names row).pm_runtime && lacks_callbacks devices (link_row names row).consumer)) b in
    link_ok names devices row count (not_false _ a) (not_false _ on_time) (not_false _ free))
    0 rows known back in
    sym (each_all (is_link devices) 0 (map (link_row names) rows)) ∙ each_map (link_row names) (λ i row. is_link devices row) 0 rows ∙ each

fewer_cons : {A B : Type 0} (f : A → Option B) (x : A) (xs : List A) (b : Option B) → f x ≡ b → length (filter_map f xs) ≤ length xs → length (filter_map f (x ∷ xs)) ≤ suc (length xs)
fewer_cons f x xs (Some y) is rest = rw is (omega arith)
fewer_cons f x xs None is rest = rw is (omega arith)

fewer_mapped : {A B : Type 0} (f : A → Option B) (xs : List A) → length (filter_map f xs) ≤ length xs
fewer_mapped f [] = omega arith
fewer_mapped f (x ∷ xs) = fewer_cons f x xs (f x) refl (fewer_mapped f xs)

within : (n : ℕ) → nat_lt MAX_COMMANDS n ≡ false → n ≤ MAX_COMMANDS
within n few = grind (arith, nat_tests)

caller_ok : (names : List (List ℕ)) (devices : ℕ) (row : RawCaller) → is_caller_name row.name ≡ true → has_many_commands row ≡ false → are_commands devices (caller_row names row) ≡ true → is_caller devices (caller_row names row) ≡ true
caller_ok names devices row named few valid =
    let short : length (commands_in names row.script) ≤ length row.script = fewer_mapped _ row.script in
    let all_few : length row.script ≤ MAX_COMMANDS = within (length row.script) few in
    and_from (is_caller_name row.name) _ named (and_from (nat_le (length (commands_in names row.script)) MAX_COMMANDS) (list_all (is_command devices) (commands_in names row.script)) (le-leb (length (commands_in names row.script)) MAX_COMMANDS (omega arith)) valid)

pub callers_each : (names : List (List ℕ)) (devices : ℕ) (rows : List RawCaller) → first_bad_name Caller (map (λ row. row.name) rows) ≡ None
    → each_at (λ i row. not (has_many_commands row)) 0 rows ≡ true
    → list_all (are_commands devices) (map (caller_row names) rows) ≡ true
    → list_all (is_caller devices) (map (caller_row names) rows) ≡ true
callers_each names devices rows bad few valid =
    let named : each_at (λ i row. is_caller_name row.name) 0 rows ≡ true =
    sym (each_map (λ row. row.name) (λ i name. is_caller_name name) 0 rows) ∙ named_each Caller (map (λ row. row.name) rows) bad in
    let commands : each_at (λ i row. are_commands devices (caller_row names row)) 0 rows ≡ true =
    sym (each_map (caller_row names) (λ i row. are_commands devices row) 0 rows) ∙ each_all (are_commands devices) 0 (map (caller_row names) rows) ∙ valid in
    let front : each_at (λ i row. is_caller_name row.name && not (has_many_commands row)) 0 rows ≡ true =
    each_both (λ i row. is_caller_name row.name) (λ i row. not (has_many_commands row)) (λ i row. is_caller_name row.name && not (has_many_commands row)) (λ i row a b. and_from _ _ a b) 0 rows named few in
    let each : each_at (λ i row. is_caller devices (caller_row names row)) 0 rows ≡ true =
    each_both (λ i row. is_caller_name row.name && not (has_many_commands row)) (λ i row. are_commands devices (caller_row names row)) (λ i row. is_caller devices (caller_row names row))
    (λ i row a b. let (is, short) = and_parts (is_caller_name row.name) (not (has_many_commands row)) a in caller_ok names devices row is (not_false (has_many_commands row) short) b)
    0 rows front commands in
    sym (each_all (is_caller devices) 0 (map (caller_row names) rows)) ∙ each_map (caller_row names) (λ i row. is_caller devices row) 0 rows ∙ each
