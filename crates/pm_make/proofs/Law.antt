-- The plan of the generator is a plan.
use Rattle.std.proofs.Common.{◌≡◌, ℕ, ◌≤◌, true, List, length, le-leb, refl, arith}
use Rattle.std.proofs.lemmas.Bool.{and_from}
use Rattle.std.proofs.lemmas.List.FromFn.{length-map-range_with_len}
use Rattle.pm_base.specs.declared.limits.TheConstants.{MAX_LINES, MAX_DOMAINS, MAX_DEVICES, MAX_LINKS, MAX_CALLERS}
use Rattle.pm_model.specs.declared.rows.CallerRow.{CallerRow}
use Rattle.pm_model.specs.declared.rows.DeviceRow.{DeviceRow}
use Rattle.pm_model.specs.declared.rows.DomainRow.{DomainRow}
use Rattle.pm_model.specs.declared.rows.LinkRow.{LinkRow}
use Rattle.pm_model.specs.IsPlan.{is_plan}
use Rattle.pm_make.specs.Draws.{in_turn}
use Rattle.pm_make.specs.Generator.{caller_step, device_step, domain_count, domain_row, domain_rows, link_step}
use Rattle.pm_make.proofs.Names.{distinct_named}
use Rattle.pm_make.proofs.RowLemmas.{device_count, device_names, devices_call, devices_each, domain_names, domains_each, link_count, links_distinct, links_ok}
use Rattle.pm_make.proofs.Scripts.{caller_count, callers_distinct, callers_ok}

law : (n x y z : ℕ) → 1 ≤ n → n ≤ 1024
    → is_plan MAX_LINES 1 (domain_rows n) (in_turn device_step n x).item (in_turn link_step n y).item (in_turn (caller_step n) 4 z).item ≡ true
law n x y z some few =
    let domains : length (domain_rows n) ≡ domain_count n = length-map-range_with_len domain_row 0 (domain_count n) in
    let count : length (in_turn device_step n x).item ≡ n = device_count n x in
    and_from _ _ (and_from _ _ (and_from _ _ (and_from _ _ (and_from _ _ (and_from _ _ (and_from _ _ (and_from _ _
    (and_from _ _ (and_from _ _ (and_from _ _ (and_from _ _ (and_from _ _ (and_from _ _ (and_from _ _
    refl
    refl)
    refl)
    refl)
    (le-leb (length (domain_rows n)) MAX_DOMAINS (omega arith)))
    (le-leb (length (in_turn device_step n x).item) MAX_DEVICES (omega arith)))
    (le-leb (length (in_turn link_step n y).item) MAX_LINKS (omega (arith, link_count n y))))
    (le-leb (length (in_turn (caller_step n) 4 z).item) MAX_CALLERS (omega (arith, caller_count n z))))
    (domains_each 0 (domain_count n) (omega arith)))
    (rw domains (devices_each n x few)))
    (links_ok (in_turn device_step n x).item n y count (devices_call n x)))
    (rw count (callers_ok n z (omega arith) few)))
    (rw (domain_names 0 (domain_count n)) (distinct_named 109 0 (domain_count n) (omega arith))))
    (rw (device_names n x) (distinct_named 100 0 n (omega arith))))
    (links_distinct n y))
    (callers_distinct n 4 z (omega arith))

pub law_of : (n x y z lines trace : ℕ) (domains : List DomainRow) (rows : List DeviceRow) (links : List LinkRow) (callers : List CallerRow)
    → 1 ≤ n → n ≤ 1024 → lines ≡ MAX_LINES → trace ≡ 1 → domains ≡ domain_rows n
    → rows ≡ (in_turn device_step n x).item → links ≡ (in_turn link_step n y).item → callers ≡ (in_turn (caller_step n) 4 z).item
    → is_plan lines trace domains rows links callers ≡ true
law_of n x y z lines trace domains rows links callers some few l t o d k c = rw (l, t, o, d, k, c) (law n x y z some few)
