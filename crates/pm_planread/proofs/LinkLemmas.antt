-- The links of a plan that isn't refused.
use Rattle.std.proofs.Common.{◌≡◌, ℕ, Bool, true, false, ◌&&◌, ◌||◌, List, [], ◌∷◌, length, map, get_or, Option, Some, None, is_none, nat_eq, nat_le, nat_lt, position, unwrap_or, refl, sym, ap, ◌∙◌, arith}
use Rattle.std.specs.List.{list_any}
use Rattle.std.specs.Option.{option_map_or}
use Rattle.std.specs.Str.{bytes_eq}
use Rattle.std.proofs.lemmas.Bool.{and_from, and_parts, false_from_ne_true, true≢false}
use Rattle.std.proofs.lemmas.Bool.Decides.{nat_tests}
use Rattle.std.proofs.lemmas.Slice.Eq.{bytes_eq-Decides}
use Rattle.pm_model.proofs.PlaceNamed.{not_same, place_named-found}
use Rattle.pm_model.specs.IsPlan.{are_distinct, is_link, is_same_pair, lacks_callbacks}
use Rattle.pm_model.specs.NamedList.{place_named}
use Rattle.pm_model.specs.declared.rows.DeviceRow.{DeviceRow}
use Rattle.pm_planread.specs.tree.Places.{first_fault}
use Rattle.pm_planread.specs.declared.tree.place.Section.{Section}
use Rattle.pm_planread.specs.declared.tree.place.Section.TheVariants.{Link}
use Rattle.pm_planread.specs.declared.tree.raw.RawLink.{RawLink}
use Rattle.pm_planread.proofs.DistinctLemmas.{distinct_by_place, none_before}
use Rattle.pm_planread.proofs.rows.FaultLemmas.{none_at, right}
use Rattle.pm_planread.proofs.rows.PositionLemmas.{place_below}
use Rattle.pm_planread.proofs.RowLemmas.{false_not}
use Rattle.pm_planread.specs.rows.Names.{first_repeat, is_earlier, is_same_link, is_unknown, link_unknown, repeated_link, repeated_name}
use Rattle.pm_planread.specs.rows.Rows.{link_row}

either_parts : (a b : Bool) → (a || b) ≡ false → (a ≡ false) × (b ≡ false)
either_parts false b neither = (refl, neither)
either_parts true b neither = cc

-- the test of two texts, the other way round
turned : (a b : List ℕ) → bytes_eq a b ≡ false → bytes_eq b a ≡ false
turned a b differ = not_same b a (λ same. true≢false (sym ((bytes_eq-Decides a b).1 (sym same)) ∙ differ))

-- names of which none stands earlier are distinct
pub distinct_names : (section : Section) (names : List (List ℕ)) → first_repeat section names ≡ None → are_distinct bytes_eq names ≡ true
distinct_names section names none =
    distinct_by_place bytes_eq names (λ i j d less below.
    let first : is_earlier j (place_named (get_or names j d) names) ≡ false = right section j _ (none_at (repeated_name section names) 0 names j j d none below (omega arith)) in
    turned (get_or names j d) (get_or names i d) (none_before (bytes_eq (get_or names j d)) names i j d first less below))

known_below : (place : Option ℕ) (n : ℕ) → is_none place ≡ false → option_map_or (λ p. nat_lt p n) place true ≡ true → nat_lt (unwrap_or place 0) n ≡ true
known_below None n known below = cc
known_below (Some p) n known below = below

less_of : (a b : ℕ) → nat_le a b ≡ false → nat_lt b a ≡ true
less_of a b late = grind (arith, nat_tests)

pub link_ok : (names : List (List ℕ)) (devices : List DeviceRow) (row : RawLink) → length devices ≡ length names
    → (is_unknown names row.consumer || is_unknown names row.supplier) ≡ false
    → nat_le (link_row names row).consumer.0 (link_row names row).supplier.0 ≡ false
    → ((link_row names row).pm_runtime && lacks_callbacks devices (link_row names row).consumer) ≡ false
    → is_link devices (link_row names row) ≡ true
unfolding link_row
link_ok names devices row count known late alone =
    let (consumer, supplier) = either_parts (is_unknown names row.consumer) (is_unknown names row.supplier) known in
    let there : nat_lt (unwrap_or (place_named row.consumer names) 0) (length devices) ≡ true =
    rw count (known_below (place_named row.consumer names) (length names) consumer (place_below row.consumer names)) in
    and_from _ _ (and_from _ _ there (less_of (unwrap_or (place_named row.consumer names) 0) (unwrap_or (place_named row.supplier names) 0) late)) (false_not _ alone)

-- names that are known and have one place are one name
same_name : (a b : List ℕ) (names : List (List ℕ)) (r s : Option ℕ) → r ≡ place_named a names → s ≡ place_named b names → is_none r ≡ false → is_none s ≡ false → nat_eq (unwrap_or r 0) (unwrap_or s 0) ≡ true → a ≡ b
same_name a b names None s r_is s_is r_known s_known same = cc
same_name a b names (Some p) None r_is s_is r_known s_known same = cc
same_name a b names (Some p) (Some q) r_is s_is r_known s_known same =
    let one : p ≡ q = grind (arith, nat_tests) in
    let here = place_named-found a names (Some p) r_is in
    let there = place_named-found b names (Some q) s_is in
    cc

link_differ : (names : List (List ℕ)) (x y : RawLink)
    → (is_unknown names x.consumer || is_unknown names x.supplier) ≡ false → (is_unknown names y.consumer || is_unknown names y.supplier) ≡ false
    → is_same_link y x ≡ false → is_same_pair (link_row names x) (link_row names y) ≡ false
unfolding link_row
link_differ names x y x_known y_known differ =
    let (x_consumer, x_supplier) = either_parts (is_unknown names x.consumer) (is_unknown names x.supplier) x_known in
    let (y_consumer, y_supplier) = either_parts (is_unknown names y.consumer) (is_unknown names y.supplier) y_known in
    false_from_ne_true _ (λ same.
    let (consumers, suppliers) = and_parts (nat_eq (unwrap_or (place_named x.consumer names) 0) (unwrap_or (place_named y.consumer names) 0)) (nat_eq (unwrap_or (place_named x.supplier names) 0) (unwrap_or (place_named y.supplier names) 0)) same in
    let consumer = same_name x.consumer y.consumer names (place_named x.consumer names) (place_named y.consumer names) refl refl x_consumer y_consumer consumers in
    let supplier = same_name x.supplier y.supplier names (place_named x.supplier names) (place_named y.supplier names) refl refl x_supplier y_supplier suppliers in
    true≢false (sym (and_from (bytes_eq y.consumer x.consumer) (bytes_eq y.supplier x.supplier) ((bytes_eq-Decides y.consumer x.consumer).1 (sym consumer)) ((bytes_eq-Decides y.supplier x.supplier).1 (sym supplier))) ∙ differ))

any_map : {A B : Type 0} (p : B → Bool) (g : A → B) (xs : List A) → list_any p (map g xs) ≡ list_any (λ x. p (g x)) xs
any_map p g [] = refl
any_map p g (x ∷ xs) = ap (λ rest. p (g x) || rest) (any_map p g xs)

distinct_map : {A B : Type 0} (same : B → B → Bool) (g : A → B) (xs : List A) → are_distinct same (map g xs) ≡ are_distinct (λ x y. same (g x) (g y)) xs
distinct_map same g [] = refl
distinct_map same g (x ∷ xs) = cc (any_map (same (g x)) g xs, distinct_map same g xs)

-- links whose names are known and of which none names an earlier pair are distinct
pub distinct_links : (names : List (List ℕ)) (links : List RawLink) → first_fault (link_unknown names) 0 links ≡ None → first_fault (repeated_link links) 0 links ≡ None → are_distinct is_same_pair (map (link_row names) links) ≡ true
distinct_links names links known none =
    distinct_map is_same_pair (link_row names) links
    ∙ distinct_by_place (λ x y. is_same_pair (link_row names x) (link_row names y)) links (λ i j d less below.
    let i_known = right Link i _ (none_at (link_unknown names) 0 links i i d known (omega arith) (omega arith)) in
    let j_known = right Link j _ (none_at (link_unknown names) 0 links j j d known below (omega arith)) in
    let first : is_earlier j (position (is_same_link (get_or links j d)) links) ≡ false = right Link j _ (none_at (repeated_link links) 0 links j j d none below (omega arith)) in
    link_differ names (get_or links i d) (get_or links j d) i_known j_known (none_before (is_same_link (get_or links j d)) links i j d first less below))
