-- The domains, devices and links are those of a plan.
use Rattle.std.proofs.Common.{◌≡◌, ℕ, zero, suc, ◌+◌, ◌-◌, ◌/◌, ◌%◌, ◌<◌, ◌≤◌, Bool, true, false, not, ◌&&◌, ◌||◌, List, [], ◌∷◌, ◌++◌, Option, Some, None, length, map, nat_eq, nat_lt, slice_get, le-leb, refl, ap, ◌∙◌, arith, if◌then◌else◌}
use Rattle.std.specs.List.{list_all, list_any, range_with_len}
use Rattle.std.specs.Option.{option_map_or}
use Rattle.std.proofs.Math.Nat.{mod-lt}
use Rattle.std.proofs.lemmas.Bool.{and_from, and_parts, lt-ltb}
use Rattle.std.proofs.lemmas.Bool.Decides.{nat_tests}
use Rattle.std.proofs.lemmas.List.{append-nil}
use Rattle.std.proofs.lemmas.List.Folds.{list_any-append}
use Rattle.pm_base.specs.declared.DevId.{DevId}
use Rattle.pm_base.specs.declared.DomId.{DomId}
use Rattle.pm_base.specs.declared.limits.TheConstants.{MAX_MS}
use Rattle.pm_model.specs.declared.rows.DeviceRow.{DeviceRow}
use Rattle.pm_model.specs.declared.rows.LinkRow.{LinkRow}
use Rattle.pm_model.specs.IsPlan.{are_distinct, each_at, is_device, is_domain, is_link, is_same_pair, is_time}
use Rattle.pm_make.specs.Draws.{Drawn, draw, in_turn, next_state}
use Rattle.pm_make.specs.Generator.{device, device_step, domain_count, domain_row, link_row, link_step, name, parent_of}
use Rattle.pm_make.proofs.InTurn.{all_in_turn, length_at_most, length_of_ones, names_in_turn, each_in_turn}
use Rattle.pm_make.proofs.Names.{is_named}

-- domains

domain_parent : (zero_place : Bool) (i : ℕ) → nat_eq i 0 ≡ zero_place → option_map_or (λ p. nat_lt p.0 i) (if◌then◌else◌ {A = Option DomId} zero_place None (Some (record { 0 = (i - 1) / 2 }))) true ≡ true
domain_parent true i is = refl
domain_parent false i is = let above : 0 < i = grind (arith, nat_tests) in lt-ltb ((i - 1) / 2) i (omega arith)

domain_ok : (i : ℕ) → i ≤ 1024 → is_domain i (domain_row i) ≡ true
unfolding domain_row
domain_ok i few = and_from _ _ (is_named 109 i refl few) (domain_parent (nat_eq i 0) i refl)

pub domains_each : (a n : ℕ) → a + n ≤ 1024 → each_at is_domain a (map domain_row (range_with_len a n)) ≡ true
domains_each a zero few = refl
domains_each a (suc n) few = and_from _ _ (domain_ok a (omega arith)) (domains_each (a + 1) n (omega arith))

pub domain_names : (a n : ℕ) → map (λ row. row.name) (map domain_row (range_with_len a n)) ≡ map (name (109 ∷ [])) (range_with_len a n)
unfolding domain_row
domain_names a zero = refl
domain_names a (suc n) = ap (λ s. name (109 ∷ []) a ∷ s) (domain_names (a + 1) n)

-- devices

abbrev parent_in : Bool → Bool → ℕ → ℕ → ℕ → ℕ → Drawn (Option DevId)
parent_in zero_place never p x t u = if zero_place then record { item = None; state = x } else (if never then record { item = None; state = t } else record { item = Some (record { 0 = p }); state = u })

parent_in_cases : (zero_place never : Bool) (P : Option DevId → Type 0) (i a x t u : ℕ) → nat_eq i 0 ≡ zero_place → P None → ((p : ℕ) → p < i → P (Some (record { 0 = p }))) → P (parent_in zero_place never (a % i) x t u).item
parent_in_cases true never P i a x t u is none some = none
parent_in_cases false true P i a x t u is none some = none
parent_in_cases false false P i a x t u is none some = let above : 0 < i = grind (arith, nat_tests) in some (a % i) (mod-lt a above)

-- a device has no parent, or an earlier one
parent_cases : (P : Option DevId → Type 0) (i x : ℕ) → P None → ((p : ℕ) → p < i → P (Some (record { 0 = p }))) → P (parent_of i x).item
unfolding parent_of
parent_cases P i x none some =
    let chance = draw 4 x in
    parent_in_cases (nat_eq i 0) (nat_eq chance.item 0) P i (next_state chance.state / 65536) x chance.state (draw i chance.state).state refl none some

parent_earlier : (i x : ℕ) → option_map_or (λ p. nat_lt p.0 i) (parent_of i x).item true ≡ true
parent_earlier i x = parent_cases (λ parent. option_map_or (λ p. nat_lt p.0 i) parent true ≡ true) i x refl (λ p below. lt-ltb p i below)

small : (a : ℕ) → is_time (a % 20) ≡ true
small a = le-leb (a % 20) MAX_MS (omega arith)

device_ok : (n i x : ℕ) → i < n → n ≤ 1024 → is_device (domain_count n) i (device i x).item ≡ true
unfolding device
device_ok n i x below few =
    and_from _ _ (and_from _ _ (and_from _ _ (and_from _ _ (and_from _ _ (and_from _ _ (and_from _ _ (and_from _ _ (and_from _ _
    (is_named 100 i refl (omega arith))
    (parent_earlier i x))
    (lt-ltb (i / 8) ((n - 1) / 8 + 1) (omega arith)))
    refl)
    refl)
    (small _))
    (small _))
    refl)
    refl)
    refl

device_name : (i x : ℕ) → (device i x).item.name ≡ name (100 ∷ []) i
unfolding device
device_name i x = refl

device_calls : (i x : ℕ) → (device i x).item.no_callbacks ≡ false
unfolding device
device_calls i x = refl

pub devices_each : (n x : ℕ) → n ≤ 1024 → each_at (is_device (domain_count n)) 0 (in_turn device_step n x).item ≡ true
devices_each n x few = each_in_turn (is_device (domain_count n)) device_step (λ i y. (device i y).item) n x (λ i y. refl) (λ i y below. device_ok n i y below few)

pub device_names : (n x : ℕ) → map (λ row. row.name) (in_turn device_step n x).item ≡ map (name (100 ∷ [])) (range_with_len 0 n)
device_names n x = names_in_turn (λ row. row.name) (name (100 ∷ [])) device_step (λ i y. (device i y).item) n x (λ i y. refl) (λ i y. device_name i y)

pub device_count : (n x : ℕ) → length (in_turn device_step n x).item ≡ n
device_count n x = length_of_ones device_step n x (λ i y. refl)

pub devices_call : (n x : ℕ) → list_all (λ row. not row.no_callbacks) (in_turn device_step n x).item ≡ true
devices_call n x = all_in_turn (λ row. not row.no_callbacks) device_step n x (λ i y below. and_from _ _ (ap not (device_calls i y)) refl)

not_true : (b : Bool) → not b ≡ true → b ≡ false
not_true true is = cc
not_true false is = refl

lacks_none : (devices : List DeviceRow) (k : ℕ) → list_all (λ row. not row.no_callbacks) devices ≡ true → option_map_or (λ row. row.no_callbacks) (slice_get devices k) false ≡ false
lacks_none [] k all = refl
lacks_none (row ∷ rows) zero all = let (here, rest) = and_parts (not row.no_callbacks) (list_all (λ r. not r.no_callbacks) rows) all in not_true row.no_callbacks here
lacks_none (row ∷ rows) (suc k) all = let (here, rest) = and_parts (not row.no_callbacks) (list_all (λ r. not r.no_callbacks) rows) all in lacks_none rows k rest

-- links

abbrev link_in : Bool → Bool → ℕ → ℕ → ℕ → ℕ → ℕ → Drawn (List LinkRow)
link_in zero_place drawn i s x t u = if zero_place then record { item = []; state = x } else (if drawn then record { item = link_row i s ∷ []; state = u } else record { item = []; state = t })

link_in_cases : (zero_place drawn : Bool) (P : List LinkRow → Type 0) (i a x t u : ℕ) → nat_eq i 0 ≡ zero_place → P [] → ((s : ℕ) → s < i → P (link_row i s ∷ [])) → P (link_in zero_place drawn i (a % i) x t u).item
link_in_cases true drawn P i a x t u is none one = none
link_in_cases false true P i a x t u is none one = let above : 0 < i = grind (arith, nat_tests) in one (a % i) (mod-lt a above)
link_in_cases false false P i a x t u is none one = none

-- a device has no link, or one to an earlier supplier
link_cases : (P : List LinkRow → Type 0) (i x : ℕ) → P [] → ((s : ℕ) → s < i → P (link_row i s ∷ [])) → P (link_step i x).item
unfolding link_step
link_cases P i x none one =
    let chance = draw 3 x in
    link_in_cases (nat_eq i 0) (nat_eq chance.item 0) P i (next_state chance.state / 65536) x chance.state (draw i chance.state).state refl none one

link_ok : (devices : List DeviceRow) (i x : ℕ) → i < length devices → list_all (λ row. not row.no_callbacks) devices ≡ true → list_all (is_link devices) (link_step i x).item ≡ true
link_ok devices i x here calls =
    link_cases (λ rows. list_all (is_link devices) rows ≡ true) i x refl (λ s below.
    and_from _ _ (and_from _ _ (and_from _ _ (lt-ltb i (length devices) here) (lt-ltb s i below)) (ap not (lacks_none devices i calls))) refl)

pub links_ok : (devices : List DeviceRow) (n x : ℕ) → length devices ≡ n → list_all (λ row. not row.no_callbacks) devices ≡ true → list_all (is_link devices) (in_turn link_step n x).item ≡ true
links_ok devices n x count calls = all_in_turn (is_link devices) link_step n x (λ i y below. link_ok devices i y (omega arith) calls)

link_at_most_one : (i x : ℕ) → length (link_step i x).item ≤ 1
link_at_most_one i x = link_cases (λ rows. length rows ≤ 1) i x (omega arith) (λ s below. omega arith)

pub link_count : (n x : ℕ) → length (in_turn link_step n x).item ≤ n
link_count n x = length_at_most link_step n x link_at_most_one

abbrev is_of_earlier : ℕ → LinkRow → Bool
is_of_earlier n row = nat_lt row.consumer.0 n

link_of_earlier : (n i x : ℕ) → i < n → list_all (is_of_earlier n) (link_step i x).item ≡ true
link_of_earlier n i x below = link_cases (λ rows. list_all (is_of_earlier n) rows ≡ true) i x refl (λ s less. and_from _ _ (lt-ltb i n below) refl)

apart : (a i : ℕ) (b : Bool) → nat_lt a i ≡ true → (nat_eq a i && b) ≡ false
apart a i b below = let differ : nat_eq a i ≡ false = grind (arith, nat_tests) in rw differ refl

none_same : (xs : List LinkRow) (i s : ℕ) → list_all (is_of_earlier i) xs ≡ true → list_any (λ row. is_same_pair row (link_row i s)) xs ≡ false
none_same [] i s earlier = refl
none_same (row ∷ rows) i s earlier =
    let (here, rest) = and_parts (is_of_earlier i row) (list_all (is_of_earlier i) rows) earlier in
    rw (apart row.consumer.0 i (nat_eq row.supplier.0 s) here, none_same rows i s rest) refl

neither : (a b : Bool) → (a || b) ≡ false → (a ≡ false) × (b ≡ false)
neither false b is = (refl, is)
neither true b is = cc

both_none : (a b : Bool) → not a ≡ true → b ≡ false → (a || (b || false)) ≡ false
both_none true b p q = cc
both_none false true p q = cc
both_none false false p q = refl

distinct_more : {A : Type 0} (same : A → A → Bool) (xs : List A) (y : A) → are_distinct same xs ≡ true → list_any (λ x. same x y) xs ≡ false → are_distinct same (xs ++ y ∷ []) ≡ true
distinct_more same [] y distinct none = refl
distinct_more same (x ∷ xs) y distinct none =
    let (first, rest) = and_parts (not (list_any (same x) xs)) (are_distinct same xs) distinct in
    let (here, after) = neither (same x y) (list_any (λ z. same z y) xs) none in
    let more : list_any (same x) (xs ++ y ∷ []) ≡ false = list_any-append (same x) xs (y ∷ []) ∙ both_none (list_any (same x) xs) (same x y) first here in
    rw (more, distinct_more same xs y rest after) refl

distinct_step : (xs : List LinkRow) (i x : ℕ) → are_distinct is_same_pair xs ≡ true → list_all (is_of_earlier i) xs ≡ true → are_distinct is_same_pair (xs ++ (link_step i x).item) ≡ true
distinct_step xs i x distinct earlier =
    link_cases (λ rows. are_distinct is_same_pair (xs ++ rows) ≡ true) i x (rw (append-nil xs) distinct)
    (λ s below. distinct_more is_same_pair xs (link_row i s) distinct (none_same xs i s earlier))

pub links_distinct : (n x : ℕ) → are_distinct is_same_pair (in_turn link_step n x).item ≡ true
links_distinct zero x = refl
links_distinct (suc i) x =
    distinct_step (in_turn link_step i x).item i (in_turn link_step i x).state (links_distinct i x) (all_in_turn (is_of_earlier i) link_step i x (λ j y below. link_of_earlier i j y below))
