-- In a plan no two links are of one pair, so that what is said of a pair is said of one link; and what is said of a
-- consumer is said of its own links.
use Rattle.std.proofs.Common.{◌≡◌, ℕ, zero, suc, ◌<◌, Bool, true, false, not, ◌&&◌, cond, List, [], ◌∷◌, Option, Some, None, map, length, get_or, set, refl, sym, ap, ◌∙◌, inl, inr, arith, get_or-set_other}
use Rattle.std.specs.Prelude.{All, IfSome, nat_eq}
use Rattle.std.specs.List.{count_by, list_all, list_any, zip}
use Rattle.std.specs.Option.{option_map_or}
use Rattle.std.proofs.lemmas.Bool.{and_from, and_left, and_parts, and_right, cases_Bool, cases_eq, cases_order, cond-false, cond-true, eq-eqb, eqb-true, false_from_ne_true, ltb-true, not-true, true≢false}
use Rattle.std.proofs.lemmas.List.{get_or_default, length-set, same_lists}
use Rattle.std.proofs.lemmas.Grind.{common_steps, get_or-set_at}
use Rattle.std.proofs.lemmas.List.Folds.{list_any_at, list_any_none}
use Rattle.std.proofs.lemmas.List.Sums.{sum_by-set}
use Rattle.std.proofs.lemmas.Slice.Zip.{get_or-zip, length-zip}
use Rattle.pm_base.specs.declared.DevId.{DevId}
use Rattle.pm_model.specs.declared.plan.Plan.{Plan}
use Rattle.pm_model.specs.declared.rows.LinkRow.{LinkRow}
use Rattle.pm_model.specs.Changes.{at_pair}
use Rattle.pm_model.specs.ControlTable.{is_pair_in, may_be_absent}
use Rattle.pm_model.specs.Events.{frees_links}
use Rattle.pm_model.specs.Views.{Views}
use Rattle.pm_model.specs.declared.rows.CallerRow.{CallerRow}
use Rattle.pm_model.specs.declared.rows.DeviceRow.{DeviceRow}
use Rattle.pm_model.specs.declared.rows.DomainRow.{DomainRow}
use Rattle.pm_model.specs.IsPlan.{are_distinct, is_link, is_plan, is_same_pair}
use Rattle.pm_model.specs.PlanRows.{is_of_pair}
use Rattle.pm_link.specs.Links.{SetsPair, bit_at, no_link, row_at}
use Rattle.pm_link.specs.LinkOrder.{IsFirst, consumer_at, supplier_at}
use Rattle.pm_link.specs.Wanted.{is_taken_at, is_wanted_at}
use Rattle.pm_link.specs.declared.search.Want.{Want}
use Rattle.pm_link.specs.declared.search.Want.TheVariants.{Held, Free}
use Rattle.pm_link.proofs.FirstLemmas.{is_wanted_own}

-- of a list without two alike, two at different places aren't alike
distinct_at : {A : Type 0} (same : A → A → Bool) (xs : List A) (i j : ℕ) (d : A) → are_distinct same xs ≡ true → i < j → j < length xs → same (get_or xs i d) (get_or xs j d) ≡ false
distinct_at same [] i j d distinct lt below = absurd (omega arith)
distinct_at same (x ∷ xs) i zero d distinct lt below = absurd (omega arith)
distinct_at same (x ∷ xs) zero (suc j) d distinct lt below =
    false_from_ne_true (same x (get_or xs j d)) (λ alike. true≢false (sym (list_any_at (same x) xs j d (omega arith) alike) ∙ not-true (list_any (same x) xs) (and_parts (not (list_any (same x) xs)) (are_distinct same xs) distinct).0))
distinct_at same (x ∷ xs) (suc i) (suc j) d distinct lt below =
    distinct_at same xs i j d (and_parts (not (list_any (same x) xs)) (are_distinct same xs) distinct).1 (omega arith) (omega arith)

-- two links of one pair are alike
alike : (c s : DevId) (a b : LinkRow) → is_of_pair c s a ≡ true → is_of_pair c s b ≡ true → is_same_pair a b ≡ true
alike c s a b of_a of_b =
    let (ca, sa) = and_parts (nat_eq a.consumer.0 c.0) (nat_eq a.supplier.0 s.0) of_a in
    let (cb, sb) = and_parts (nat_eq b.consumer.0 c.0) (nat_eq b.supplier.0 s.0) of_b in
    and_from (nat_eq a.consumer.0 b.consumer.0) (nat_eq a.supplier.0 b.supplier.0)
    (eq-eqb a.consumer.0 b.consumer.0 (eqb-true a.consumer.0 c.0 ca ∙ sym (eqb-true b.consumer.0 c.0 cb)))
    (eq-eqb a.supplier.0 b.supplier.0 (eqb-true a.supplier.0 s.0 sa ∙ sym (eqb-true b.supplier.0 s.0 sb)))

-- the consumer of a link is a device
links_law : (lines trace : ℕ) (domains : List DomainRow) (devices : List DeviceRow) (links : List LinkRow) (callers : List CallerRow) → is_plan lines trace domains devices links callers ≡ true
    → list_all (is_link devices) links ≡ true
links_law lines trace domains devices links callers law = grind (arith, common_steps)

consumers_in : (devices : List DeviceRow) (links : List LinkRow) → list_all (is_link devices) links ≡ true → All (λ (row : LinkRow). row.consumer.0 < length devices) links
consumers_in devices [] all k d below = absurd (omega arith)
consumers_in devices (row ∷ links) all zero d below =
    ltb-true row.consumer.0 (length devices) (and_parts _ _ (and_parts _ _ (and_parts (is_link devices row) (list_all (is_link devices) links) all).0).0).0
consumers_in devices (row ∷ links) all (suc k) d below = consumers_in devices links (and_parts (is_link devices row) (list_all (is_link devices) links) all).1 k d (omega arith)

pub consumers_are_devices : (plan : Plan) → All (λ (row : LinkRow). row.consumer.0 < length plan.devices) plan.links
consumers_are_devices plan = consumers_in plan.devices plan.links (links_law plan.lines plan.trace plan.domains plan.devices plan.links plan.callers plan.law)

-- the links of a plan are of different pairs
pairs_differ : (plan : Plan) → are_distinct is_same_pair plan.links ≡ true
pairs_differ plan = (and_parts _ _ (and_parts _ _ plan.law).0).1

-- a link of the pair is the only one
pub only_link : (plan : Plan) (c s : DevId) (l k : ℕ) → l < length plan.links → k < length plan.links → is_of_pair c s (row_at plan.links l) ≡ true → is_of_pair c s (row_at plan.links k) ≡ true → k ≡ l
only_link plan c s l k below_l below_k of_l of_k =
    let apart : (i j : ℕ) → i < j → j < length plan.links → is_of_pair c s (row_at plan.links i) ≡ true → is_of_pair c s (row_at plan.links j) ≡ true → ⊥ = λ i j lt below of_i of_j.
    true≢false (sym (alike c s (row_at plan.links i) (row_at plan.links j) of_i of_j) ∙ distinct_at is_same_pair plan.links i j no_link (pairs_differ plan) lt below)
    in
    elim (cases_order k l) [ inl same ↦ same | inr either ↦ elim either [ inl lt ↦ absurd (apart k l lt below_l of_k of_l) | inr gt ↦ absurd (apart l k gt below_k of_l of_k) ] ]

-- each link that passes gets the value
abbrev marked : (LinkRow → Bool) → Bool → List LinkRow → List Bool → List Bool
marked passes b rows bits = map (λ p. cond (passes p.0) b p.1) (zip rows bits)

length-marked : (passes : LinkRow → Bool) (b : Bool) (rows : List LinkRow) (bits : List Bool) → length bits ≡ length rows → length (marked passes b rows bits) ≡ length bits
length-marked passes b [] [] long = refl
length-marked passes b [] (x ∷ bits) long = absurd (omega arith)
length-marked passes b (row ∷ rows) [] long = absurd (omega arith)
length-marked passes b (row ∷ rows) (x ∷ bits) long = ap suc (length-marked passes b rows bits (omega arith))

get_or-marked : (passes : LinkRow → Bool) (b : Bool) (rows : List LinkRow) (bits : List Bool) (k : ℕ) (d : Bool) → length bits ≡ length rows → k < length bits → get_or (marked passes b rows bits) k d ≡ cond (passes (row_at rows k)) b (get_or bits k d)
get_or-marked passes b rows [] k d long below = absurd (omega arith)
get_or-marked passes b [] (x ∷ bits) k d long below = absurd (omega arith)
get_or-marked passes b (row ∷ rows) (x ∷ bits) zero d long below = refl
get_or-marked passes b (row ∷ rows) (x ∷ bits) (suc k) d long below = get_or-marked passes b rows bits k d (omega arith) (omega arith)

-- the test of a link of the pair where it is the link found, and where it isn't
module _ (plan : Plan) (c s : DevId) (passes : ℕ → Bool) (same : (k : ℕ) → passes k ≡ is_of_pair c s (row_at plan.links k)) where
  here : (l : ℕ) → IsFirst passes plan.links (Some l) → is_of_pair c s (row_at plan.links l) ≡ true
  here l first = sym (same l) ∙ first.found.1

  elsewhere : (l k : ℕ) → IsFirst passes plan.links (Some l) → k < length plan.links → (k ≡ l → ⊥) → is_of_pair c s (row_at plan.links k) ≡ false
  elsewhere l k first below other =
      false_from_ne_true (is_of_pair c s (row_at plan.links k)) (λ pass. other (only_link plan c s l k first.found.0 below (here l first) pass))

  nowhere : (k : ℕ) → IsFirst passes plan.links None → k < length plan.links → is_of_pair c s (row_at plan.links k) ≡ false
  nowhere k first below = sym (same k) ∙ first.missing k below

  -- a write at the pair
  pub at_pair_is : (found : Option ℕ) → IsFirst passes plan.links found → (bits : List Bool) (b : Bool) → length bits ≡ length plan.links → at_pair plan c s b bits ≡ option_map_or (λ l. set bits l b) found bits
  at_pair_is None first bits b long =
      same_lists (marked (is_of_pair c s) b plan.links bits) bits (length-marked (is_of_pair c s) b plan.links bits long) (λ k d below.
      let lt : k < length bits = omega (arith, length-marked (is_of_pair c s) b plan.links bits long, below) in
      get_or-marked (is_of_pair c s) b plan.links bits k d long lt ∙ cond-false _ _ _ (nowhere k first (omega arith)))
  at_pair_is (Some l) first bits b long =
      same_lists (marked (is_of_pair c s) b plan.links bits) (set bits l b) (length-marked (is_of_pair c s) b plan.links bits long ∙ sym (length-set bits l b)) (λ k d below.
      let lt : k < length bits = omega (arith, length-marked (is_of_pair c s) b plan.links bits long, below) in
      get_or-marked (is_of_pair c s) b plan.links bits k d long lt ∙ elim (cases_eq k l) [
        | inl at ↦ cond-true _ _ _ (ap (λ n. is_of_pair c s (row_at plan.links n)) at ∙ here l first) ∙ sym (get_or-set_at bits l k b d at (omega arith))
        | inr other ↦ cond-false _ _ _ (elsewhere l k first (omega arith) other) ∙ sym (get_or-set_other bits l k b d other)
      ])

  -- some link of the pair passes a test
  any_of_pair : {X : Type 0} (found : Option ℕ) → IsFirst passes plan.links found → (test : X → Bool) (xs : List X) (d : X) (g : ℕ → Bool) → length xs ≡ length plan.links → ((k : ℕ) → k < length xs → test (get_or xs k d) ≡ (is_of_pair c s (row_at plan.links k) && g k)) → list_any test xs ≡ option_map_or g found false
  any_of_pair None first test xs d g long is =
      list_any_none test xs (λ k e lt. ap test (get_or_default xs k e d lt) ∙ is k lt ∙ and_left _ _ (nowhere k first (omega arith)))
  any_of_pair (Some l) first test xs d g long is =
      let fails : (k : ℕ) → k < length xs → g l ≡ false → test (get_or xs k d) ≡ false = λ k lt fail.
      is k lt ∙ elim (cases_eq k l) [
        | inl at ↦ and_right (is_of_pair c s (row_at plan.links k)) (g k) (ap g at ∙ fail)
        | inr other ↦ and_left (is_of_pair c s (row_at plan.links k)) (g k) (elsewhere l k first (omega arith) other)
      ]
      in
      elim (cases_Bool (g l)) [
        | inl pass ↦
            let lt : l < length xs = omega (arith, first.found.0) in
            list_any_at test xs l d lt (is l lt ∙ and_from (is_of_pair c s (row_at plan.links l)) (g l) (here l first) pass) ∙ sym pass
        | inr fail ↦ list_any_none test xs (λ k e lt. ap test (get_or_default xs k e d lt) ∙ fails k lt fail) ∙ sym fail
      ]

  -- a bit of the pair
  pub is_pair_in_is : (found : Option ℕ) → IsFirst passes plan.links found → (bits : List Bool) → length bits ≡ length plan.links → is_pair_in plan c s bits ≡ option_map_or (bit_at bits) found false
  is_pair_in_is found first bits long =
      let both : length (zip plan.links bits) ≡ length plan.links = omega (arith, length-zip plan.links bits) in
      any_of_pair found first (λ p. is_of_pair c s p.0 && p.1) (zip plan.links bits) (no_link, false) (bit_at bits) both (λ k lt.
      ap (λ (p : LinkRow × Bool). is_of_pair c s p.0 && p.1) (get_or-zip plan.links bits k (no_link, false) (omega arith) (omega arith)))

  -- whether the pair begins absent
  pub may_be_absent_is : (found : Option ℕ) → IsFirst passes plan.links found → may_be_absent plan c s ≡ option_map_or (λ l. (row_at plan.links l).later) found false
  may_be_absent_is found first =
      any_of_pair found first (λ row. is_of_pair c s row && row.later) plan.links no_link (λ l. (row_at plan.links l).later) refl (λ k lt. refl)

-- a write at the pair of a link
sets_pair : (plan : Plan) (c s : DevId) (l : ℕ) → l < length plan.links → is_of_pair c s (row_at plan.links l) ≡ true → SetsPair plan c s l
sets_pair plan c s l below pass =
    let is_first : IsFirst (λ k. is_of_pair c s (row_at plan.links k)) plan.links (Some l) = record {
      found = (below, pass, λ k below_k pass_k. let same = only_link plan c s l k below below_k pass pass_k in inr (ap (supplier_at plan.links) (sym same), omega arith));
      missing = tt;
    } in
    at_pair_is plan c s (λ k. is_of_pair c s (row_at plan.links k)) (λ k. refl) (Some l) is_first

-- as of a link found for its consumer
pub sets_pair_of_first : (plan : Plan) (want : Want) (d : DevId) (held present : List Bool) (found : Option ℕ) → IsFirst (is_wanted_at want d plan.links held present) plan.links found → IfSome found (λ l. SetsPair plan d (row_at plan.links l).supplier l)
sets_pair_of_first plan want d held present None first = tt
sets_pair_of_first plan want d held present (Some l) first =
    let mine = is_wanted_own want d plan.links held present l first.found.1 in
    sets_pair plan d (row_at plan.links l).supplier l first.found.0
    (and_from (nat_eq (consumer_at plan.links l) d.0) (nat_eq (supplier_at plan.links l) (supplier_at plan.links l)) (eq-eqb (consumer_at plan.links l) d.0 mine) (eq-eqb (supplier_at plan.links l) (supplier_at plan.links l) refl))

-- a held link is held, and a free one is free
pub held_of_first : (rows : List LinkRow) (d : DevId) (held present : List Bool) (found : Option ℕ) → IsFirst (is_wanted_at Held d rows held present) rows found → IfSome found (λ l. bit_at held l ≡ true)
held_of_first rows d held present None first = tt
held_of_first rows d held present (Some l) first = (and_parts _ _ first.found.1).1

pub free_of_first : (rows : List LinkRow) (d : DevId) (held present : List Bool) (found : Option ℕ) → IsFirst (is_wanted_at Free d rows held present) rows found → IfSome found (λ l. bit_at held l ≡ false)
free_of_first rows d held present None first = tt
free_of_first rows d held present (Some l) first = not-true (bit_at held l) (and_parts _ _ first.found.1).1

-- the links of the consumer are free
abbrev pub freed : DevId → List LinkRow → List Bool → List Bool
freed d rows held = marked (λ row. nat_eq row.consumer.0 d.0) false rows held

-- one of them is free already
pub freed-given : (d : DevId) (rows : List LinkRow) (held : List Bool) (l : ℕ) → length held ≡ length rows → is_taken_at d rows held l ≡ true → freed d rows (set held l false) ≡ freed d rows held
freed-given d rows held l long taken =
    let mine : LinkRow → Bool = λ row. nat_eq row.consumer.0 d.0 in
    let after : length (set held l false) ≡ length rows = length-set held l false ∙ long in
    let len = length-marked mine false rows (set held l false) after in
    let len_before = length-marked mine false rows held long in
    same_lists (freed d rows (set held l false)) (freed d rows held) (omega (arith, len, len_before, after, long)) (λ k e below.
    let lt : k < length held = omega (arith, len, length-set held l false) in
    get_or-marked mine false rows (set held l false) k e after (omega (arith, length-set held l false))
    ∙ elim (cases_eq k l) [
      | inl at ↦
          let is : mine (row_at rows k) ≡ true = ap (λ i. mine (row_at rows i)) at ∙ (and_parts _ _ taken).0 in
          cond-true _ _ _ is ∙ sym (cond-true _ _ _ is)
      | inr other ↦ ap (cond (mine (row_at rows k)) false) (get_or-set_other held l k false e other)
    ]
    ∙ sym (get_or-marked mine false rows held k e long lt))

-- all of them are free already
pub freed-none : (d : DevId) (rows : List LinkRow) (held : List Bool) → length held ≡ length rows → ((l : ℕ) → l < length rows → is_taken_at d rows held l ≡ false) → freed d rows held ≡ held
freed-none d rows held long none =
    let mine : LinkRow → Bool = λ row. nat_eq row.consumer.0 d.0 in
    let len = length-marked mine false rows held long in
    same_lists (freed d rows held) held len (λ k e below.
    let lt : k < length held = omega (arith, len) in
    get_or-marked mine false rows held k e long lt
    ∙ elim (cases_Bool (mine (row_at rows k))) [
      | inl is ↦ cond-true _ _ _ is ∙ sym (get_or_default held k e false lt ∙ sym (ap (λ c. c && bit_at held k) is) ∙ none k (omega arith))
      | inr not ↦ cond-false _ _ _ not
    ])

-- they are those that an event frees
pub freed_is : (plan : Plan) (d : DevId) (v : Views) → (frees_links plan d v).held ≡ freed d plan.links v.held
unfolding frees_links
freed_is plan d v = refl

abbrev bit : Bool → ℕ
bit b = cond b 1 0

-- how many links are held
abbrev pub held_count : List Bool → ℕ
held_count held = count_by (λ b. b) held

pub held_count-given : (held : List Bool) (l : ℕ) → l < length held → bit_at held l ≡ true → held_count (set held l false) < held_count held
held_count-given held l below is = omega (arith, sum_by-set bit held l false false below, ap bit is)
