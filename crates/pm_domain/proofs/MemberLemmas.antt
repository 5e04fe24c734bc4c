-- How many of a domain's devices or subdomains are marked, and the tests over all of them that the definitions have.
use Rattle.std.proofs.Common.{◌≡◌, ℕ, zero, suc, ◌+◌, ◌<◌, Bool, true, false, not, ◌&&◌, ◌||◌, List, [], ◌∷◌, Option, None, Some, length, map, cond, refl, sym, ap, subst, ◌∙◌, inl, inr, zero-add, arith}
use Rattle.std.specs.Prelude.{IfSome, nat_eq, slice_get, slice_index_or, slice_set}
use Rattle.std.specs.List.{enumerate_from, list_all, zip}
use Rattle.std.specs.Option.{option_map_or}
use Rattle.std.proofs.lemmas.Bool.{cases_eq, eq-eqb, ne_eqb}
use Rattle.std.proofs.lemmas.Grind.{get_or-set_at}
use Rattle.std.proofs.lemmas.List.{get_or-map, get_or-set_other, get_or_default, length-map, length-set}
use Rattle.std.proofs.lemmas.List.FromFn.{get_or-enumerate_from, length-enumerate_from}
use Rattle.std.proofs.lemmas.List.Sums.{sum_by-cons}
use Rattle.std.proofs.lemmas.Option.{IfSome_then}
use Rattle.std.proofs.lemmas.Slice.Zip.{get_or-zip, length-zip}
use Rattle.pm_base.specs.declared.DevId.{DevId}
use Rattle.pm_base.specs.declared.DomId.{DomId}
use Rattle.pm_model.specs.declared.plan.Plan.{Plan}
use Rattle.pm_model.specs.declared.rows.DeviceRow.{DeviceRow}
use Rattle.pm_model.specs.declared.rows.DomainRow.{DomainRow}
use Rattle.pm_model.specs.Derived.{are_off, are_quiet}
use Rattle.pm_model.specs.PlanRows.{domain, domain_parent}
use Rattle.pm_model.specs.Views.{Views}
use Rattle.pm_index.specs.OwnMarks.{AreBelow, bit_at, is_of, marked_of, owner_at, unmarked}
use Rattle.pm_domain.specs.Domains.{DomainViews, IsAwakeOf, IsMadeFor, above, homes, is_quiet, place_of}
use Rattle.pm_domain.specs.Walk.{are_off_but, are_quiet_but}
use Rattle.pm_domain.proofs.ChainLemmas.{home_within, parent_earlier}

-- an element of a list that has some
pub element : {X : Type 0} (xs : List X) (k : ℕ) → k < length xs → X
element [] k lt = absurd (omega arith)
element (x ∷ xs) k lt = x

-- a domain's own places
of_place : (o : ℕ) (x : Option DomId) → is_of o (place_of x) ≡ option_map_or (λ d. nat_eq d.0 o) x false
of_place o None = refl
of_place o (Some x) = refl

pub above_at : (rows : List DomainRow) (k : ℕ) → owner_at (map (λ row. place_of row.parent) rows) k ≡ place_of (domain_parent rows (record { 0 = k }))
above_at [] k = refl
above_at (row ∷ rows) zero = refl
above_at (row ∷ rows) (suc k) = above_at rows k

home_of : (rows : List DeviceRow) (k : ℕ) → owner_at (map (λ row. place_of row.domain) rows) k ≡ place_of (option_map_or (λ row. row.domain) (slice_get rows k) None)
home_of [] k = refl
home_of (row ∷ rows) zero = refl
home_of (row ∷ rows) (suc k) = home_of rows k

place_below : (n : ℕ) (q : Option DomId) → IfSome q (λ o. o.0 < n) → IfSome (place_of q) (λ x. x < n)
place_below n None h = tt
place_below n (Some o) h = h

-- each is one of the plan's
pub homes_below : (plan : Plan) → AreBelow (length plan.domains) (homes plan)
unfolding domain
homes_below plan k =
    subst (λ o. IfSome o (λ x. x < length plan.domains)) (sym (home_of plan.devices k)) (place_below (length plan.domains) (domain plan (record { 0 = k })) (home_within plan (record { 0 = k })))

pub above_below : (plan : Plan) → AreBelow (length plan.domains) (above plan)
above_below plan k =
    subst (λ o. IfSome o (λ x. x < length plan.domains)) (sym (above_at plan.domains k))
    (place_below (length plan.domains) (domain_parent plan.domains (record { 0 = k })) (IfSome_then (domain_parent plan.domains (record { 0 = k })) (parent_earlier plan (record { 0 = k })) (λ p h. h.1)))

-- where a test of each row fails exactly at o's marked places, it passes everywhere if o has none
none_marked : {X : Type 0} (test : X → Bool) (o : ℕ) (xs : List X) (owners : List (Option ℕ)) (bits : List Bool) → length xs ≡ length owners → length bits ≡ length owners
    → ((k : ℕ) (e : X) → k < length xs → test (slice_index_or xs k e) ≡ not (is_of o (owner_at owners k) && bit_at bits k)) → nat_eq (marked_of owners bits o) 0 ≡ list_all test xs
none_marked test o [] [] [] long same each = refl
none_marked test o [] [] (b ∷ bits) long same each = absurd (omega arith)
none_marked test o [] (p ∷ owners) bits long same each = absurd (omega arith)
none_marked test o (x ∷ xs) [] bits long same each = absurd (omega arith)
none_marked test o (x ∷ xs) (p ∷ owners) [] long same each = absurd (omega arith)
none_marked test o (x ∷ xs) (p ∷ owners) (b ∷ bits) long same each =
    let rest = none_marked test o xs owners bits (omega arith) (omega arith) (λ k e less. each (suc k) e (omega arith)) in
    let here : test x ≡ not (is_of o p && b) = each 0 x (omega arith) in
    ap (λ n. nat_eq n 0) (sum_by-cons (λ q. cond (is_of o q.0 && q.1) 1 0) (p, b) (zip owners bits)) ∙ one_more (is_of o p && b) (marked_of owners bits o) ∙ ap (λ t. not (is_of o p && b) && t) rest
    ∙ ap (λ t. t && list_all test xs) (sym here)
  where
    one_more : (b : Bool) (n : ℕ) → nat_eq (cond b 1 0 + n) 0 ≡ (not b && nat_eq n 0)
    one_more true n = ne_eqb (1 + n) 0 (λ e. omega (arith, e))
    one_more false n = ap (λ m. nat_eq m 0) (zero-add n)

-- in the words of the definitions
quiet_here : (me keyed quiet : Bool) → (me || not keyed || quiet) ≡ not (keyed && (not me && not quiet))
quiet_here true true quiet = refl
quiet_here true false quiet = refl
quiet_here false true true = refl
quiet_here false true false = refl
quiet_here false false quiet = refl

off_here : (keyed on : Bool) → (not keyed || not on) ≡ not (keyed && on)
off_here true on = refl
off_here false on = refl

-- equal places of one device
numbered : (m n : ℕ) (row : DeviceRow) → m ≡ n → ◌≡◌ {A = ℕ × DeviceRow} (m, row) (n, row)
numbered m n row same = cc

-- the mark of each place once one is taken away
bit_unmarked : (bits : List Bool) (d k : ℕ) → k < length bits → bit_at (slice_set bits d false) k ≡ (not (nat_eq k d) && bit_at bits k)
bit_unmarked bits d k less = elim (cases_eq k d) [
  | inl same ↦ get_or-set_at bits d k false false same (omega arith) ∙ ap (λ b. not b && bit_at bits k) (sym (eq-eqb k d same))
  | inr other ↦ get_or-set_other bits d k false false other ∙ ap (λ b. not b && bit_at bits k) (sym (ne_eqb k d other))
]

module _ (plan : Plan) (domains : DomainViews) (made : IsMadeFor plan domains) (o : ℕ) where
  home_at : (k : ℕ) (row : DeviceRow) → k < length plan.devices → owner_at (homes plan) k ≡ place_of (slice_index_or plan.devices k row).domain
  home_at k row lt = get_or-map (λ (x : DeviceRow). place_of x.domain) plan.devices k row None lt

  parent_at : (k : ℕ) (row : DomainRow) → k < length plan.domains → owner_at (above plan) k ≡ place_of (slice_index_or plan.domains k row).parent
  parent_at k row lt = get_or-map (λ (x : DomainRow). place_of x.parent) plan.domains k row None lt

  -- no device of the domain but this one keeps it on
  pub are_quiet-counted : (v : Views) (d : DevId) → IsAwakeOf domains.awake v → are_quiet_but domains d o ≡ are_quiet plan v d o
  are_quiet-counted v d says =
      let test : ℕ × DeviceRow → Bool = λ p. nat_eq p.0 d.0 || not (option_map_or (λ x. nat_eq x.0 o) p.1.domain false) || is_quiet v (record { 0 = p.0 }) in
      let count : length (enumerate_from 0 plan.devices) ≡ length plan.devices = length-enumerate_from 0 plan.devices in
      let owners : length (homes plan) ≡ length plan.devices = length-map plan.devices (λ (x : DeviceRow). place_of x.domain) in
      let bits : length (unmarked (Some d.0) domains.awake) ≡ length domains.awake = length-set domains.awake d.0 false in
      ap (λ hs. nat_eq (marked_of hs (unmarked (Some d.0) domains.awake) o) 0) made.homes_are
      ∙ none_marked test o (enumerate_from 0 plan.devices) (homes plan) (unmarked (Some d.0) domains.awake) (omega arith) (omega (arith, made.awake_len)) (λ k e less.
      let below : k < length plan.devices = omega arith in
      let keyed = option_map_or (λ x. nat_eq x.0 o) (slice_index_or plan.devices k e.1).domain false in
      ap test (get_or-enumerate_from 0 plan.devices k e below ∙ numbered (0 + k) k (slice_index_or plan.devices k e.1) (omega arith))
      ∙ quiet_here (nat_eq k d.0) keyed (is_quiet v (record { 0 = k }))
      ∙ ap (λ b. not (keyed && (not (nat_eq k d.0) && b))) (sym (says k (omega (arith, made.awake_len))))
      ∙ ap (λ b. not (keyed && b)) (sym (bit_unmarked domains.awake d.0 k (omega (arith, made.awake_len))))
      ∙ ap (λ b. not (b && bit_at (unmarked (Some d.0) domains.awake) k)) (sym (ap (is_of o) (home_at k e.1 below) ∙ of_place o (slice_index_or plan.devices k e.1).domain)))

  -- none right under it is on, where those that were switched on the way here count as off
  pub are_off-counted : (from : Option ℕ) (on : List Bool) → length on ≡ length plan.domains
      → ((k : ℕ) → k < length plan.domains → is_of o (owner_at (above plan) k) ≡ true → bit_at on k ≡ bit_at (unmarked from domains.on) k) → are_off_but domains from o ≡ are_off plan on o
  are_off-counted from on long walked =
      let test : DomainRow × Bool → Bool = λ p. not (option_map_or (λ x. nat_eq x.0 o) p.0.parent false) || not p.1 in
      let count : length (zip plan.domains on) ≡ length plan.domains = omega (arith, length-zip plan.domains on) in
      let owners : length (above plan) ≡ length plan.domains = length-map plan.domains (λ (x : DomainRow). place_of x.parent) in
      let bits : length (unmarked from domains.on) ≡ length domains.on = length-unmarked from domains.on in
      ap (λ owned. nat_eq (marked_of owned (unmarked from domains.on) o) 0) made.above_are
      ∙ none_marked test o (zip plan.domains on) (above plan) (unmarked from domains.on) (omega arith) (omega (arith, made.on_len)) (λ k e less.
      let below : k < length plan.domains = omega arith in
      let keyed = option_map_or (λ x. nat_eq x.0 o) (slice_index_or plan.domains k e.0).parent false in
      let mine : is_of o (owner_at (above plan) k) ≡ keyed = ap (is_of o) (parent_at k e.0 below) ∙ of_place o (slice_index_or plan.domains k e.0).parent in
      ap test (get_or-zip plan.domains on k e below (omega arith))
      ∙ off_here keyed (slice_index_or on k e.1)
      ∙ ap (λ b. not (keyed && b)) (get_or_default on k e.1 false (omega arith))
      ∙ ap (λ b. not (b && bit_at on k)) (sym mine)
      ∙ ap not (same_where (is_of o (owner_at (above plan) k)) (bit_at on k) (bit_at (unmarked from domains.on) k) (walked k below)))
    where
      length-unmarked : (from : Option ℕ) (bits : List Bool) → length (unmarked from bits) ≡ length bits
      length-unmarked None bits = refl
      length-unmarked (Some k) bits = length-set bits k false

      same_where : (keyed a b : Bool) → (keyed ≡ true → a ≡ b) → (keyed && a) ≡ (keyed && b)
      same_where true a b same = same refl
      same_where false a b same = refl
