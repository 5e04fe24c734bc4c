-- No chain of parents and suppliers is longer than the list of chains says.
use Rattle.std.proofs.Common.{ℕ, zero, suc, ◌≡◌, ◌∙◌, ◌+◌, ◌-◌, ◌<◌, ◌≤◌, Bool, true, false, ◌&&◌, List, [], ◌∷◌, ◌++◌, Option, Some, None, length, map, max, nat_eq, is_some, replicate, slice_get, slice_index_or, take, unwrap_or, if◌then◌else◌, ap, arith, inl, inr, refl, subst, sym}
use Rattle.std.proofs.Common.{nat_cmp}
use Rattle.std.specs.Option.{option_map_or}
use Rattle.std.specs.Ordering.{ord_max}
use Rattle.std.proofs.lemmas.Bool.{cases_lt}
use Rattle.std.proofs.lemmas.Grind.{common_steps}
use Rattle.std.proofs.lemmas.List.{get_or_append_left, get_or-append_right, length-append, take_more}
use Rattle.std.proofs.lemmas.Option.{get_or_from_slice_get}
use Rattle.pm_base.specs.declared.DevId.{DevId}
use Rattle.pm_model.specs.declared.plan.Plan.{Plan}
use Rattle.pm_model.specs.declared.rows.LinkRow.{LinkRow}
use Rattle.pm_model.specs.PlanRows.{has_parent, parent, parent_of}
use Rattle.pm_laws.specs.stacks.Depth.{greatest, longest_chain, longest_of, of_supplier}
use Rattle.pm_laws.specs.stacks.Shape.{IsLink}
use Rattle.pm_laws.proofs.stacks.PlanLaw.{HasEarlier, parent_earlier, supplier_earlier}
use Rattle.pm_laws.proofs.stacks.Tests.{front, rear, same_device}
use Rattle.pm_state.specs.Chains.{AreChains, chain_at, chain_from}
use Rattle.pm_state.specs.Standing.{IsRoomy}

pub map_constant : {A B : Type 0} (x : B) (rows : List A) → replicate (length rows) x ≡ map (λ row. x) rows
map_constant x [] = refl
map_constant x (row ∷ rows) = ap (λ xs. x ∷ xs) (map_constant x rows)

-- the greater of two numbers, as the code takes it
pub max_is : (n a b : ℕ) → n ≡ ord_max nat_cmp a b → n ≡ max a b
max_is n a b is = grind (arith, common_steps)

pub two : (n a b x y z : ℕ) → n ≡ max a b → a ≡ x → b ≡ y → z ≡ max x y → n ≡ z
two n a b x y z is was more all = omega arith

greatest_append : {A : Type 0} (f : A → ℕ) (xs : List A) (y : A) → greatest f (xs ++ y ∷ []) ≡ max (greatest f xs) (f y)
greatest_append f [] y = omega arith
greatest_append f (x ∷ xs) y = omega (arith, greatest_append f xs y)

-- the greatest of one more
pub greatest_more : {A : Type 0} (f : A → ℕ) (xs : List A) (i : ℕ) (d : A) → i < length xs → greatest f (take (i + 1) xs) ≡ max (greatest f (take i xs)) (f (slice_index_or xs i d))
greatest_more f xs i d lt = ap (greatest f) (take_more xs i d lt) ∙ greatest_append f (take i xs) (slice_index_or xs i d)

-- where f is at most g on a list, so is the greatest; and where f is at most b
greatest_le : {A : Type 0} (f g : A → ℕ) (xs : List A) → ((i : ℕ) (x : A) → slice_get xs i ≡ Some x → f x ≤ g x) → greatest f xs ≤ greatest g xs
greatest_le f g [] le = omega arith
greatest_le f g (x ∷ xs) le = omega (arith, le 0 x refl, greatest_le f g xs (λ i y is. le (suc i) y is))

pub greatest_within : {A : Type 0} (f : A → ℕ) (b : ℕ) (xs : List A) → ((i : ℕ) (x : A) → slice_get xs i ≡ Some x → f x ≤ b) → greatest f xs ≤ b
greatest_within f b [] le = omega arith
greatest_within f b (x ∷ xs) le = omega (arith, le 0 x refl, greatest_within f b xs (λ i y is. le (suc i) y is))

pub at_most_greatest : (xs : List ℕ) (i : ℕ) → slice_index_or xs i 0 ≤ greatest (λ n. n) xs
at_most_greatest [] i = omega arith
at_most_greatest (x ∷ xs) zero = omega arith
at_most_greatest (x ∷ xs) (suc i) = omega (arith, at_most_greatest xs i)

-- a device that has a parent is one of the plan's, and its parent stands earlier
parent_is : (plan : Plan) (d p : DevId) → parent plan d ≡ Some p → HasEarlier plan d p
unfolding has_parent parent_of
parent_is plan d p is =
    let has : is_some (parent plan d) ≡ true = rw is refl in
    let same : unwrap_or (parent plan d) d ≡ p = rw is refl in
    subst (HasEarlier plan d) same (parent_earlier plan d has)

-- f is at most g on the parent, and on each supplier, where it is on all that stand earlier than a device of the plan
parent_le : (plan : Plan) (d : DevId) (f g : DevId → ℕ) → ((p : DevId) → HasEarlier plan d p → f p ≤ g p) → option_map_or f (parent plan d) 0 ≤ option_map_or g (parent plan d) 0
parent_le plan d f g le = go (parent plan d) refl
  where
    go : (o : Option DevId) → parent plan d ≡ o → option_map_or f o 0 ≤ option_map_or g o 0
    go None is = omega arith
    go (Some p) is = le p (parent_is plan d p is)

supplier_at : (plan : Plan) (d : DevId) (f : DevId → ℕ) (P : ℕ → Type 0) → P 0 → ((s : DevId) → HasEarlier plan d s → P (f s))
    → (i : ℕ) (row : LinkRow) → slice_get plan.links i ≡ Some row → P (of_supplier d f row)
supplier_at plan d f P none some i row is = go (nat_eq row.consumer.0 d.0 && row.pm_runtime) refl
  where
    go : (b : Bool) → nat_eq row.consumer.0 d.0 && row.pm_runtime ≡ b → P (if b then f row.supplier else 0)
    go false e = none
    go true e =
        let link : IsLink plan i d row.supplier = record { row = row; is = is; consumer = same_device row.consumer d (front _ _ e); supplier = refl; runtime = rear (nat_eq row.consumer.0 d.0) row.pm_runtime e } in
        some row.supplier (supplier_earlier plan i d row.supplier link)

suppliers_le : (plan : Plan) (d : DevId) (f g : DevId → ℕ) → ((s : DevId) → HasEarlier plan d s → f s ≤ g s)
    → greatest (of_supplier d f) plan.links ≤ greatest (of_supplier d g) plan.links
suppliers_le plan d f g le = greatest_le (of_supplier d f) (of_supplier d g) plan.links each
  where
    each : (i : ℕ) (row : LinkRow) → slice_get plan.links i ≡ Some row → of_supplier d f row ≤ of_supplier d g row
    each i row is = go (nat_eq row.consumer.0 d.0 && row.pm_runtime) refl
      where
        go : (b : Bool) → nat_eq row.consumer.0 d.0 && row.pm_runtime ≡ b → (if b then f row.supplier else 0) ≤ (if b then g row.supplier else 0)
        go false e = omega arith
        go true e =
            let link : IsLink plan i d row.supplier = record { row = row; is = is; consumer = same_device row.consumer d (front _ _ e); supplier = refl; runtime = rear (nat_eq row.consumer.0 d.0) row.pm_runtime e } in
            le row.supplier (supplier_earlier plan i d row.supplier link)

-- no chain from the next device is longer than one more than those of its parent and its suppliers
longest_from : (plan : Plan) (chains : List ℕ) (d : DevId) → AreChains plan chains → d.0 ≡ length chains → (n : ℕ) → longest_of plan n d ≤ chain_from plan chains d
longest_from plan chains d are is zero = omega arith
longest_from plan chains d are is (suc n) =
    let each : (p : DevId) → HasEarlier plan d p → longest_of plan n p ≤ chain_at chains p = λ p it. are.each p n (omega (arith, it.earlier, is)) in
    omega (arith, parent_le plan d (longest_of plan n) (chain_at chains) each, suppliers_le plan d (longest_of plan n) (chain_at chains) each)

pub from_within : (plan : Plan) (chains : List ℕ) (d : DevId) → AreChains plan chains → chain_from plan chains d ≤ length chains + 1
from_within plan chains d are =
    let parents : option_map_or (chain_at chains) (parent plan d) 0 ≤ length chains = go (parent plan d) in
    let suppliers = greatest_within (of_supplier d (chain_at chains)) (length chains) plan.links (supplier_at plan d (chain_at chains) (λ n. n ≤ length chains) (omega arith) (λ s it. are.few s)) in
    omega (arith, parents, suppliers)
  where
    go : (o : Option DevId) → option_map_or (chain_at chains) o 0 ≤ length chains
    go None = omega arith
    go (Some p) = are.few p

pub no_chains : (plan : Plan) (chains : List ℕ) → chains ≡ [] → AreChains plan chains
no_chains plan chains none = subst (AreChains plan) (sym none) (record { each = λ d n lt. absurd (omega arith); few = λ d. omega arith })

-- the list with the next device's chain
pub more_chains : (plan : Plan) (chains chains' : List ℕ) (d : DevId) (chain : ℕ) → AreChains plan chains → d.0 ≡ length chains → chain ≡ chain_from plan chains d
    → chains' ≡ chains ++ chain ∷ [] → AreChains plan chains'
more_chains plan chains chains' d chain are next is more = subst (AreChains plan) (sym more) (record { each = each; few = few })
  where
    longer : length (chains ++ chain ∷ []) ≡ length chains + 1
    longer = omega (arith, length-append chains (chain ∷ []))

    here : slice_index_or (chains ++ chain ∷ []) d.0 0 ≡ chain
    here = get_or-append_right chains (chain ∷ []) d.0 d.0 0 (sym next) (omega arith) ∙ (let e : d.0 - d.0 ≡ 0 = omega arith in ap (λ n. slice_index_or (chain ∷ []) n 0) e)

    same : (x : DevId) → x.0 ≡ d.0 → x ≡ d
    same x e = ap (λ n. record { 0 = n }) e

    at : (x : DevId) (P : DevId → ℕ → Type 0) → (x.0 < length chains → P x (chain_at chains x)) → P d chain → (length chains < x.0 → P x 0) → P x (chain_at (chains ++ chain ∷ []) x)
    at x P old new none = elim (cases_lt x.0 (length chains)) [
      | inl lt ↦ subst (P x) (sym (get_or_append_left chains (chain ∷ []) 0 x.0 lt)) (old lt)
      | inr le ↦ elim (cases_lt (length chains) x.0) [
        | inl past ↦ subst (P x) (sym (get_or-append_right chains (chain ∷ []) (length chains) x.0 0 refl le ∙ beyond x past)) (none past)
        | inr ge ↦
            let e : x.0 ≡ d.0 = omega arith in
            subst (λ (y : DevId). P y (chain_at (chains ++ chain ∷ []) y)) (sym (same x e)) (subst (P d) (sym here) new)
      ]
    ]
      where
        beyond : (x : DevId) → length chains < x.0 → slice_index_or (chain ∷ []) (x.0 - length chains) 0 ≡ 0
        beyond x past = let e : x.0 - length chains ≡ suc (x.0 - length chains - 1) = omega arith in ap (λ n. slice_index_or (chain ∷ []) n 0) e

    each : (x : DevId) (n : ℕ) → x.0 < length (chains ++ chain ∷ []) → longest_of plan n x ≤ chain_at (chains ++ chain ∷ []) x
    each x n lt = at x (λ y m. longest_of plan n y ≤ m) (λ within. are.each x n within) (subst (λ m. longest_of plan n d ≤ m) (sym is) (longest_from plan chains d are next n)) (λ past. absurd (omega (arith, past, lt, longer)))

    few : (x : DevId) → chain_at (chains ++ chain ∷ []) x ≤ length (chains ++ chain ∷ [])
    few x =
        let bound = from_within plan chains d are in
        at x (λ y m. m ≤ length (chains ++ chain ∷ [])) (λ within. omega (arith, are.few x, longer)) (omega (arith, bound, is, longer)) (λ past. omega arith)

-- so many stages are enough
short_past : (plan : Plan) (d : DevId) → length plan.devices ≤ d.0 → (n : ℕ) → longest_of plan n d ≤ 1
short_past plan d past zero = omega arith
short_past plan d past (suc n) =
    let parents : option_map_or (longest_of plan n) (parent plan d) 0 ≤ 0 = go (parent plan d) refl in
    let suppliers = greatest_within (of_supplier d (longest_of plan n)) 0 plan.links (supplier_at plan d (longest_of plan n) (λ m. m ≤ 0) (omega arith) (λ s it. absurd (omega (arith, it.within, past)))) in
    omega (arith, parents, suppliers)
  where
    go : (o : Option DevId) → parent plan d ≡ o → option_map_or (longest_of plan n) o 0 ≤ 0
    go None is = omega arith
    go (Some p) is = let it = parent_is plan d p is in absurd (omega (arith, it.within, past))

pub is_roomy : (plan : Plan) (chains : List ℕ) (longest : ℕ) → AreChains plan chains → length chains ≡ length plan.devices → longest ≡ max 1 (greatest (λ n. n) chains) → IsRoomy plan (longest + 3)
unfolding longest_chain
is_roomy plan chains longest are all is = record {
  each = λ d. elim (cases_lt d.0 (length chains)) [
    | inl lt ↦ omega (arith, are.each d (length plan.devices) lt, at_most_greatest chains d.0, is)
    | inr past ↦ omega (arith, short_past plan d (omega (arith, past, all)) (length plan.devices), is)
  ];
}

-- and no list says more than there are devices
pub greatest_few : (plan : Plan) (chains : List ℕ) → AreChains plan chains → greatest (λ n. n) chains ≤ length chains
greatest_few plan chains are = greatest_within (λ n. n) (length chains) chains (λ i x is. let few : slice_index_or chains i 0 ≤ length chains = are.few (record { 0 = i }) in omega (arith, few, get_or_from_slice_get chains i x 0 is))
