-- Chains fall: the longest chain from a parent or a supplier is shorter, and so is the quiet one from a parent.
use Rattle.std.proofs.Common.{ℕ, zero, suc, ◌≡◌, ◌+◌, ◌<◌, ◌≤◌, Bool, true, false, ◌&&◌, List, [], ◌∷◌, Option, Some, None, length, max, nat_eq, is_some, slice_get, unwrap_or, if◌then◌else◌, ap, refl, subst, arith}
use Rattle.std.specs.Option.{option_map_or}
use Rattle.pm_base.specs.declared.DevId.{DevId}
use Rattle.pm_model.specs.declared.plan.Plan.{Plan}
use Rattle.pm_model.specs.declared.rows.LinkRow.{LinkRow}
use Rattle.pm_model.specs.PlanRows.{has_parent, no_callbacks, parent, parent_of}
use Rattle.pm_laws.specs.stacks.Depth.{greatest, longest_chain, longest_of, of_supplier, quiet_chain, quiet_of}
use Rattle.pm_laws.specs.stacks.Shape.{IsLink}
use Rattle.pm_laws.proofs.stacks.PlanLaw.{parent_earlier, supplier_earlier}
use Rattle.pm_laws.proofs.stacks.Tests.{front, rear, same_device, same_self}

pub greatest_at : {A : Type 0} (f : A → ℕ) (xs : List A) (i : ℕ) (x : A) → slice_get xs i ≡ Some x → f x ≤ greatest f xs
greatest_at f [] i x is = cc
greatest_at f (y ∷ xs) zero x is = let same : y ≡ x = cc in rw (← same) (omega arith)
greatest_at f (y ∷ xs) (suc i) x is = omega (arith, greatest_at f xs i x is)

-- where f and g are the same on a list, so is the greatest; where f is at most g, so is the greatest
greatest_same : {A : Type 0} (f g : A → ℕ) (xs : List A) → ((i : ℕ) (x : A) → slice_get xs i ≡ Some x → f x ≡ g x) → greatest f xs ≡ greatest g xs
greatest_same f g [] same = refl
greatest_same f g (x ∷ xs) same = omega (arith, same 0 x refl, greatest_same f g xs (λ i y is. same (suc i) y is))

-- the parent, where there is one
has_one : (plan : Plan) (d : DevId) → has_parent plan d ≡ true → parent plan d ≡ Some (parent_of plan d)
unfolding has_parent parent_of
has_one plan d has = go (parent plan d) has
  where
    go : (o : Option DevId) → is_some o ≡ true → o ≡ Some (unwrap_or o d)
    go None has = cc
    go (Some p) has = refl

parent_has : (plan : Plan) (d p : DevId) → parent plan d ≡ Some p → (has_parent plan d ≡ true) × (parent_of plan d ≡ p)
unfolding has_parent parent_of
parent_has plan d p is = rw is (refl, refl)

-- f and g are the same on the parent where they are on all devices that stand earlier
parent_same : (plan : Plan) (d : DevId) (f g : DevId → ℕ) → ((p : DevId) → p.0 < d.0 → f p ≡ g p) → option_map_or f (parent plan d) 0 ≡ option_map_or g (parent plan d) 0
parent_same plan d f g same = go (parent plan d) refl
  where
    go : (o : Option DevId) → parent plan d ≡ o → option_map_or f o 0 ≡ option_map_or g o 0
    go None is = refl
    go (Some p) is =
        let has = parent_has plan d p is in
        same p (subst (λ (x : DevId). x.0 < d.0) has.1 (let it = parent_earlier plan d has.0 in it.earlier))

suppliers_same : (plan : Plan) (d : DevId) (f g : DevId → ℕ) → ((s : DevId) → s.0 < d.0 → f s ≡ g s)
    → greatest (of_supplier d f) plan.links ≡ greatest (of_supplier d g) plan.links
suppliers_same plan d f g same = greatest_same (of_supplier d f) (of_supplier d g) plan.links each
  where
    each : (i : ℕ) (row : LinkRow) → slice_get plan.links i ≡ Some row → of_supplier d f row ≡ of_supplier d g row
    each i row is = go (nat_eq row.consumer.0 d.0 && row.pm_runtime) refl
      where
        go : (b : Bool) → nat_eq row.consumer.0 d.0 && row.pm_runtime ≡ b → (if b then f row.supplier else 0) ≡ (if b then g row.supplier else 0)
        go false e = refl
        go true e =
            let link : IsLink plan i d row.supplier = record { row = row; is = is; consumer = same_device row.consumer d (front _ _ e); supplier = refl; runtime = rear (nat_eq row.consumer.0 d.0) row.pm_runtime e } in
            let it = supplier_earlier plan i d row.supplier link in same row.supplier it.earlier

-- chains of more devices than stand before d are those of that many
longest_stays : (plan : Plan) (n : ℕ) (d : DevId) → d.0 < n → longest_of plan (suc n) d ≡ longest_of plan n d
longest_stays plan zero d lt = absurd (omega arith)
longest_stays plan (suc n) d lt =
    let below : (p : DevId) → p.0 < d.0 → longest_of plan (suc n) p ≡ longest_of plan n p = λ p less. longest_stays plan n p (omega (arith, less, lt)) in
    omega (arith, parent_same plan d (longest_of plan (suc n)) (longest_of plan n) below, suppliers_same plan d (longest_of plan (suc n)) (longest_of plan n) below)

quiet_stays : (plan : Plan) (n : ℕ) (d : DevId) → d.0 < n → quiet_of plan (suc n) d ≡ quiet_of plan n d
quiet_stays plan zero d lt = absurd (omega arith)
quiet_stays plan (suc n) d lt =
    let below : (p : DevId) → p.0 < d.0 → quiet_of plan (suc n) p ≡ quiet_of plan n p = λ p less. quiet_stays plan n p (omega (arith, less, lt)) in
    ap (λ m. if no_callbacks plan d then 1 + m else 1) (parent_same plan d (quiet_of plan (suc n)) (quiet_of plan n) below)

parent_less : (plan : Plan) (n : ℕ) (d p : DevId) → parent plan d ≡ Some p → p.0 < d.0 → d.0 < n → longest_of plan n p < longest_of plan n d
parent_less plan zero d p is earlier lt = absurd (omega arith)
parent_less plan (suc n) d p is earlier lt = rw is (omega (arith, longest_stays plan n p (omega (arith, earlier, lt))))

supplier_less : (plan : Plan) (n l : ℕ) (d s : DevId) → IsLink plan l d s → s.0 < d.0 → d.0 < n → longest_of plan n s < longest_of plan n d
supplier_less plan zero l d s link earlier lt = absurd (omega arith)
supplier_less plan (suc n) l d s link earlier lt =
    let here : of_supplier d (longest_of plan n) link.row ≡ longest_of plan n s = rw (link.consumer, same_self d.0, link.runtime, link.supplier) refl in
    omega (arith, greatest_at (of_supplier d (longest_of plan n)) plan.links l link.row link.is, longest_stays plan n s (omega (arith, earlier, lt)))

quiet_less : (plan : Plan) (n : ℕ) (d p : DevId) → parent plan d ≡ Some p → no_callbacks plan d ≡ true → p.0 < d.0 → d.0 < n → quiet_of plan n p < quiet_of plan n d
quiet_less plan zero d p is lacks earlier lt = absurd (omega arith)
quiet_less plan (suc n) d p is lacks earlier lt = rw (lacks, is) (omega (arith, quiet_stays plan n p (omega (arith, earlier, lt))))

quiet_shorter : (plan : Plan) (n : ℕ) (d : DevId) → quiet_of plan n d ≤ longest_of plan n d
quiet_shorter plan zero d = omega arith
quiet_shorter plan (suc n) d = go (λ p. quiet_shorter plan n p) (no_callbacks plan d) (parent plan d)
  where
    go : ((p : DevId) → quiet_of plan n p ≤ longest_of plan n p) → (b : Bool) (o : Option DevId) → (if b then 1 + option_map_or (quiet_of plan n) o 0 else 1) ≤ 1 + max (option_map_or (longest_of plan n) o 0) (greatest (of_supplier d (longest_of plan n)) plan.links)
    go below true None = omega arith
    go below true (Some p) = omega (arith, below p)
    go below false o = omega arith

pub parent_chain : (plan : Plan) (d : DevId) → has_parent plan d ≡ true → longest_chain plan (parent_of plan d) < longest_chain plan d
unfolding longest_chain
parent_chain plan d has = let it = parent_earlier plan d has in parent_less plan (length plan.devices) d (parent_of plan d) (has_one plan d has) it.earlier it.within

pub supplier_chain : (plan : Plan) (l : ℕ) (d s : DevId) → IsLink plan l d s → longest_chain plan s < longest_chain plan d
unfolding longest_chain
supplier_chain plan l d s link = let it = supplier_earlier plan l d s link in supplier_less plan (length plan.devices) l d s link it.earlier it.within

pub quiet_parent : (plan : Plan) (d : DevId) → has_parent plan d ≡ true → no_callbacks plan d ≡ true → quiet_chain plan (parent_of plan d) < quiet_chain plan d
unfolding quiet_chain
quiet_parent plan d has lacks =
    let it = parent_earlier plan d has in quiet_less plan (length plan.devices) d (parent_of plan d) (has_one plan d has) lacks it.earlier it.within

pub quiet_le : (plan : Plan) (d : DevId) → quiet_chain plan d ≤ longest_chain plan d
unfolding quiet_chain longest_chain
quiet_le plan d = quiet_shorter plan (length plan.devices) d

some_quiet : (plan : Plan) (n : ℕ) (d : DevId) → 0 < quiet_of plan n d
some_quiet plan zero d = omega arith
some_quiet plan (suc n) d = go (no_callbacks plan d)
  where
    go : (b : Bool) → 0 < (if b then 1 + option_map_or (quiet_of plan n) (parent plan d) 0 else 1)
    go true = omega arith
    go false = omega arith

pub quiet_some : (plan : Plan) (d : DevId) → 0 < quiet_chain plan d
unfolding quiet_chain
quiet_some plan d = some_quiet plan (length plan.devices) d
