-- Every run is safe.
use Rattle.std.proofs.Common.{ℕ, suc, ◌≡◌, ◌+◌, ◌<◌, ◌⊎◌, inl, inr, Bool, true, false, not, ◌&&◌, List, [], ◌∷◌, Option, Some, None, length, map, nat_eq, slice_get, if◌then◌else◌, ap, refl, sym, subst, arith}
use Rattle.std.specs.Prelude.{◌||◌}
use Rattle.std.specs.List.{enumerate_from, filter, list_all}
use Rattle.std.specs.Option.{option_map, option_map_or}
use Rattle.pm_base.specs.declared.DevId.{DevId}
use Rattle.pm_model.specs.declared.plan.Plan.{Plan}
use Rattle.pm_model.specs.declared.rows.DeviceRow.{DeviceRow}
use Rattle.pm_model.specs.declared.rows.LinkRow.{LinkRow}
use Rattle.pm_model.specs.Derived.{is_active, is_link_of}
use Rattle.pm_model.specs.Excuse.{is_live, is_excused_from_domain, is_excused_from_parent, is_excused_from_supplier}
use Rattle.pm_model.specs.History.{History}
use Rattle.pm_model.specs.Lawful.{IsLawful}
use Rattle.pm_model.specs.PlanRows.{domains_of, has_domain, parent}
use Rattle.pm_model.specs.Promises.{BondState, each_device, implies, domain_bonds, parent_bonds, supplier_bonds, are_excused, is_safe}
use Rattle.pm_model.specs.Views.{Views, is_on, is_present}
use Rattle.pm_model.specs.World.{world}
use Rattle.pm_laws.specs.counts.Sums.{tally}
use Rattle.pm_laws.specs.counts.Owners.{places}
use Rattle.pm_laws.proofs.counts.Links.{both}
use Rattle.pm_laws.proofs.stacks.Stacks.{stacks_nest}
use Rattle.pm_laws.proofs.stacks.Tests.{same_device}
use Rattle.pm_laws.specs.safe.Needs.{needs_links, needs_domain, needs_parent, needs_supplier}
use Rattle.pm_laws.specs.safe.Pends.{consumer, pends}
use Rattle.pm_laws.proofs.safe.Domains.{domain_stays}
use Rattle.pm_laws.proofs.safe.Links.{needed_held}
use Rattle.pm_laws.proofs.safe.Parents.{parent_stays}
use Rattle.pm_laws.proofs.safe.Suppliers.{supplier_stays}
use Rattle.pm_laws.proofs.safe.Exclusive.{both_true}
use Rattle.pm_laws.proofs.safe.Gathering.{pending_gathers, live_needs, live_gathers}

-- a bond holds, or the device is excused
kept : (a b : Bool) → (a ≡ true) ⊎ (b ≡ true) → a || b ≡ true
kept true b e = refl
kept false b (inl e) = cc
kept false b (inr e) = e

domain_safe : (plan : Plan) (h : History) (d : DevId) → IsLawful plan h → d.0 < length plan.devices → is_live plan h d ≡ true → are_excused (domain_bonds plan h d) ≡ true
domain_safe plan h d lawful within live = go (has_domain plan d)
  where
    v : Views
    v = (world plan h).views

    bond : BondState
    bond = record { holds = list_all (is_on v) (domains_of plan d); is_excused = is_excused_from_domain plan h d }

    stays : list_all (is_on v) (domains_of plan d) || is_excused_from_domain plan h d ≡ true
    stays = kept _ _ (domain_stays plan h d lawful (live_needs plan h d needs_domain lawful within refl refl live))

    go : (b : Bool) → are_excused (if b then bond ∷ [] else []) ≡ true
    go true = both_true _ true stays refl
    go false = refl

parent_safe : (plan : Plan) (h : History) (d : DevId) → IsLawful plan h → d.0 < length plan.devices → is_live plan h d ≡ true → are_excused (parent_bonds plan h d) ≡ true
parent_safe plan h d lawful within live = go (parent plan d) refl
  where
    bond : DevId → BondState
    bond p = record { holds = is_active (world plan h).views p; is_excused = is_excused_from_parent plan h d p }

    go : (o : Option DevId) → parent plan d ≡ o → are_excused (option_map_or (λ p. bond p ∷ []) o []) ≡ true
    go None is = refl
    go (Some p) is = both_true _ true (kept _ _ (parent_stays plan h d p lawful is (live_needs plan h d needs_parent lawful within refl refl live))) refl

-- one link of a live device
link_safe : (plan : Plan) (h : History) (d : DevId) (l : ℕ) (row : LinkRow) → IsLawful plan h → d.0 < length plan.devices → is_live plan h d ≡ true → slice_get plan.links l ≡ Some row
    → is_link_of d row (is_present (world plan h).views l) ≡ true → is_active (world plan h).views row.supplier || is_excused_from_supplier plan h d l row.supplier ≡ true
link_safe plan h d l row lawful within live is link = subst Safe consumer_is (kept _ _ supplied)
  where
    consumer_is : row.consumer ≡ d
    consumer_is = same_device row.consumer d (both _ _ (both _ _ link).0).0

    Safe : DevId → Type 0
    Safe c = is_active (world plan h).views row.supplier || is_excused_from_supplier plan h c l row.supplier ≡ true

    live_consumer : is_live plan h row.consumer ≡ true
    live_consumer = subst (λ c. is_live plan h c ≡ true) (sym consumer_is) live

    consumer_within : row.consumer.0 < length plan.devices
    consumer_within = subst (λ (c : DevId). c.0 < length plan.devices) (sym consumer_is) within

    taken : is_present (world plan h).views l && row.pm_runtime ≡ true
    taken =
        let a = both (nat_eq row.consumer.0 d.0 && row.pm_runtime) (is_present (world plan h).views l) link in
        both_true (is_present (world plan h).views l) row.pm_runtime a.1 (both (nat_eq row.consumer.0 d.0) row.pm_runtime a.0).1

    Stood : Type 0
    Stood = (is_active (world plan h).views row.supplier ≡ true) ⊎ (is_excused_from_supplier plan h row.consumer l row.supplier ≡ true)

    -- no resume of the supplier is pending for a live device
    last : (is_active (world plan h).views row.supplier ≡ true) ⊎ ((is_excused_from_supplier plan h row.consumer l row.supplier ≡ true) ⊎ (0 < tally (pends l) (places (world plan h)))) → Stood
    last (inl up) = inl up
    last (inr (inl excused)) = inr excused
    last (inr (inr pending)) =
        let of_consumer : consumer plan l ≡ Some row.consumer = ap (option_map (λ (r : LinkRow). r.consumer)) is in
        let less = pending_gathers plan (world plan h) l row.consumer of_consumer (stacks_nest plan h lawful) in
        absurd (omega (arith, live_gathers plan h row.consumer lawful consumer_within live_consumer))

    supplied : Stood
    supplied =
        let held = needed_held plan h l row lawful is taken (live_needs plan h row.consumer needs_links lawful consumer_within refl refl live_consumer) in
        last (supplier_stays plan h l row lawful is held (live_needs plan h row.consumer needs_supplier lawful consumer_within refl refl live_consumer))

-- what each that passes a filter passes
filtered : {A : Type 0} (passes : BondState → Bool) (f : ℕ × A → BondState) (test : ℕ × A → Bool) (i : ℕ) (rows : List A)
    → ((n : ℕ) (row : A) → slice_get rows n ≡ Some row → test (i + n, row) ≡ true → passes (f (i + n, row)) ≡ true)
    → list_all passes (map f (filter test (enumerate_from i rows))) ≡ true
filtered passes f test i [] each = refl
filtered {A} passes f test i (x ∷ rows) each =
    go (test (i, x)) refl (filtered passes f test (i + 1) rows (λ n row is t. let e : i + 1 + n ≡ i + suc n = omega arith in rw e (each (suc n) row is (rw (← e) t))))
  where
    here : test (i, x) ≡ true → passes (f (i, x)) ≡ true
    here t = let e : i + 0 ≡ i = omega arith in subst (λ n. passes (f (n, x)) ≡ true) e (each 0 x refl (subst (λ n. test (n, x) ≡ true) (sym e) t))

    go : (b : Bool) → test (i, x) ≡ b → list_all passes (map f (filter test (enumerate_from (i + 1) rows))) ≡ true
        → list_all passes (map f (if b then (i, x) ∷ filter test (enumerate_from (i + 1) rows) else filter test (enumerate_from (i + 1) rows))) ≡ true
    go true t later = both_true _ _ (here t) later
    go false t later = later

supplier_safe : (plan : Plan) (h : History) (d : DevId) → IsLawful plan h → d.0 < length plan.devices → is_live plan h d ≡ true → are_excused (supplier_bonds plan h d) ≡ true
supplier_safe plan h d lawful within live =
    filtered (λ b. b.holds || b.is_excused) _ (λ p. is_link_of d p.1 (is_present (world plan h).views p.0)) 0 plan.links
    (λ n row is t. let e : 0 + n ≡ n = omega arith in rw e (link_safe plan h d n row lawful within live is (rw e at t)))

-- each device
each_is : (test : DevId → Bool) (i : ℕ) (rows : List DeviceRow) → ((d : DevId) → d.0 < i + length rows → test d ≡ true)
    → list_all (λ p. test (record { 0 = p.0 })) (enumerate_from i rows) ≡ true
each_is test i [] each = refl
each_is test i (x ∷ rows) each =
    both_true _ _ (each (record { 0 = i }) (omega arith)) (each_is test (i + 1) rows (λ d within. each d (omega (arith, within))))

device_safe : (plan : Plan) (h : History) (d : DevId) → IsLawful plan h → d.0 < length plan.devices
    → implies (is_live plan h d) (are_excused (domain_bonds plan h d) && are_excused (parent_bonds plan h d) && are_excused (supplier_bonds plan h d)) ≡ true
device_safe plan h d lawful within = go (is_live plan h d) refl
  where
    go : (b : Bool) → is_live plan h d ≡ b → not b || (are_excused (domain_bonds plan h d) && are_excused (parent_bonds plan h d) && are_excused (supplier_bonds plan h d)) ≡ true
    go true live = both_true _ _ (both_true _ _ (domain_safe plan h d lawful within live) (parent_safe plan h d lawful within live)) (supplier_safe plan h d lawful within live)
    go false live = refl

all_safe : (plan : Plan) (h : History) → IsLawful plan h
    → each_device (λ d. implies (is_live plan h d) (are_excused (domain_bonds plan h d) && are_excused (parent_bonds plan h d) && are_excused (supplier_bonds plan h d))) plan ≡ true
all_safe plan h lawful = each_is _ 0 plan.devices (λ d within. device_safe plan h d lawful (omega (arith, within)))

pub safe : (plan : Plan) (h : History) → IsLawful plan h → is_safe plan h ≡ true
safe plan [] lawful = all_safe plan [] lawful
safe plan (line ∷ h) lawful = both_true _ _ (all_safe plan (line ∷ h) lawful) (safe plan h lawful.2)
