-- What the law of a plan says of its devices, links and scripts: parents and suppliers stand earlier, and commands are
-- over its devices.
use Rattle.std.proofs.Common.{ℕ, zero, suc, ◌≡◌, ◌+◌, ◌<◌, Bool, true, false, not, List, [], ◌∷◌, Option, Some, None, length, slice_get, nat_lt, is_some, unwrap_or, ap, refl, subst, sym, ◌∙◌, arith}
use Rattle.std.specs.List.{list_all, list_any}
use Rattle.std.specs.Option.{option_map_or}
use Rattle.std.proofs.lemmas.Bool.{ltb-true, lt-ltb, false≢true}
use Rattle.std.proofs.lemmas.Grind.{common_steps}
use Rattle.std.proofs.lemmas.Option.{slice_get_within}
use Rattle.pm_base.specs.declared.DevId.{DevId}
use Rattle.pm_model.specs.declared.event.Command.{Command}
use Rattle.pm_model.specs.declared.plan.Plan.{Plan}
use Rattle.pm_model.specs.declared.rows.CallerRow.{CallerRow}
use Rattle.pm_model.specs.declared.rows.DeviceRow.{DeviceRow}
use Rattle.pm_model.specs.declared.rows.LinkRow.{LinkRow}
use Rattle.pm_model.specs.IsPlan.{are_distinct, each_at, is_caller, is_command, is_device, is_link, is_plan, is_same_pair}
use Rattle.pm_model.specs.PlanRows.{has_parent, parent, parent_of}
use Rattle.pm_laws.proofs.counts.Links.{distinct_links, lawful_links}
use Rattle.pm_laws.specs.stacks.Shape.{IsLink}
use Rattle.pm_laws.proofs.stacks.Tests.{front, rear, or_rear, same_self}

pub all_get : {A : Type 0} (test : A → Bool) (rows : List A) (n : ℕ) (row : A) → list_all test rows ≡ true → slice_get rows n ≡ Some row → test row ≡ true
all_get test [] n row all is = cc
all_get test (x ∷ rows) zero row all is = let same : x ≡ row = cc in subst (λ r. test r ≡ true) same (front _ _ all)
all_get test (x ∷ rows) (suc n) row all is = all_get test rows n row (rear _ _ all) is

each_get : {A : Type 0} (test : ℕ → A → Bool) (i : ℕ) (rows : List A) (n : ℕ) (row : A) → each_at test i rows ≡ true → slice_get rows n ≡ Some row
    → test (i + n) row ≡ true
each_get test i [] n row all is = cc
each_get test i (x ∷ rows) zero row all is =
    let same : x ≡ row = cc in subst (λ k. test k row ≡ true) (omega arith) (subst (λ r. test i r ≡ true) same (front _ _ all))
each_get test i (x ∷ rows) (suc n) row all is = subst (λ k. test k row ≡ true) (omega arith) (each_get test (i + 1) rows n row (rear _ _ all) is)

lawful_devices : (plan : Plan) → each_at (is_device (length plan.domains)) 0 plan.devices ≡ true
lawful_devices plan =
    let law : is_plan plan.lines plan.trace plan.domains plan.devices plan.links plan.callers ≡ true = plan.law in
    rear _ _ (front _ _ (front _ _ (front _ _ (front _ _ (front _ _ (front _ _ law))))))

lawful_callers : (plan : Plan) → list_all (is_caller (length plan.devices)) plan.callers ≡ true
lawful_callers plan =
    let law : is_plan plan.lines plan.trace plan.domains plan.devices plan.links plan.callers ≡ true = plan.law in
    rear _ _ (front _ _ (front _ _ (front _ _ (front _ _ law))))

pub device_lawful : (plan : Plan) (d : ℕ) (row : DeviceRow) → slice_get plan.devices d ≡ Some row → is_device (length plan.domains) d row ≡ true
device_lawful plan d row is =
    subst (λ k. is_device (length plan.domains) k row ≡ true) (omega arith) (each_get (is_device (length plan.domains)) 0 plan.devices d row (lawful_devices plan) is)

pub command_lawful : (plan : Plan) (c i : ℕ) (caller : CallerRow) (command : Command) → slice_get plan.callers c ≡ Some caller
    → slice_get caller.script i ≡ Some command → is_command (length plan.devices) command ≡ true
command_lawful plan c i caller command at is =
    let script = rear _ _ (all_get (is_caller (length plan.devices)) plan.callers c caller (lawful_callers plan) at) in
    all_get (is_command (length plan.devices)) caller.script i command (rear _ _ script) is

-- the parent
row_earlier : (domains d : ℕ) (row : DeviceRow) → is_device domains d row ≡ true → option_map_or (λ p. nat_lt p.0 d) row.parent true ≡ true
row_earlier domains d row law = grind (arith, common_steps)

-- a device that has a parent is one of the plan's, and its parent stands earlier
pub record HasEarlier (plan : Plan) (d p : DevId) : Type 0 where
  pub within : d.0 < length plan.devices
  pub earlier : p.0 < d.0

pub parent_earlier : (plan : Plan) (d : DevId) → has_parent plan d ≡ true → HasEarlier plan d (parent_of plan d)
unfolding has_parent parent parent_of
parent_earlier plan d has = go (slice_get plan.devices d.0) (λ row is. is) has
  where
    here : (p : Option DevId) → is_some p ≡ true → option_map_or (λ p. nat_lt p.0 d.0) p true ≡ true → (unwrap_or p d).0 < d.0
    here None has law = absurd (false≢true has)
    here (Some p) has law = ltb-true p.0 d.0 law

    go : (o : Option DeviceRow) → ((row : DeviceRow) → o ≡ Some row → slice_get plan.devices d.0 ≡ Some row)
        → is_some (option_map_or (λ row. row.parent) o None) ≡ true → HasEarlier plan d (unwrap_or (option_map_or (λ row. row.parent) o None) d)
    go None at has = absurd (false≢true has)
    go (Some row) at has = record {
      within = slice_get_within plan.devices d.0 row (at row refl);
      earlier = here row.parent has (row_earlier (length plan.domains) d.0 row (device_lawful plan d.0 row (at row refl)));
    }

pub parent_in : (plan : Plan) (d : DevId) → has_parent plan d ≡ true → nat_lt (parent_of plan d).0 (length plan.devices) ≡ true
parent_in plan d has = let it = parent_earlier plan d has in lt-ltb _ _ (omega (arith, it.within, it.earlier))

-- a supplier
row_falls : (devices : List DeviceRow) (row : LinkRow) → is_link devices row ≡ true → (row.consumer.0 < length devices) × (row.supplier.0 < row.consumer.0)
row_falls devices row law = (ltb-true _ _ (front _ _ (front _ _ law)), ltb-true _ _ (rear _ _ (front _ _ law)))

pub supplier_earlier : (plan : Plan) (l : ℕ) (d s : DevId) → IsLink plan l d s → HasEarlier plan d s
supplier_earlier plan l d s link =
    let law = row_falls plan.devices link.row (all_get (is_link plan.devices) plan.links l link.row (lawful_links plan) link.is) in
    record {
      within = subst (λ (x : DevId). x.0 < length plan.devices) link.consumer law.0;
      earlier = rw (← link.consumer, ← link.supplier) law.1;
    }

pub supplier_in : (plan : Plan) (l : ℕ) (d s : DevId) → IsLink plan l d s → nat_lt s.0 (length plan.devices) ≡ true
supplier_in plan l d s link = let it = supplier_earlier plan l d s link in lt-ltb _ _ (omega (arith, it.within, it.earlier))

-- a pair has one link
any_same : (row other : LinkRow) (rows : List LinkRow) (n : ℕ) → slice_get rows n ≡ Some other → row.consumer ≡ other.consumer → row.supplier ≡ other.supplier
    → list_any (is_same_pair row) rows ≡ true
any_same row other [] n e c s = cc
any_same row other (x ∷ rows) zero e c s =
    let it : x ≡ other = cc in
    let same : is_same_pair row x ≡ true = rw (it, c, s, same_self other.consumer.0, same_self other.supplier.0) refl in rw same refl
any_same row other (x ∷ rows) (suc n) e c s = or_rear _ _ (any_same row other rows n e c s)

one_place : (rows : List LinkRow) (m n : ℕ) (a b : LinkRow) → are_distinct is_same_pair rows ≡ true → slice_get rows m ≡ Some a → slice_get rows n ≡ Some b
    → a.consumer ≡ b.consumer → a.supplier ≡ b.supplier → m ≡ n
one_place [] m n a b d e f c s = cc
one_place (x ∷ rows) zero zero a b d e f c s = refl
one_place (x ∷ rows) (suc m) (suc n) a b d e f c s = ap suc (one_place rows m n a b (rear _ _ d) e f c s)
one_place (x ∷ rows) zero (suc n) a b d e f c s =
    let it : x ≡ a = cc in
    let some = any_same x b rows n f (ap (λ (r : LinkRow). r.consumer) it ∙ c) (ap (λ (r : LinkRow). r.supplier) it ∙ s) in
    let k : false ≡ true = rw some at (front (not (list_any (is_same_pair x) rows)) (are_distinct is_same_pair rows) d) in absurd (false≢true k)
one_place (x ∷ rows) (suc m) zero a b d e f c s =
    let it : x ≡ b = cc in
    let some = any_same x a rows m e (ap (λ (r : LinkRow). r.consumer) it ∙ sym c) (ap (λ (r : LinkRow). r.supplier) it ∙ sym s) in
    let k : false ≡ true = rw some at (front (not (list_any (is_same_pair x) rows)) (are_distinct is_same_pair rows) d) in absurd (false≢true k)

pub one_link : (plan : Plan) (l k : ℕ) (d s : DevId) → IsLink plan l d s → IsLink plan k d s → l ≡ k
one_link plan l k d s a b = one_place plan.links l k a.row b.row (distinct_links plan) a.is b.is (a.consumer ∙ sym b.consumer) (a.supplier ∙ sym b.supplier)

-- a link of the pair of a runtime link has pm_runtime
pub pair_runtime : (plan : Plan) (l k : ℕ) (row : LinkRow) → slice_get plan.links l ≡ Some row → IsLink plan k row.consumer row.supplier → row.pm_runtime ≡ true
pair_runtime plan l k row is b =
    let place : l ≡ k = one_place plan.links l k row b.row (distinct_links plan) is b.is (sym b.consumer) (sym b.supplier) in
    let both : Some row ≡ Some b.row = sym is ∙ ap (slice_get plan.links) place ∙ b.is in
    let same : row ≡ b.row = cc in ap (λ (r : LinkRow). r.pm_runtime) same ∙ b.runtime
