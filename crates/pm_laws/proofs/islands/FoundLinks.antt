-- The link that is found lies in the region.
use Rattle.std.proofs.Common.{ℕ, zero, suc, ◌≡◌, ◌+◌, Bool, true, false, not, ◌&&◌, List, [], ◌∷◌, Option, Some, None, if◌then◌else◌, ap, refl, sym, subst, ◌∙◌, nat_eq, nat_le}
use Rattle.std.specs.Prelude.{slice_get}
use Rattle.std.specs.List.{list_any}
use Rattle.std.proofs.lemmas.Bool.{or_parts, and_parts, eqb-true, false≢true}
use Rattle.pm_base.specs.declared.DevId.{DevId}
use Rattle.pm_model.specs.declared.plan.Plan.{Plan}
use Rattle.pm_model.specs.declared.rows.LinkRow.{LinkRow}
use Rattle.pm_model.specs.Derived.{is_link_of, is_above, nearer, least_link, first_held, first_free, next_supplier}
use Rattle.pm_model.specs.IsPlan.{is_plan, are_distinct, is_same_pair}
use Rattle.pm_model.specs.Views.{Views}
use Rattle.pm_laws.proofs.stacks.Tests.{front, not_true, rear, same_self}
use Rattle.pm_laws.proofs.islands.Region.{Region, IsRuntimePair}

some_dev : (a b : ℕ × DevId) → Some a ≡ Some b → a.1 ≡ b.1
some_dev a b e = let same : a ≡ b = cc in ap (λ x. x.1) same

-- whatever link is found, its supplier has what each link that passes gives its supplier
least_has : (P : DevId → Type 0) (test : LinkRow → Bool → Bool → Bool) (i : ℕ) (rows : List LinkRow) (hs ps : List Bool)
    → ((l : ℕ) (row : LinkRow) (h p : Bool) → slice_get rows l ≡ Some row → test row h p ≡ true → P row.supplier)
    → (x : ℕ × DevId) → least_link test i rows hs ps ≡ Some x → P x.1
least_has P test i [] hs ps each x e = absurd (cc)
least_has P test i (row ∷ rows) [] ps each x e = absurd (cc)
least_has P test i (row ∷ rows) (h ∷ hs) [] each x e = absurd (cc)
least_has P test i (row ∷ rows) (h ∷ hs) (p ∷ ps) each x e =
    go (test row h p) (least_link test (i + 1) rows hs ps) refl e (least_has P test (i + 1) rows hs ps (λ l. each (suc l)))
  where
    near : (y : Option (ℕ × DevId)) → P row.supplier → ((x : ℕ × DevId) → y ≡ Some x → P x.1) → (x : ℕ × DevId) → nearer (i, row.supplier) y ≡ Some x → P x.1
    near None own rest x e = subst (λ z. P z) (some_dev (i, row.supplier) x e) own
    near (Some y) own rest x e = pick (nat_le row.supplier.0 y.1.0) e
      where
        pick : (b : Bool) → (if b then Some (i, row.supplier) else Some y) ≡ Some x → P x.1
        pick true e = subst (λ z. P z) (some_dev (i, row.supplier) x e) own
        pick false e = rest x e

    go : (b : Bool) (y : Option (ℕ × DevId)) → test row h p ≡ b → (if b then nearer (i, row.supplier) y else y) ≡ Some x
        → ((x : ℕ × DevId) → y ≡ Some x → P x.1) → P x.1
    go true y t e rest = near y (each 0 row h p refl t) rest x e
    go false y t e rest = rest x e

own_supplier : (plan : Plan) (k : Region plan) (d : DevId) (test : LinkRow → Bool → Bool) → k.inside d.0 ≡ true
    → (l : ℕ) (row : LinkRow) (h p : Bool) → slice_get plan.links l ≡ Some row → is_link_of d row p && test row h ≡ true → k.inside row.supplier.0 ≡ true
own_supplier plan k d test i l row h p at e =
    let x = and_parts _ _ (and_parts _ _ e).0 in
    let y = and_parts _ _ x.0 in
    sym (k.linked l row at y.1) ∙ ap k.inside (eqb-true row.consumer.0 d.0 y.0) ∙ i

pub held_in : (plan : Plan) (k : Region plan) (v : Views) (d : DevId) (x : ℕ × DevId) → k.inside d.0 ≡ true → first_held plan v d ≡ Some x → k.inside x.1.0 ≡ true
unfolding first_held
held_in plan k v d x i e =
    least_has (λ s. k.inside s.0 ≡ true) _ 0 plan.links v.held v.present (own_supplier plan k d (λ row h. h) i) x e

pub free_in : (plan : Plan) (k : Region plan) (v : Views) (d : DevId) (x : ℕ × DevId) → k.inside d.0 ≡ true → first_free plan v d ≡ Some x → k.inside x.1.0 ≡ true
unfolding first_free
free_in plan k v d x i e =
    least_has (λ s. k.inside s.0 ≡ true) _ 0 plan.links v.held v.present (own_supplier plan k d (λ row h. not h) i) x e

pub next_in : (plan : Plan) (k : Region plan) (v : Views) (d : DevId) (last : Option DevId) (x : ℕ × DevId) → k.inside d.0 ≡ true → next_supplier plan v d last ≡ Some x
    → k.inside x.1.0 ≡ true
unfolding next_supplier
next_in plan k v d last x i e =
    least_has (λ s. k.inside s.0 ≡ true) _ 0 plan.links v.held v.present (own_supplier plan k d (λ row h. is_above last row.supplier) i) x e

-- two links of one pair are one
any_not : {A : Type 0} (p : A → Bool) (xs : List A) (n : ℕ) (x : A) → list_any p xs ≡ false → slice_get xs n ≡ Some x → p x ≡ false
any_not p [] n x none is = absurd (cc)
any_not p (y ∷ xs) zero x none is = let same : y ≡ x = cc in subst (λ z. p z ≡ false) same (or_parts (p y) (list_any p xs) none).0
any_not p (y ∷ xs) (suc n) x none is = any_not p xs n x (or_parts (p y) (list_any p xs) none).1 is

same_sym : (a b : LinkRow) → is_same_pair a b ≡ true → is_same_pair b a ≡ true
same_sym a b e =
    let h = and_parts (nat_eq a.consumer.0 b.consumer.0) (nat_eq a.supplier.0 b.supplier.0) e in
    rw (sym (eqb-true a.consumer.0 b.consumer.0 h.0), sym (eqb-true a.supplier.0 b.supplier.0 h.1), same_self a.consumer.0, same_self a.supplier.0) refl

one_link : (rows : List LinkRow) (i j : ℕ) (a b : LinkRow) → are_distinct is_same_pair rows ≡ true → slice_get rows i ≡ Some a → slice_get rows j ≡ Some b
    → is_same_pair a b ≡ true → a ≡ b
one_link [] i j a b apart x y same = absurd (cc)
one_link (row ∷ rows) zero zero a b apart x y same = cc
one_link (row ∷ rows) zero (suc j) a b apart x y same =
    let h = and_parts (not (list_any (is_same_pair row) rows)) (are_distinct is_same_pair rows) apart in
    let is : row ≡ a = cc in
    absurd (false≢true (sym (any_not (is_same_pair row) rows j b (not_true _ h.0) y) ∙ subst (λ z. is_same_pair z b ≡ true) (sym is) same))
one_link (row ∷ rows) (suc i) zero a b apart x y same =
    let h = and_parts (not (list_any (is_same_pair row) rows)) (are_distinct is_same_pair rows) apart in
    let is : row ≡ b = cc in
    absurd (false≢true (sym (any_not (is_same_pair row) rows i a (not_true _ h.0) x) ∙ subst (λ z. is_same_pair z a ≡ true) (sym is) (same_sym a b same)))
one_link (row ∷ rows) (suc i) (suc j) a b apart x y same =
    one_link rows i j a b (and_parts (not (list_any (is_same_pair row) rows)) (are_distinct is_same_pair rows) apart).1 x y same

distinct_links : (plan : Plan) → is_plan plan.lines plan.trace plan.domains plan.devices plan.links plan.callers ≡ true → are_distinct is_same_pair plan.links ≡ true
distinct_links plan law = search (front, rear) depth 40

pub free_runtime : (plan : Plan) (v : Views) (d : DevId) (x : ℕ × DevId) → first_free plan v d ≡ Some x → IsRuntimePair plan d x.1
unfolding first_free
free_runtime plan v d x e = least_has (λ s. IsRuntimePair plan d s) _ 0 plan.links v.held v.present (λ l row h p at f. each l row h p at f) x e
  where
    each : (l : ℕ) (row : LinkRow) (h p : Bool) → slice_get plan.links l ≡ Some row → is_link_of d row p && not h ≡ true → IsRuntimePair plan d row.supplier
    each l row h p at f = λ n other found of_pair.
        let x = and_parts (nat_eq row.consumer.0 d.0 && row.pm_runtime) p (and_parts _ (not h) f).0 in
        let y = and_parts (nat_eq row.consumer.0 d.0) row.pm_runtime x.0 in
        let z = and_parts (nat_eq other.consumer.0 d.0) (nat_eq other.supplier.0 row.supplier.0) of_pair in
        let same : is_same_pair row other ≡ true =
        rw (eqb-true row.consumer.0 d.0 y.0, eqb-true other.consumer.0 d.0 z.0, eqb-true other.supplier.0 row.supplier.0 z.1, same_self d.0, same_self row.supplier.0) refl in
        let one = one_link plan.links l n row other (distinct_links plan plan.law) at found same in
        sym (ap (λ w. w.pm_runtime) one) ∙ y.1
