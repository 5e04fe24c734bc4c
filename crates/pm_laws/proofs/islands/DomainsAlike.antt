-- The domains that go on and off are the same where views agree.
use Rattle.std.proofs.Common.{ℕ, zero, suc, ◌≡◌, ◌+◌, Bool, true, false, cond, not, ◌&&◌, ◌||◌, List, [], ◌∷◌, Option, Some, None, nat_eq, slice_set, slice_index_or, if◌then◌else◌, ap, refl, sym, ◌∙◌, arith, length}
use Rattle.std.specs.Prelude.{slice_get}
use Rattle.std.specs.List.{zip, enumerate_from, list_all, filter}
use Rattle.std.specs.Option.{option_map_or, option_and_then}
use Rattle.std.proofs.lemmas.Bool.{and_parts, eqb-true, false≢true}
use Rattle.pm_base.specs.declared.DevId.{DevId}
use Rattle.pm_base.specs.declared.DomId.{DomId}
use Rattle.pm_model.specs.declared.plan.Plan.{Plan}
use Rattle.pm_model.specs.declared.rows.DeviceRow.{DeviceRow}
use Rattle.pm_model.specs.declared.rows.DomainRow.{DomainRow}
use Rattle.pm_model.specs.Derived.{is_suspended, up, down, are_quiet, are_off, goes_off, going_off}
use Rattle.pm_model.specs.PlanRows.{domain, domains_of, domain_parent, chain}
use Rattle.pm_model.specs.Views.{Views, device}
use Rattle.pm_laws.proofs.islands.Region.{Alike, Region, Agree}
use Rattle.pm_laws.proofs.islands.AlikeLists.{alike_at, alike_get, alike_set}
use Rattle.pm_laws.proofs.islands.ViewsAlike.{device_agrees}

abbrev is_own : (ℕ → Bool) → Option DomId → Bool
is_own inside o = option_map_or (λ x. inside x.0) o true

-- a chain of domains inside stays inside
parent_own : (plan : Plan) (k : Region plan) (o : DomId) → k.domains o.0 ≡ true → is_own k.domains (domain_parent plan.domains o) ≡ true
parent_own plan k o i = go (slice_get plan.domains o.0) refl
  where
    by_row : (row : DomainRow) (x : Option DomId) → slice_get plan.domains o.0 ≡ Some row → row.parent ≡ x → is_own k.domains x ≡ true
    by_row row None at is = refl
    by_row row (Some p) at is = sym (k.above o.0 row p at is) ∙ i

    go : (x : Option DomainRow) → slice_get plan.domains o.0 ≡ x → is_own k.domains (option_and_then (λ row. row.parent) x) ≡ true
    go None at = refl
    go (Some row) at = by_row row row.parent at refl

chain_own : (plan : Plan) (k : Region plan) (n : ℕ) (o : Option DomId) → is_own k.domains o ≡ true → list_all k.domains (chain plan.domains n o) ≡ true
chain_own plan k zero o i = refl
chain_own plan k (suc n) None i = refl
chain_own plan k (suc n) (Some o) i = rw (i, chain_own plan k n (domain_parent plan.domains o) (parent_own plan k o i)) refl

pub domain_own : (plan : Plan) (k : Region plan) (d : DevId) → k.inside d.0 ≡ true → is_own k.domains (domain plan d) ≡ true
unfolding domain
domain_own plan k d i = go (slice_get plan.devices d.0) refl
  where
    by_row : (row : DeviceRow) (x : Option DomId) → slice_get plan.devices d.0 ≡ Some row → row.domain ≡ x → is_own k.domains x ≡ true
    by_row row None at is = refl
    by_row row (Some o) at is = sym (k.attached d.0 row o at is) ∙ i

    go : (x : Option DeviceRow) → slice_get plan.devices d.0 ≡ x → is_own k.domains (option_map_or (λ row. row.domain) x None) ≡ true
    go None at = refl
    go (Some row) at = by_row row row.domain at refl

pub domains_own : (plan : Plan) (k : Region plan) (d : DevId) → k.inside d.0 ≡ true → list_all k.domains (domains_of plan d) ≡ true
unfolding domains_of
domains_own plan k d i = chain_own plan k (length plan.domains) (domain plan d) (domain_own plan k d i)

off_alike : (inside : ℕ → Bool) (xs ys : List Bool) → Alike inside xs ys → (ds : List ℕ) → list_all inside ds ≡ true
    → filter (λ o. not (slice_index_or xs o false)) ds ≡ filter (λ o. not (slice_index_or ys o false)) ds
off_alike inside xs ys a [] i = refl
off_alike inside xs ys a (o ∷ ds) i =
    let h = and_parts _ _ i in rw (alike_at inside xs ys o false a h.0, off_alike inside xs ys a ds h.1) refl

pub up_agrees : {plan : Plan} {k : Region plan} {v w : Views} (d : DevId) → Agree plan k v w → k.inside d.0 ≡ true → up plan v d ≡ up plan w d
unfolding up
up_agrees {plan} {k} {v} {w} d a i = off_alike k.domains v.on w.on a.on (domains_of plan d) (domains_own plan k d i)

-- two tests that agree at each row
all_at : {A : Type 0} (p q : ℕ × A → Bool) (n : ℕ) (rows : List A) → ((i m : ℕ) (row : A) → m ≡ n + i → slice_get rows i ≡ Some row → p (m, row) ≡ q (m, row))
    → list_all p (enumerate_from n rows) ≡ list_all q (enumerate_from n rows)
all_at p q n [] same = refl
all_at p q n (row ∷ rows) same =
    rw (same 0 n row (omega arith) refl, all_at p q (n + 1) rows (λ i m r at. same (suc i) m r (omega (arith, at)))) refl

abbrev is_in : ℕ → Option DomId → Bool
is_in o x = option_map_or (λ y. nat_eq y.0 o) x false

in_is : (o : ℕ) (x : Option DomId) → is_in o x ≡ true → (y : DomId) × (x ≡ Some y) × (y.0 ≡ o)
in_is o None e = absurd (false≢true e)
in_is o (Some y) e = (y, refl, eqb-true y.0 o e)

-- where a test that stands before holds, what stands behind it is the same
behind : (a b x y : Bool) → (b ≡ true → x ≡ y) → (a || not b || x) ≡ (a || not b || y)
behind true b x y same = refl
behind false false x y same = refl
behind false true x y same = same refl

quiet_alike : {plan : Plan} {k : Region plan} {v w : Views} (d : DevId) (o : ℕ) → Agree plan k v w → k.domains o ≡ true → are_quiet plan v d o ≡ are_quiet plan w d o
quiet_alike {plan} {k} {v} {w} d o a i = all_at _ _ 0 plan.devices (λ j m row is at. one j m row is at)
  where
    calm : Views → ℕ → Bool
    calm v m = is_suspended v (record { 0 = m }) && nat_eq (device v (record { 0 = m })).depth 0

    one : (j m : ℕ) (row : DeviceRow) → m ≡ 0 + j → slice_get plan.devices j ≡ Some row
        → (nat_eq m d.0 || not (is_in o row.domain) || (is_suspended v (record { 0 = m }) && nat_eq (device v (record { 0 = m })).depth 0))
        ≡ (nat_eq m d.0 || not (is_in o row.domain) || (is_suspended w (record { 0 = m }) && nat_eq (device w (record { 0 = m })).depth 0))
    one j m row is' at =
        let is : m ≡ j = omega (arith, is') in
        behind (nat_eq m d.0) (is_in o row.domain) _ _ (λ h.
        let x = in_is o row.domain h in
        let own : k.inside m ≡ true = ap k.inside is ∙ k.attached j row x.0 at x.1 ∙ ap k.domains x.2 ∙ i in
        rw (device_agrees (record { 0 = m }) a own) refl)

shut : (b x y : Bool) → (b ≡ true → x ≡ y) → (not b || not x) ≡ (not b || not y)
shut false x y same = refl
shut true x y same = ap not (same refl)

-- the domains under o
under_alike : (o : ℕ) (inside : ℕ → Bool) (rows : List DomainRow) (xs ys : List Bool)
    → ((i : ℕ) (row : DomainRow) → slice_get rows i ≡ Some row → is_in o row.parent ≡ true → inside i ≡ true) → Alike inside xs ys
    → list_all (λ p. not (is_in o p.0.parent) || not p.1) (zip rows xs) ≡ list_all (λ p. not (is_in o p.0.parent) || not p.1) (zip rows ys)
under_alike o inside [] xs ys closed a = refl
under_alike o inside (row ∷ rows) [] [] closed a = refl
under_alike o inside (row ∷ rows) [] (y ∷ ys) closed a = absurd a
under_alike o inside (row ∷ rows) (x ∷ xs) [] closed a = absurd a
under_alike o inside (row ∷ rows) (x ∷ xs) (y ∷ ys) closed a =
    rw (shut (is_in o row.parent) x y (λ h. a.0 (closed 0 row refl h)), under_alike o (λ n. inside (suc n)) rows xs ys (λ i. closed (suc i)) a.1) refl

off_agrees : (plan : Plan) (k : Region plan) (xs ys : List Bool) (o : ℕ) → Alike k.domains xs ys → k.domains o ≡ true → are_off plan xs o ≡ are_off plan ys o
off_agrees plan k xs ys o a i =
    under_alike o k.domains plan.domains xs ys (λ j row at h. let x = in_is o row.parent h in k.above j row x.0 at x.1 ∙ ap k.domains x.2 ∙ i) a

goes_agrees : {plan : Plan} {k : Region plan} {v w : Views} (d : DevId) (xs ys : List Bool) (o : ℕ) → Agree plan k v w → Alike k.domains xs ys → k.domains o ≡ true
    → goes_off plan v d xs o ≡ goes_off plan w d ys o
goes_agrees {plan} {k} {v} {w} d xs ys o a b i = rw (alike_get k.domains xs ys o b i, quiet_alike d o a i, off_agrees plan k xs ys o b i) refl

going_agrees : {plan : Plan} {k : Region plan} {v w : Views} (d : DevId) (xs ys : List Bool) (os : List ℕ) → Agree plan k v w → Alike k.domains xs ys
    → list_all k.domains os ≡ true → going_off plan v d xs os ≡ going_off plan w d ys os
going_agrees d xs ys [] a b i = refl
going_agrees {plan} {k} {v} {w} d xs ys (o ∷ os) a b i =
    let h = and_parts _ _ i in
    let rest = going_agrees d (slice_set xs o false) (slice_set ys o false) os a (alike_set k.domains xs ys o false false b (λ _. refl)) h.1 in
    rw (goes_agrees d xs ys o a b h.0, rest) refl

pub down_agrees : {plan : Plan} {k : Region plan} {v w : Views} (d : DevId) → Agree plan k v w → k.inside d.0 ≡ true → down plan v d ≡ down plan w d
unfolding down
down_agrees {plan} {k} {v} {w} d a i = going_agrees d v.on w.on (domains_of plan d) a a.on (domains_own plan k d i)

-- those that go off are of the chain
going_own : (inside : ℕ → Bool) (plan : Plan) (v : Views) (d : DevId) (on : List Bool) (os : List ℕ) → list_all inside os ≡ true
    → list_all inside (going_off plan v d on os) ≡ true
going_own inside plan v d on [] i = refl
going_own inside plan v d on (o ∷ os) i =
    let h = and_parts _ _ i in go (goes_off plan v d on o) h.0 (going_own inside plan v d (slice_set on o false) os h.1)
  where
    go : (b : Bool) → inside o ≡ true → list_all inside (going_off plan v d (slice_set on o false) os) ≡ true
        → list_all inside (if b then o ∷ going_off plan v d (slice_set on o false) os else []) ≡ true
    go true e rest = rw (e, rest) refl
    go false e rest = refl

pub down_own : (plan : Plan) (k : Region plan) (v : Views) (d : DevId) → k.inside d.0 ≡ true → list_all k.domains (down plan v d) ≡ true
unfolding down
down_own plan k v d i = going_own k.domains plan v d v.on (domains_of plan d) (domains_own plan k d i)

filter_own : (inside test : ℕ → Bool) (os : List ℕ) → list_all inside os ≡ true → list_all inside (filter test os) ≡ true
filter_own inside test [] i = refl
filter_own inside test (o ∷ os) i =
    let h = and_parts _ _ i in go (test o) h.0 (filter_own inside test os h.1)
  where
    go : (b : Bool) → inside o ≡ true → list_all inside (filter test os) ≡ true → list_all inside (cond b (o ∷ filter test os) (filter test os)) ≡ true
    go true e rest = rw (e, rest) refl
    go false e rest = rest

pub up_own : (plan : Plan) (k : Region plan) (v : Views) (d : DevId) → k.inside d.0 ≡ true → list_all k.domains (up plan v d) ≡ true
unfolding up
up_own plan k v d i = filter_own k.domains _ (domains_of plan d) (domains_own plan k d i)
