-- Chains of domains: each with the one above it, those that go on, and those that go off.
use Rattle.std.proofs.Common.{ℕ, zero, suc, ◌≡◌, ◌+◌, ◌<◌, ◌⊎◌, inl, inr, Bool, true, false, not, ◌&&◌, List, [], ◌∷◌, Option, Some, None, length, nat_eq, nat_lt, slice_get, slice_set, slice_index_or, if◌then◌else◌, ap, refl, sym, ◌∙◌, arith, subst}
use Rattle.std.specs.Prelude.{◌||◌, is_some}
use Rattle.std.specs.List.{zip, list_any, list_all, filter}
use Rattle.std.specs.Option.{option_and_then, option_map_or}
use Rattle.std.proofs.lemmas.Bool.{eqb-true, ltb-true}
use Rattle.std.proofs.lemmas.Bool.Decides.{eqb_tells}
use Rattle.std.proofs.lemmas.Grind.{common_steps}
use Rattle.std.proofs.lemmas.List.{get_or-set_other}
use Rattle.pm_base.specs.declared.DevId.{DevId}
use Rattle.pm_base.specs.declared.DomId.{DomId}
use Rattle.pm_model.specs.declared.plan.Plan.{Plan}
use Rattle.pm_model.specs.declared.rows.DeviceRow.{DeviceRow}
use Rattle.pm_model.specs.declared.rows.DomainRow.{DomainRow}
use Rattle.pm_model.specs.Derived.{up, are_quiet, goes_off, going_off, down}
use Rattle.pm_model.specs.IsPlan.{is_name, each_at, is_domain, is_device, is_plan}
use Rattle.pm_model.specs.PlanRows.{domain, domains_of, domain_parent, chain, is_always_on, no_callbacks}
use Rattle.pm_model.specs.Views.{Views, is_on}
use Rattle.pm_laws.proofs.counts.Links.{both}
use Rattle.pm_laws.proofs.safe.LinkRows.{some_row}

-- this domain is one of these
abbrev pub among : ℕ → List ℕ → Bool
among o l = list_any (nat_eq o) l

abbrev pub domain_at : ℕ → DomId
domain_at o = record { 0 = o }

nat_self : (n : ℕ) → nat_eq n n ≡ true
nat_self n = grind (arith, common_steps)

-- what each row of a list passes, by its place
pub at_each : {A : Type 0} (test : ℕ → A → Bool) (i : ℕ) (rows : List A) (n : ℕ) (row : A) → each_at test i rows ≡ true → slice_get rows n ≡ Some row → test (i + n) row ≡ true
at_each test i [] n row all is = cc
at_each test i (x ∷ rows) zero row all is =
    let same : x ≡ row = some_row x row is in let here = (both (test i x) (each_at test (i + 1) rows) all).0 in
    let e : i ≡ i + 0 = omega arith in rw (← e, ← same) here
at_each test i (x ∷ rows) (suc n) row all is =
    let e : i + 1 + n ≡ i + suc n = omega arith in rw (← e) (at_each test (i + 1) rows n row (both (test i x) (each_at test (i + 1) rows) all).1 is)

pub lawful_domains : (plan : Plan) → each_at is_domain 0 plan.domains ≡ true
lawful_domains plan =
    let law : is_plan plan.lines plan.trace plan.domains plan.devices plan.links plan.callers ≡ true = plan.law in
    (both _ _ (both _ _ (both _ _ (both _ _ (both _ _ (both _ _ (both _ _ (both _ _ law).0).0).0).0).0).0).0).1

pub lawful_devices : (plan : Plan) → each_at (is_device (length plan.domains)) 0 plan.devices ≡ true
lawful_devices plan =
    let law : is_plan plan.lines plan.trace plan.domains plan.devices plan.links plan.callers ≡ true = plan.law in
    (both _ _ (both _ _ (both _ _ (both _ _ (both _ _ (both _ _ (both _ _ law).0).0).0).0).0).0).1

-- the domain above another stands before it
pub parent_less : (plan : Plan) (o p : DomId) → domain_parent plan.domains o ≡ Some p → p.0 < o.0
parent_less plan o p e = go (slice_get plan.domains o.0) refl e
  where
    go : (r : Option DomainRow) → slice_get plan.domains o.0 ≡ r → option_and_then (λ row. row.parent) r ≡ Some p → p.0 < o.0
    go None is e = cc
    go (Some row) is e =
        let law : option_map_or (λ q. nat_lt q.0 (0 + o.0)) row.parent true ≡ true = (both (is_name row.name) _ (at_each is_domain 0 plan.domains o.0 row (lawful_domains plan) is)).1 in
        let k : nat_lt p.0 (0 + o.0) ≡ true = rw e at law in
        let l : p.0 < 0 + o.0 = ltb-true p.0 (0 + o.0) k in omega arith

-- a chain has its first, and with each domain the one above
pub head_in : (rows : List DomainRow) (n : ℕ) (o : DomId) → o.0 < n → among o.0 (chain rows n (Some o)) ≡ true
head_in rows zero o lt = absurd (omega arith)
head_in rows (suc n) o lt = rw (nat_self o.0) refl

either_among : (a b : Bool) → a || b ≡ true → (a ≡ true) ⊎ (b ≡ true)
either_among true b e = inl refl
either_among false b e = inr e

or_right : (a b : Bool) → b ≡ true → a || b ≡ true
or_right true b e = refl
or_right false b e = e

pub closed : (plan : Plan) (n : ℕ) (o : DomId) (x : ℕ) (p : DomId) → o.0 < n → among x (chain plan.domains n (Some o)) ≡ true
    → domain_parent plan.domains (domain_at x) ≡ Some p → among p.0 (chain plan.domains n (Some o)) ≡ true
closed plan zero o x p lt has e = absurd (omega arith)
closed plan (suc n) o x p lt has e =
    elim (either_among (nat_eq x o.0) (among x (chain plan.domains n (domain_parent plan.domains o))) has) [
      | inl same ↦ here (eqb-true x o.0 same)
      | inr there ↦ or_right (nat_eq p.0 o.0) _ (below (domain_parent plan.domains o) refl (λ q. closed plan n q x p) there)
    ]
  where
    here : x ≡ o.0 → among p.0 (chain plan.domains (suc n) (Some o)) ≡ true
    here same =
        let above : domain_parent plan.domains o ≡ Some p = ap (λ i. domain_parent plan.domains (domain_at i)) (sym same) ∙ e in
        let less = parent_less plan o p above in
        or_right (nat_eq p.0 o.0) _ (rw above (head_in plan.domains n p (omega arith)))

    below : (q : Option DomId) → domain_parent plan.domains o ≡ q
        → ((q : DomId) → q.0 < n → among x (chain plan.domains n (Some q)) ≡ true → domain_parent plan.domains (domain_at x) ≡ Some p → among p.0 (chain plan.domains n (Some q)) ≡ true)
        → among x (chain plan.domains n q) ≡ true → among p.0 (chain plan.domains n q) ≡ true
    below None is further there = empty n there
      where
        empty : (n : ℕ) → among x (chain plan.domains n None) ≡ true → among p.0 (chain plan.domains n None) ≡ true
        empty zero t = cc
        empty (suc n) t = cc
    below (Some q) is further there = let less = parent_less plan o q is in further q (omega arith) there e

-- the domain of a device is one of the plan's
pub domain_within : (plan : Plan) (d : DevId) (o : DomId) → domain plan d ≡ Some o → o.0 < length plan.domains
unfolding domain
domain_within plan d o e = go (slice_get plan.devices d.0) refl e
  where
    go : (r : Option DeviceRow) → slice_get plan.devices d.0 ≡ r → option_map_or (λ row. row.domain) r None ≡ Some o → o.0 < length plan.domains
    go None is e = cc
    go (Some row) is e =
        let law = at_each (is_device (length plan.domains)) 0 plan.devices d.0 row (lawful_devices plan) is in
        let it : option_map_or (λ q. nat_lt q.0 (length plan.domains)) row.domain true ≡ true = (both _ _ (both _ _ (both _ _ (both _ _ (both _ _ (both _ _ (both _ _ (both _ _ law).0).0).0).0).0).0).0).1 in
        let k : nat_lt o.0 (length plan.domains) ≡ true = rw e at it in ltb-true o.0 (length plan.domains) k

-- a device without callbacks has no domain
pub quiet_domain : (plan : Plan) (d : DevId) (o : DomId) → no_callbacks plan d ≡ true → domain plan d ≡ Some o → ⊥
unfolding domain no_callbacks
quiet_domain plan d o none e = go (slice_get plan.devices d.0) refl none e
  where
    refuted : (a b : Bool) → a ≡ true → b ≡ true → not (a && b) ≡ true → ⊥
    refuted true true p q r = cc
    refuted true false p q r = cc
    refuted false b p q r = cc

    go : (r : Option DeviceRow) → slice_get plan.devices d.0 ≡ r → option_map_or (λ row. row.no_callbacks) r false ≡ true → option_map_or (λ row. row.domain) r None ≡ Some o → ⊥
    go None is n e = cc
    go (Some row) is n e =
        let law = at_each (is_device (length plan.domains)) 0 plan.devices d.0 row (lawful_devices plan) is in
        let it : not (row.no_callbacks && is_some row.domain) ≡ true = (both _ _ (both _ _ (both _ _ (both _ _ (both _ _ (both _ _ (both _ _ law).0).0).0).0).0).0).1 in
        refuted row.no_callbacks (is_some row.domain) n (rw e refl) it

-- those that go up: all of the chain are on then
filtered : (f : ℕ → Bool) (o : ℕ) (l : List ℕ) → among o l ≡ true → f o ≡ true → among o (filter f l) ≡ true
filtered f o [] has e = cc
filtered f o (x ∷ l) has e =
    elim (either_among (nat_eq o x) (among o l) has) [
      | inl same ↦ let q : f x ≡ true = ap f (sym (eqb-true o x same)) ∙ e in rw (q, same) refl
      | inr there ↦ go (f x) (filtered f o l there e)
    ]
  where
    go : (b : Bool) → among o (filter f l) ≡ true → among o (if b then x ∷ filter f l else filter f l) ≡ true
    go true t = or_right (nat_eq o x) _ t
    go false t = t

unfiltered : (f : ℕ → Bool) (o : ℕ) (l : List ℕ) → among o (filter f l) ≡ true → among o l ≡ true
unfiltered f o [] has = has
unfiltered f o (x ∷ l) has = go (f x) (unfiltered f o l) has
  where
    go : (b : Bool) → (among o (filter f l) ≡ true → among o l ≡ true) → among o (if b then x ∷ filter f l else filter f l) ≡ true → among o (x ∷ l) ≡ true
    go true below has = elim (either_among (nat_eq o x) (among o (filter f l)) has) [ inl same ↦ rw same refl | inr there ↦ or_right (nat_eq o x) _ (below there) ]
    go false below has = or_right (nat_eq o x) _ (below has)

pub in_up : (plan : Plan) (v : Views) (d : DevId) (o : ℕ) → among o (domains_of plan d) ≡ true → is_on v o ≡ false → among o (up plan v d) ≡ true
unfolding up
in_up plan v d o has off = filtered (λ o. not (is_on v o)) o (domains_of plan d) has (rw off refl)

pub of_up : (plan : Plan) (v : Views) (d : DevId) (o : ℕ) → among o (up plan v d) ≡ true → among o (domains_of plan d) ≡ true
unfolding up
of_up plan v d o has = unfiltered (λ o. not (is_on v o)) o (domains_of plan d) has

-- those that go off
pub record WentOff (plan : Plan) (v : Views) (d : DevId) (on : List Bool) (gone : List ℕ) (p : ℕ) : Type 0 where
  pub sometimes : is_always_on plan p ≡ false
  pub quiet : are_quiet plan v d p ≡ true
  pub below : (o : ℕ) → domain_parent plan.domains (domain_at o) ≡ Some (domain_at p) → (slice_index_or on o false ≡ false) ⊎ (among o gone ≡ true)

off_below : (rows : List DomainRow) (on : List Bool) (p o : ℕ) → list_all (λ q. not (option_map_or (λ x. nat_eq x.0 p) q.0.parent false) || not q.1) (zip rows on) ≡ true
    → domain_parent rows (domain_at o) ≡ Some (domain_at p) → slice_index_or on o false ≡ false
off_below [] on p o all e = cc
off_below (x ∷ rows) [] p o all e = nothing o
  where
    nothing : (o : ℕ) → slice_index_or [] o false ≡ false
    nothing o = refl
off_below (x ∷ rows) (b ∷ on) p zero all e =
    let here : not (option_map_or (λ y. nat_eq y.0 p) x.parent false) || not b ≡ true = (both _ _ all).0 in
    let k : not (option_map_or (λ y. nat_eq y.0 p) (Some (domain_at p)) false) || not b ≡ true = rw e at here in
    let j : not true || not b ≡ true = rw (nat_self p) at k in go b j
  where
    go : (b : Bool) → not true || not b ≡ true → b ≡ false
    go true e = cc
    go false e = refl
off_below (x ∷ rows) (b ∷ on) p (suc o) all e = off_below rows on p o (both _ _ all).1 e

went_off : (plan : Plan) (v : Views) (d : DevId) (on : List Bool) (x p : ℕ) (gone : List ℕ) → goes_off plan v d on x ≡ true → nat_eq p x ≡ true → WentOff plan v d on gone p
went_off plan v d on x p gone goes same =
    let a = both _ _ goes in let b = both _ _ a.0 in let c = both _ _ b.0 in
    let is : x ≡ p = sym (eqb-true p x same) in
    subst (WentOff plan v d on gone) is (record {
      sometimes = off (is_always_on plan x) c.1;
      quiet = b.1;
      below = λ o e. inl (off_below plan.domains on x o a.1 e);
    })
  where
    off : (b : Bool) → not b ≡ true → b ≡ false
    off true e = cc
    off false e = refl

pub all_went : (plan : Plan) (v : Views) (d : DevId) (l : List ℕ) (on : List Bool) (p : ℕ) → among p (going_off plan v d on l) ≡ true
    → WentOff plan v d on (going_off plan v d on l) p
all_went plan v d [] on p has = cc
all_went plan v d (x ∷ above) on p has = go (goes_off plan v d on x) refl (all_went plan v d above (slice_set on x false) p) has
  where
    later : WentOff plan v d (slice_set on x false) (going_off plan v d (slice_set on x false) above) p
        → WentOff plan v d on (x ∷ going_off plan v d (slice_set on x false) above) p
    later w = record {
      sometimes = w.sometimes;
      quiet = w.quiet;
      below = λ o e. elim (w.below o e) [
        | inl off ↦ elim (eqb_tells o x) [
          | inl q ↦ let it : among o (x ∷ going_off plan v d (slice_set on x false) above) ≡ true = rw q.0 refl in inr it
          | inr q ↦ inl (sym (get_or-set_other on x o false false q.1) ∙ off)
        ]
        | inr there ↦ inr (or_right (nat_eq o x) _ there)
      ];
    }

    go : (b : Bool) → goes_off plan v d on x ≡ b
        → (among p (going_off plan v d (slice_set on x false) above) ≡ true → WentOff plan v d (slice_set on x false) (going_off plan v d (slice_set on x false) above) p)
        → among p (if b then x ∷ going_off plan v d (slice_set on x false) above else []) ≡ true
        → WentOff plan v d on (if b then x ∷ going_off plan v d (slice_set on x false) above else []) p
    go true goes rest has =
        elim (either_among (nat_eq p x) (among p (going_off plan v d (slice_set on x false) above)) has) [
          | inl same ↦ went_off plan v d on x p _ goes same
          | inr there ↦ later (rest there)
        ]
    go false goes rest has = cc

pub down_went : (plan : Plan) (v : Views) (d : DevId) (p : ℕ) → among p (down plan v d) ≡ true → WentOff plan v d v.on (down plan v d) p
unfolding down
down_went plan v d p has = all_went plan v d (domains_of plan d) v.on p has
