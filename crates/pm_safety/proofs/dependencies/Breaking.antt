-- Which bonds a line breaks, bond by bond.
use Rattle.std.proofs.Common.{ℕ, ◌≡◌, ◌<◌, Bool, true, false, not, ◌&&◌, [], ◌∷◌, Option, Some, None, length, option_map, slice_get, ap, refl, sym, ◌∙◌, subst}
use Rattle.std.specs.Prelude.{is_some}
use Rattle.std.specs.List.{list_all}
use Rattle.std.specs.Option.{option_and_then, option_to_list}
use Rattle.pm_base.specs.declared.DevId.{DevId}
use Rattle.pm_base.specs.declared.DomId.{DomId}
use Rattle.pm_model.specs.declared.event.Line.{Line}
use Rattle.pm_model.specs.declared.plan.Plan.{Plan}
use Rattle.pm_model.specs.declared.rows.LinkRow.{LinkRow}
use Rattle.pm_model.specs.Counted.{only_if}
use Rattle.pm_model.specs.Derived.{is_active, is_active_status}
use Rattle.pm_model.specs.History.{History}
use Rattle.pm_model.specs.Lawful.{IsLawful}
use Rattle.pm_model.specs.PlanRows.{domain, domains_of, has_parent, parent, parent_of}
use Rattle.pm_model.specs.Views.{Views, device, is_on, is_present}
use Rattle.pm_model.specs.World.{world}
use Rattle.pm_laws.proofs.counts.Links.{both}
use Rattle.pm_laws.proofs.safe.Steps.{differ}
use Rattle.pm_laws.specs.stacks.Shape.{IsLink}
use Rattle.pm_laws.proofs.stacks.PlanLaw.{HasEarlier, parent_earlier, supplier_earlier}
use Rattle.pm_safety.specs.declared.dependencies.bond.Bond.TheVariants as bond
use Rattle.pm_safety.specs.dependencies.Broken.{domain_off, newly, parent_off, supplier_off}
use Rattle.pm_safety.specs.dependencies.Excuses.{parent_excuse, supplier_excuse}
use Rattle.pm_safety.specs.dependencies.Turning.{IsApart, turned_by}
use Rattle.pm_safety.proofs.dependencies.DomainFrames.{domain_frame}
use Rattle.pm_safety.proofs.dependencies.IgnoringFrames.{ignores_frame}
use Rattle.pm_safety.proofs.dependencies.PickLemmas.{fresh, kept, nothing}
use Rattle.pm_safety.proofs.dependencies.PresentFrames.{present_frame}
use Rattle.pm_safety.proofs.dependencies.StatusFrames.{status_frame}

some_if : {A B : Type 0} (f : A → B) (b : Bool) (x : A) → is_some (option_map f (only_if b x)) ≡ b
some_if f true x = refl
some_if f false x = refl

-- one device as its place in the plan
abbrev pub at : ℕ → DevId
at n = record { 0 = n }

pub parent_less : (plan : Plan) (c p : DevId) → parent plan c ≡ Some p → p.0 < c.0
unfolding has_parent parent_of
parent_less plan c p is =
    let e : HasEarlier plan c (parent_of plan c) = parent_earlier plan c (ap is_some is) in
    subst (λ (q : DevId). q.0 < c.0) (ap (λ o. unwrap o c) is) e.earlier
  where
    unwrap : Option DevId → DevId → DevId
    unwrap (Some x) y = x
    unwrap None y = y

-- whether each kind of bond is off on some views
abbrev pub domain_test : Plan → Views → DevId → Bool
domain_test plan v c = is_active v c && not (list_all (is_on v) (domains_of plan c))

abbrev pub parent_test : Views → DevId → DevId → Bool
parent_test v c p = is_active v c && not (is_active v p) && not (device v p).ignores

abbrev pub link_test : Views → ℕ → LinkRow → Bool
link_test v l row = row.pm_runtime && is_present v l && is_active v row.consumer && not (is_active v row.supplier)

some_domain : (plan : Plan) (h : History) (c : DevId) (o : DomId) → domain plan c ≡ Some o → is_some (domain_off plan h c) ≡ domain_test plan (world plan h).views c
some_domain plan h c o is =
    ap (λ x. is_some (option_map (λ o. bond.Domain c o) (option_and_then (λ o. only_if (domain_test plan (world plan h).views c) o) x))) is
    ∙ some_if (λ o. bond.Domain c o) (domain_test plan (world plan h).views c) o

some_parent : (plan : Plan) (h : History) (c p : DevId) → parent plan c ≡ Some p → is_some (parent_off plan h c) ≡ parent_test (world plan h).views c p
some_parent plan h c p is =
    ap (λ x. is_some (option_map (λ p. bond.Parent c p (parent_excuse plan h c p)) (option_and_then (λ p. only_if (parent_test (world plan h).views c p) p) x))) is
    ∙ some_if (λ p. bond.Parent c p (parent_excuse plan h c p)) (parent_test (world plan h).views c p) p

some_link : (plan : Plan) (h : History) (l : ℕ) (row : LinkRow) → slice_get plan.links l ≡ Some row → is_some (supplier_off plan h l) ≡ link_test (world plan h).views l row
some_link plan h l row is =
    ap (λ x. is_some (option_map (λ row. bond.Supplier row.consumer row.supplier (supplier_excuse plan h row.consumer row.supplier)) (option_and_then (λ row. only_if (link_test (world plan h).views l row) row) x))) is
    ∙ some_if (λ (row : LinkRow). bond.Supplier row.consumer row.supplier (supplier_excuse plan h row.consumer row.supplier)) (link_test (world plan h).views l row) row

pub both_true : (a b : Bool) → a ≡ true → b ≡ true → a && b ≡ true
both_true true b e f = f
both_true false b e f = cc

pub first_false : (a b : Bool) → a ≡ false → a && b ≡ false
first_false true b e = cc
first_false false b e = refl

pub last_false : (a b : Bool) → b ≡ false → a && b ≡ false
last_false true b e = e
last_false false b e = refl

flipped : (b : Bool) → not b ≡ true → b ≡ false
flipped true e = cc
flipped false e = refl

pub not_true : (b : Bool) → b ≡ true → not b ≡ false
not_true true e = refl
not_true false e = cc

pub not_false : (b : Bool) → b ≡ false → not b ≡ true
not_false true e = cc
not_false false e = refl

-- where b follows of a, a false b makes a false
back : (a b : Bool) → (a ≡ true → b ≡ true) → b ≡ false → a ≡ false
back true b f e = differ (f refl) e
back false b f e = refl

module _ (plan : Plan) (h : History) (line : Line) (lawful : IsLawful plan (line ∷ h)) where
  abbrev v : Views
  v = (world plan h).views

  abbrev v' : Views
  v' = (world plan (line ∷ h)).views

  -- where a device isn't turned
  pub stays : (x : DevId) → x.0 < length plan.devices → IsApart x (turned_by line.event) → is_active v' x ≡ is_active v x
  stays x within a = ap is_active_status (status_frame plan h line x lawful within a)

  pub minds : (x : DevId) → IsApart x (turned_by line.event) → (device v' x).ignores ≡ (device v x).ignores
  minds x a = ignores_frame plan h line x lawful a

  -- domains
  pub domain_kept : (c : DevId) → c.0 < length plan.devices → is_active v c ≡ true → newly (domain_off plan h c) (domain_off plan (line ∷ h) c) ≡ []
  domain_kept c within up = go (domain plan c) refl
    where
      go : (o : Option DomId) → domain plan c ≡ o → newly (domain_off plan h c) (domain_off plan (line ∷ h) c) ≡ []
      go None is = kept (domain_off plan h c) (domain_off plan (line ∷ h) c)
          (λ some. differ some (ap (λ x. is_some (option_map (λ o. bond.Domain c o) (option_and_then (λ o. only_if (domain_test plan v' c) o) x))) is))
      go (Some o) is = kept (domain_off plan h c) (domain_off plan (line ∷ h) c) (λ some. some_domain plan h c o is ∙ was (sym (some_domain plan (line ∷ h) c o is) ∙ some))
        where
          was : domain_test plan v' c ≡ true → domain_test plan v c ≡ true
          was now =
              let off : list_all (is_on v') (domains_of plan c) ≡ false = flipped _ (both (is_active v' c) (not (list_all (is_on v') (domains_of plan c))) now).1 in
              both_true (is_active v c) (not (list_all (is_on v) (domains_of plan c))) up
              (not_false _ (back (list_all (is_on v) (domains_of plan c)) (list_all (is_on v') (domains_of plan c)) (domain_frame plan h line c o is lawful within up) off))

  pub domain_fresh : (c : DevId) → is_active v c ≡ false → newly (domain_off plan h c) (domain_off plan (line ∷ h) c) ≡ option_to_list (domain_off plan (line ∷ h) c)
  domain_fresh c down = fresh (domain_off plan h c) (domain_off plan (line ∷ h) c) (go (domain plan c) refl)
    where
      go : (o : Option DomId) → domain plan c ≡ o → is_some (domain_off plan h c) ≡ false
      go None is = ap (λ x. is_some (option_map (λ o. bond.Domain c o) (option_and_then (λ o. only_if (domain_test plan v c) o) x))) is
      go (Some o) is = some_domain plan h c o is ∙ first_false (is_active v c) _ down

  pub domain_none : (c : DevId) → is_active v' c ≡ false → option_to_list (domain_off plan (line ∷ h) c) ≡ []
  domain_none c down = nothing (domain_off plan (line ∷ h) c) (go (domain plan c) refl)
    where
      go : (o : Option DomId) → domain plan c ≡ o → is_some (domain_off plan (line ∷ h) c) ≡ false
      go None is = ap (λ x. is_some (option_map (λ o. bond.Domain c o) (option_and_then (λ o. only_if (domain_test plan v' c) o) x))) is
      go (Some o) is = some_domain plan (line ∷ h) c o is ∙ first_false (is_active v' c) _ down

  -- parents, of a device that has one
  pub parent_same : (c p : DevId) → parent plan c ≡ Some p → (parent_test v' c p ≡ true → parent_test v c p ≡ true) → newly (parent_off plan h c) (parent_off plan (line ∷ h) c) ≡ []
  parent_same c p is only = kept (parent_off plan h c) (parent_off plan (line ∷ h) c) (λ some. some_parent plan h c p is ∙ only (sym (some_parent plan (line ∷ h) c p is) ∙ some))

  pub parent_fresh : (c p : DevId) → parent plan c ≡ Some p → parent_test v c p ≡ false → newly (parent_off plan h c) (parent_off plan (line ∷ h) c) ≡ option_to_list (parent_off plan (line ∷ h) c)
  parent_fresh c p is not_before = fresh (parent_off plan h c) (parent_off plan (line ∷ h) c) (some_parent plan h c p is ∙ not_before)

  pub parent_gone : (c p : DevId) → parent plan c ≡ Some p → parent_test v' c p ≡ false → newly (parent_off plan h c) (parent_off plan (line ∷ h) c) ≡ []
  parent_gone c p is not_after = parent_same c p is (λ now. differ now not_after)

  pub orphan : (c : DevId) → parent plan c ≡ None → newly (parent_off plan h c) (parent_off plan (line ∷ h) c) ≡ []
  orphan c is = kept (parent_off plan h c) (parent_off plan (line ∷ h) c)
      (λ some. differ some (ap (λ x. is_some (option_map (λ p. bond.Parent c p (parent_excuse plan (line ∷ h) c p)) (option_and_then (λ p. only_if (parent_test v' c p) p) x))) is))

  pub orphan_off : (c : DevId) → parent plan c ≡ None → option_to_list (parent_off plan (line ∷ h) c) ≡ []
  orphan_off c is = nothing (parent_off plan (line ∷ h) c) (ap (λ x. is_some (option_map (λ p. bond.Parent c p (parent_excuse plan (line ∷ h) c p)) (option_and_then (λ p. only_if (parent_test v' c p) p) x))) is)

  -- links
  pub link_same : (l : ℕ) (row : LinkRow) → slice_get plan.links l ≡ Some row → (link_test v' l row ≡ true → link_test v l row ≡ true) → newly (supplier_off plan h l) (supplier_off plan (line ∷ h) l) ≡ []
  link_same l row is only = kept (supplier_off plan h l) (supplier_off plan (line ∷ h) l) (λ some. some_link plan h l row is ∙ only (sym (some_link plan (line ∷ h) l row is) ∙ some))

  pub link_fresh : (l : ℕ) (row : LinkRow) → slice_get plan.links l ≡ Some row → link_test v l row ≡ false → newly (supplier_off plan h l) (supplier_off plan (line ∷ h) l) ≡ option_to_list (supplier_off plan (line ∷ h) l)
  link_fresh l row is not_before = fresh (supplier_off plan h l) (supplier_off plan (line ∷ h) l) (some_link plan h l row is ∙ not_before)

  pub link_gone : (l : ℕ) (row : LinkRow) → slice_get plan.links l ≡ Some row → link_test v' l row ≡ false → newly (supplier_off plan h l) (supplier_off plan (line ∷ h) l) ≡ []
  link_gone l row is not_after = link_same l row is (λ now. differ now not_after)

  pub no_link : (l : ℕ) → slice_get plan.links l ≡ None → newly (supplier_off plan h l) (supplier_off plan (line ∷ h) l) ≡ []
  no_link l is = kept (supplier_off plan h l) (supplier_off plan (line ∷ h) l)
      (λ some. differ some (ap (λ x. is_some (option_map (λ row. bond.Supplier row.consumer row.supplier (supplier_excuse plan (line ∷ h) row.consumer row.supplier)) (option_and_then (λ row. only_if (link_test v' l row) row) x))) is))

  -- a link whose consumer was Active, or is as it was, and whose supplier is as it was
  pub link_stays : (l : ℕ) (row : LinkRow) → slice_get plan.links l ≡ Some row → (row.consumer.0 < length plan.devices → row.supplier.0 < row.consumer.0 → is_active v' row.consumer ≡ true → is_active v row.consumer ≡ true)
      → (row.consumer.0 < length plan.devices → row.supplier.0 < row.consumer.0 → is_active v row.supplier ≡ true → is_active v' row.supplier ≡ true) → newly (supplier_off plan h l) (supplier_off plan (line ∷ h) l) ≡ []
  link_stays l row is up down = link_same l row is only
    where
      only : link_test v' l row ≡ true → link_test v l row ≡ true
      only now =
          let a = both (row.pm_runtime && is_present v' l && is_active v' row.consumer) (not (is_active v' row.supplier)) now in
          let b = both (row.pm_runtime && is_present v' l) (is_active v' row.consumer) a.0 in
          let c = both row.pm_runtime (is_present v' l) b.0 in
          let link : IsLink plan l row.consumer row.supplier = record { row = row; is = is; consumer = refl; supplier = refl; runtime = c.0 } in
          let e : HasEarlier plan row.consumer row.supplier = supplier_earlier plan l row.consumer row.supplier link in
          let present : is_present v l ≡ true = present_frame plan h line l row lawful is e.within c.1 b.1 in
          both_true (row.pm_runtime && is_present v l && is_active v row.consumer) (not (is_active v row.supplier))
          (both_true (row.pm_runtime && is_present v l) (is_active v row.consumer) (both_true row.pm_runtime (is_present v l) c.0 present) (up e.within e.earlier b.1))
          (not_false _ (back (is_active v row.supplier) (is_active v' row.supplier) (down e.within e.earlier) (flipped _ a.1)))
