-- All bonds that a line breaks, by the device that it turns.
use Rattle.std.proofs.Common.{ℕ, ◌≡◌, ◌<◌, Bool, true, false, not, ◌&&◌, ◌++◌, List, [], ◌∷◌, Option, Some, None, length, nat_eq, slice_get, if◌then◌else◌, ap, refl, sym, ◌∙◌, arith, subst}
use Rattle.std.specs.List.{flat_map, range_with_len}
use Rattle.std.specs.Option.{option_map_or, option_to_list}
use Rattle.std.proofs.lemmas.Bool.{eqb-true}
use Rattle.std.proofs.lemmas.List.{append-nil}
use Rattle.pm_base.specs.declared.DevId.{DevId}
use Rattle.pm_model.specs.declared.event.Line.{Line}
use Rattle.pm_model.specs.declared.plan.Plan.{Plan}
use Rattle.pm_model.specs.declared.rows.LinkRow.{LinkRow}
use Rattle.pm_model.specs.Counted.{is_same}
use Rattle.pm_model.specs.Derived.{is_active}
use Rattle.pm_model.specs.History.{History}
use Rattle.pm_model.specs.Lawful.{IsLawful}
use Rattle.pm_model.specs.PlanRows.{parent}
use Rattle.pm_model.specs.Views.{Views, device, is_present}
use Rattle.pm_model.specs.World.{world}
use Rattle.pm_laws.proofs.counts.Links.{both, eq_sym}
use Rattle.pm_laws.proofs.safe.Steps.{differ}
use Rattle.pm_laws.proofs.stacks.Tests.{same_device}
use Rattle.pm_safety.specs.declared.dependencies.bond.Bond.{Bond}
use Rattle.pm_safety.specs.dependencies.Broken.{broken_at, domain_off, newly, parent_off, supplier_off}
use Rattle.pm_safety.specs.dependencies.Looked.{broken_by, children_of, is_child, is_from, is_to, links_from, links_to, parents_off, suppliers_off}
use Rattle.pm_safety.specs.dependencies.Turning.{IsApart, turned_by}
use Rattle.pm_safety.proofs.dependencies.Breaking.{at, both_true, domain_fresh, domain_kept, domain_none, first_false, last_false, link_fresh, link_gone, link_stays, minds, no_link, not_false, not_true, orphan, orphan_off, parent_fresh, parent_gone, parent_less, parent_same, parent_test, stays}
use Rattle.pm_safety.proofs.dependencies.PickLemmas.{none_below, one_below, past, picked_below}

-- a test of a parent that all three parts of have kept
same_test : (a b i a' b' i' : Bool) → a' ≡ a → b' ≡ b → i' ≡ i → (a' && not b' && not i') ≡ (a && not b && not i)
same_test a b i a' b' i' p q r = rw (p, q, r) refl

active_of : (a b i : Bool) → (a && not b && not i) ≡ true → a ≡ true
active_of true b i e = refl
active_of false b i e = cc

with_active : (a b i : Bool) → a ≡ true → b ≡ false → i ≡ false → (a && not b && not i) ≡ true
with_active true false false p q r = refl
with_active _ _ _ p q r = cc

up_parent : (a b i : Bool) → b ≡ true → (a && not b && not i) ≡ false
up_parent true true i e = refl
up_parent false b i e = refl
up_parent true false i e = cc

minding : (a b i : Bool) → i ≡ true → (a && not b && not i) ≡ false
minding true true i e = refl
minding true false true e = refl
minding false b i e = refl
minding true false false e = cc

-- the parent of a child, and the ends of a link
child_is : (plan : Plan) (d : DevId) (c : ℕ) → is_child plan d c ≡ true → parent plan (at c) ≡ Some d
child_is plan d c is = go (parent plan (at c)) is
  where
    go : (o : Option DevId) → option_map_or (λ q. is_same d q) o false ≡ true → o ≡ Some d
    go None e = cc
    go (Some q) e = ap (λ x. Some x) (same_device q d e)

not_child : (plan : Plan) (d p : DevId) (c : ℕ) → parent plan (at c) ≡ Some p → is_child plan d c ≡ false → is_same d p ≡ false
not_child plan d p c is none = ap (λ o. option_map_or (λ q. is_same d q) o false) (sym is) ∙ none

-- what is off behind a line, and what it broke, of a device's parent and of a link
abbrev parent_news : Plan → History → Line → ℕ → List Bond
parent_news plan h line c = newly (parent_off plan h (at c)) (parent_off plan (line ∷ h) (at c))

abbrev parent_told : Plan → History → Line → ℕ → List Bond
parent_told plan h line c = option_to_list (parent_off plan (line ∷ h) (at c))

abbrev link_news : Plan → History → Line → ℕ → List Bond
link_news plan h line l = newly (supplier_off plan h l) (supplier_off plan (line ∷ h) l)

abbrev link_told : Plan → History → Line → ℕ → List Bond
link_told plan h line l = option_to_list (supplier_off plan (line ∷ h) l)

-- three parts of a list
three : (x y z x' y' z' : List Bond) → x ≡ x' → y ≡ y' → z ≡ z' → x ++ y ++ z ≡ x' ++ y' ++ z'
three x y z x' y' z' p q r = rw (p, q, r) refl

module _ (plan : Plan) (h : History) (line : Line) (lawful : IsLawful plan (line ∷ h)) (d : DevId) (turned : turned_by line.event ≡ Some d) (inside : d.0 < length plan.devices) where
  abbrev v : Views
  v = (world plan h).views

  abbrev v' : Views
  v' = (world plan (line ∷ h)).views

  apart : (x : DevId) → is_same d x ≡ false → IsApart x (turned_by line.event)
  apart x other = subst (IsApart x) (sym turned) (not_false _ (eq_sym d.0 x.0 ∙ other))

  below : (x : DevId) → x.0 < d.0 → IsApart x (turned_by line.event)
  below x lt = apart x (eq_sym x.0 d.0 ∙ past d.0 x.0 lt)

  above : (x : DevId) → d.0 < x.0 → IsApart x (turned_by line.event)
  above x lt = apart x (past x.0 d.0 lt)

  -- parents
  other_parent : (c : ℕ) → c < length plan.devices → nat_eq c d.0 ≡ false → is_child plan d c ≡ false → parent_news plan h line c ≡ []
  other_parent c within other none = go (parent plan (at c)) refl
    where
      go : (o : Option DevId) → parent plan (at c) ≡ o → parent_news plan h line c ≡ []
      go None is = orphan plan h line lawful (at c) is
      go (Some p) is =
          let less = parent_less plan (at c) p is in
          let not_d = not_child plan d p c is none in
          parent_same plan h line lawful (at c) p is
          (λ now. sym (same_test _ _ _ _ _ _ (stays plan h line lawful (at c) within (apart (at c) other)) (stays plan h line lawful p (omega (arith, less, within)) (apart p not_d)) (minds plan h line lawful p (apart p not_d))) ∙ now)

  own_was : is_active v d ≡ true → parent_news plan h line d.0 ≡ []
  own_was up = go (parent plan d) refl
    where
      go : (o : Option DevId) → parent plan d ≡ o → parent_news plan h line d.0 ≡ []
      go None is = orphan plan h line lawful d is
      go (Some p) is =
          let less = parent_less plan d p is in
          parent_same plan h line lawful d p is (only p less)
        where
          only : (p : DevId) → p.0 < d.0 → parent_test v' d p ≡ true → parent_test v d p ≡ true
          only p less now =
              let a = both (is_active v' d && not (is_active v' p)) (not (device v' p).ignores) now in
              let b = both (is_active v' d) (not (is_active v' p)) a.0 in
              both_true (is_active v d && not (is_active v p)) (not (device v p).ignores)
              (both_true (is_active v d) (not (is_active v p)) up (ap not (sym (stays plan h line lawful p (omega (arith, less, inside)) (below p less))) ∙ b.1))
              (ap not (sym (minds plan h line lawful p (below p less))) ∙ a.1)

  own_new : is_active v d ≡ false → parent_news plan h line d.0 ≡ parent_told plan h line d.0
  own_new down = go (parent plan d) refl
    where
      go : (o : Option DevId) → parent plan d ≡ o → parent_news plan h line d.0 ≡ parent_told plan h line d.0
      go None is = orphan plan h line lawful d is ∙ sym (orphan_off plan h line lawful d is)
      go (Some p) is = parent_fresh plan h line lawful d p is (first_false _ _ (first_false _ _ down))

  own_gone : is_active v' d ≡ false → parent_news plan h line d.0 ≡ []
  own_gone down = go (parent plan d) refl
    where
      go : (o : Option DevId) → parent plan d ≡ o → parent_news plan h line d.0 ≡ []
      go None is = orphan plan h line lawful d is
      go (Some p) is = parent_gone plan h line lawful d p is (first_false _ _ (first_false _ _ down))

  child_gone : (c : ℕ) → is_child plan d c ≡ true → is_active v' d ≡ true → parent_news plan h line c ≡ []
  child_gone c is up = parent_gone plan h line lawful (at c) d (child_is plan d c is) (up_parent (is_active v' (at c)) (is_active v' d) (device v' d).ignores up)

  child_ignored : (c : ℕ) → is_child plan d c ≡ true → (device v' d).ignores ≡ true → parent_news plan h line c ≡ []
  child_ignored c is ign = parent_gone plan h line lawful (at c) d (child_is plan d c is) (minding (is_active v' (at c)) (is_active v' d) (device v' d).ignores ign)

  child_new : (c : ℕ) → is_child plan d c ≡ true → is_active v d ≡ true → parent_news plan h line c ≡ parent_told plan h line c
  child_new c is up = parent_fresh plan h line lawful (at c) d (child_is plan d c is) (up_parent (is_active v (at c)) (is_active v d) (device v d).ignores up)

  child_minded : (c : ℕ) → is_child plan d c ≡ true → (device v d).ignores ≡ true → parent_news plan h line c ≡ parent_told plan h line c
  child_minded c is ign = parent_fresh plan h line lawful (at c) d (child_is plan d c is) (minding (is_active v (at c)) (is_active v d) (device v d).ignores ign)

  child_calm : (c : ℕ) → c < length plan.devices → is_child plan d c ≡ true → is_active v d ≡ false → (device v d).ignores ≡ false → parent_news plan h line c ≡ []
  child_calm c within is down mind =
      let has = child_is plan d c is in
      let less = parent_less plan (at c) d has in
      parent_same plan h line lawful (at c) d has
      (λ now. with_active (is_active v (at c)) (is_active v d) (device v d).ignores (sym (stays plan h line lawful (at c) within (above (at c) less)) ∙ active_of _ _ _ now) down mind)

  -- links
  from_is : (l : ℕ) (row : LinkRow) → slice_get plan.links l ≡ Some row → is_from plan d l ≡ is_same d row.consumer
  from_is l row is = ap (λ o. option_map_or (λ (row : LinkRow). is_same d row.consumer) o false) is

  to_is : (l : ℕ) (row : LinkRow) → slice_get plan.links l ≡ Some row → is_to plan d l ≡ is_same d row.supplier
  to_is l row is = ap (λ o. option_map_or (λ (row : LinkRow). is_same d row.supplier) o false) is

  other_link : (l : ℕ) → is_from plan d l ≡ false → is_to plan d l ≡ false → link_news plan h line l ≡ []
  other_link l from to = go (slice_get plan.links l) refl
    where
      go : (o : Option LinkRow) → slice_get plan.links l ≡ o → link_news plan h line l ≡ []
      go None is = no_link plan h line lawful l is
      go (Some row) is =
          link_stays plan h line lawful l row is (λ within less now. sym (stays plan h line lawful row.consumer within (apart row.consumer (sym (from_is l row is) ∙ from))) ∙ now)
          (λ within less was. stays plan h line lawful row.supplier (omega (arith, within, less)) (apart row.supplier (sym (to_is l row is) ∙ to)) ∙ was)

  -- one of d, and one to d
  from_at : (Goal : ℕ → Type 0) (l : ℕ) → is_from plan d l ≡ true → ((row : LinkRow) → slice_get plan.links l ≡ Some row → row.consumer ≡ d → Goal l) → Goal l
  from_at Goal l from f = go (slice_get plan.links l) refl
    where
      go : (o : Option LinkRow) → slice_get plan.links l ≡ o → Goal l
      go None is = differ from (ap (λ o. option_map_or (λ (row : LinkRow). is_same d row.consumer) o false) is)
      go (Some row) is = f row is (same_device row.consumer d (sym (from_is l row is) ∙ from))

  to_at : (Goal : ℕ → Type 0) (l : ℕ) → is_to plan d l ≡ true → ((row : LinkRow) → slice_get plan.links l ≡ Some row → row.supplier ≡ d → Goal l) → Goal l
  to_at Goal l to f = go (slice_get plan.links l) refl
    where
      go : (o : Option LinkRow) → slice_get plan.links l ≡ o → Goal l
      go None is = differ to (ap (λ o. option_map_or (λ (row : LinkRow). is_same d row.supplier) o false) is)
      go (Some row) is = f row is (same_device row.supplier d (sym (to_is l row is) ∙ to))

  from_was : (l : ℕ) → is_from plan d l ≡ true → is_active v d ≡ true → link_news plan h line l ≡ []
  from_was l from up = from_at (λ l. link_news plan h line l ≡ []) l from
      (λ row is end. link_stays plan h line lawful l row is (λ within less now. ap (is_active v) end ∙ up)
      (λ within less was. stays plan h line lawful row.supplier (omega (arith, within, less)) (below row.supplier (subst (λ (x : DevId). row.supplier.0 < x.0) end less)) ∙ was))

  from_new : (l : ℕ) → is_from plan d l ≡ true → is_active v d ≡ false → link_news plan h line l ≡ link_told plan h line l
  from_new l from down = from_at (λ l. link_news plan h line l ≡ link_told plan h line l) l from
      (λ row is end. link_fresh plan h line lawful l row is (first_false _ _ (last_false (row.pm_runtime && is_present v l) _ (ap (is_active v) end ∙ down))))

  from_gone : (l : ℕ) → is_from plan d l ≡ true → is_active v' d ≡ false → link_news plan h line l ≡ []
  from_gone l from down = from_at (λ l. link_news plan h line l ≡ []) l from
      (λ row is end. link_gone plan h line lawful l row is (first_false _ _ (last_false (row.pm_runtime && is_present v' l) _ (ap (is_active v') end ∙ down))))

  to_gone : (l : ℕ) → is_to plan d l ≡ true → is_active v' d ≡ true → link_news plan h line l ≡ []
  to_gone l to up = to_at (λ l. link_news plan h line l ≡ []) l to
      (λ row is end. link_gone plan h line lawful l row is (last_false (row.pm_runtime && is_present v' l && is_active v' row.consumer) _ (not_true _ (ap (is_active v') end ∙ up))))

  to_new : (l : ℕ) → is_to plan d l ≡ true → is_active v d ≡ true → link_news plan h line l ≡ link_told plan h line l
  to_new l to up = to_at (λ l. link_news plan h line l ≡ link_told plan h line l) l to
      (λ row is end. link_fresh plan h line lawful l row is (last_false (row.pm_runtime && is_present v l && is_active v row.consumer) _ (not_true _ (ap (is_active v) end ∙ up))))

  to_calm : (l : ℕ) → is_to plan d l ≡ true → is_active v d ≡ false → link_news plan h line l ≡ []
  to_calm l to down = to_at (λ l. link_news plan h line l ≡ []) l to
      (λ row is end. link_stays plan h line lawful l row is
      (λ within less now. sym (stays plan h line lawful row.consumer within (above row.consumer (subst (λ (x : DevId). x.0 < row.consumer.0) end less))) ∙ now)
      (λ within less was. differ was (ap (is_active v) end ∙ down)))

  -- domains
  other_domain : (c : ℕ) → c < length plan.devices → nat_eq c d.0 ≡ false → newly (domain_off plan h (at c)) (domain_off plan (line ∷ h) (at c)) ≡ []
  other_domain c within other = go (is_active v (at c)) refl
    where
      same : is_active v' (at c) ≡ is_active v (at c)
      same = stays plan h line lawful (at c) within (apart (at c) other)

      go : (b : Bool) → is_active v (at c) ≡ b → newly (domain_off plan h (at c)) (domain_off plan (line ∷ h) (at c)) ≡ []
      go true up = domain_kept plan h line lawful (at c) within up
      go false down = domain_fresh plan h line lawful (at c) down ∙ domain_none plan h line lawful (at c) (same ∙ down)

  own_domain : newly (domain_off plan h d) (domain_off plan (line ∷ h) d) ≡ (if is_active v d then [] else option_to_list (domain_off plan (line ∷ h) d))
  own_domain = go (is_active v d) refl
    where
      go : (b : Bool) → is_active v d ≡ b → newly (domain_off plan h d) (domain_off plan (line ∷ h) d) ≡ (if b then [] else option_to_list (domain_off plan (line ∷ h) d))
      go true up = domain_kept plan h line lawful d inside up
      go false down = domain_fresh plan h line lawful d down

  domains : flat_map (λ c. newly (domain_off plan h (at c)) (domain_off plan (line ∷ h) (at c))) (range_with_len 0 (length plan.devices))
      ≡ (if is_active v d then [] else option_to_list (domain_off plan (line ∷ h) d))
  domains =
      one_below (λ c. newly (domain_off plan h (at c)) (domain_off plan (line ∷ h) (at c))) d.0 (length plan.devices) inside other_domain ∙ own_domain

  -- all places by one of two tests
  each : (Goal : Type 0) (b : Bool) → (b ≡ true → Goal) → (b ≡ false → Goal) → Goal
  each Goal true f g = f refl
  each Goal false f g = g refl

  -- a device that is Active after the line, and was before, breaks none
  parents_none : ((c : ℕ) → c < length plan.devices → is_child plan d c ≡ true → parent_news plan h line c ≡ []) → parent_news plan h line d.0 ≡ []
      → flat_map (parent_news plan h line) (range_with_len 0 (length plan.devices)) ≡ []
  parents_none child own = none_below (parent_news plan h line) (length plan.devices)
      (λ c within. each (parent_news plan h line c ≡ []) (nat_eq c d.0) (λ same. subst (λ n. parent_news plan h line n ≡ []) (sym (eqb-true c d.0 same)) own)
      (λ other. each (parent_news plan h line c ≡ []) (is_child plan d c) (child c within) (other_parent c within other)))

  parents_own : ((c : ℕ) → c < length plan.devices → is_child plan d c ≡ true → parent_news plan h line c ≡ [])
      → flat_map (parent_news plan h line) (range_with_len 0 (length plan.devices)) ≡ parent_news plan h line d.0
  parents_own child = one_below (parent_news plan h line) d.0 (length plan.devices) inside
      (λ c within other. each (parent_news plan h line c ≡ []) (is_child plan d c) (child c within) (other_parent c within other))

  parents_children : parent_news plan h line d.0 ≡ [] → ((c : ℕ) → is_child plan d c ≡ true → parent_news plan h line c ≡ parent_told plan h line c)
      → flat_map (parent_news plan h line) (range_with_len 0 (length plan.devices)) ≡ parents_off plan (line ∷ h) (children_of plan d)
  parents_children own child = picked_below (parent_news plan h line) (parent_told plan h line) (is_child plan d) (length plan.devices) (λ c within. child c)
      (λ c within none. each (parent_news plan h line c ≡ []) (nat_eq c d.0) (λ same. subst (λ n. parent_news plan h line n ≡ []) (sym (eqb-true c d.0 same)) own)
      (λ other. other_parent c within other none))

  links_none : ((l : ℕ) → is_from plan d l ≡ true → link_news plan h line l ≡ []) → ((l : ℕ) → is_to plan d l ≡ true → link_news plan h line l ≡ [])
      → flat_map (link_news plan h line) (range_with_len 0 (length plan.links)) ≡ []
  links_none from to = none_below (link_news plan h line) (length plan.links)
      (λ l within. each (link_news plan h line l ≡ []) (is_from plan d l) (from l) (λ f. each (link_news plan h line l ≡ []) (is_to plan d l) (to l) (other_link l f)))

  links_own : ((l : ℕ) → is_from plan d l ≡ true → link_news plan h line l ≡ link_told plan h line l) → ((l : ℕ) → is_to plan d l ≡ true → link_news plan h line l ≡ [])
      → flat_map (link_news plan h line) (range_with_len 0 (length plan.links)) ≡ suppliers_off plan (line ∷ h) (links_from plan d)
  links_own from to = picked_below (link_news plan h line) (link_told plan h line) (is_from plan d) (length plan.links) (λ l within. from l)
      (λ l within f. each (link_news plan h line l ≡ []) (is_to plan d l) (to l) (other_link l f))

  links_over : ((l : ℕ) → is_from plan d l ≡ true → link_news plan h line l ≡ []) → ((l : ℕ) → is_to plan d l ≡ true → link_news plan h line l ≡ link_told plan h line l)
      → flat_map (link_news plan h line) (range_with_len 0 (length plan.links)) ≡ suppliers_off plan (line ∷ h) (links_to plan d)
  links_over from to = picked_below (link_news plan h line) (link_told plan h line) (is_to plan d) (length plan.links) (λ l within. to l)
      (λ l within t. each (link_news plan h line l ≡ []) (is_from plan d l) (from l) (λ f. other_link l f t))

  pub broken_is : broken_at plan h line ≡ broken_by plan (line ∷ h) d (is_active v d) (device v d).ignores (is_active v' d) (device v' d).ignores
  broken_is = go (is_active v' d) (is_active v d) (device v d).ignores (device v' d).ignores refl refl refl refl
    where
      told : Bool → List Bond
      told b = if b then [] else option_to_list (domain_off plan (line ∷ h) d)

      now : (b : Bool) → is_active v d ≡ b → flat_map (λ c. newly (domain_off plan h (at c)) (domain_off plan (line ∷ h) (at c))) (range_with_len 0 (length plan.devices)) ≡ told b
      now b is = domains ∙ ap told is

      go : (active was ignored ignores : Bool) → is_active v' d ≡ active → is_active v d ≡ was → (device v d).ignores ≡ ignored → (device v' d).ignores ≡ ignores
          → broken_at plan h line ≡ broken_by plan (line ∷ h) d was ignored active ignores
      go true true ignored ignores p q r s =
          three _ _ _ [] [] [] (now true q) (parents_none (λ c within is. child_gone c is p) (own_was q)) (links_none (λ l f. from_was l f q) (λ l t. to_gone l t p))
      go true false ignored ignores p q r s =
          three _ _ _ _ _ _ (now false q) (parents_own (λ c within is. child_gone c is p) ∙ own_new q) (links_own (λ l f. from_new l f q) (λ l t. to_gone l t p))
      go false true ignored ignores p q r s =
          three _ _ _ [] _ _ (now true q) (parents_children (own_was q) (λ c is. child_new c is q)) (links_over (λ l f. from_gone l f p) (λ l t. to_new l t q))
      go false false true true p q r s =
          three _ _ _ [] [] [] (now false q ∙ domain_none plan h line lawful d p) (parents_none (λ c within is. child_ignored c is s) (own_gone p)) (links_none (λ l f. from_gone l f p) (λ l t. to_calm l t q))
      go false false true false p q r s =
          three _ _ _ [] _ [] (now false q ∙ domain_none plan h line lawful d p) (parents_children (own_gone p) (λ c is. child_minded c is r)) (links_none (λ l f. from_gone l f p) (λ l t. to_calm l t q))
          ∙ append-nil (parents_off plan (line ∷ h) (children_of plan d))
      go false false false ignores p q r s =
          three _ _ _ [] [] [] (now false q ∙ domain_none plan h line lawful d p) (parents_none (λ c within is. child_calm c within is q r) (own_gone p)) (links_none (λ l f. from_gone l f p) (λ l t. to_calm l t q))

-- a line that turns no device breaks nothing
module _ (plan : Plan) (h : History) (line : Line) (lawful : IsLawful plan (line ∷ h)) (turned : turned_by line.event ≡ None) where
  anywhere : (x : DevId) → IsApart x (turned_by line.event)
  anywhere x = subst (IsApart x) (sym turned) refl

  no_domain : (c : ℕ) → c < length plan.devices → newly (domain_off plan h (at c)) (domain_off plan (line ∷ h) (at c)) ≡ []
  no_domain c within = go (is_active (world plan h).views (at c)) refl
    where
      go : (b : Bool) → is_active (world plan h).views (at c) ≡ b → newly (domain_off plan h (at c)) (domain_off plan (line ∷ h) (at c)) ≡ []
      go true up = domain_kept plan h line lawful (at c) within up
      go false down = domain_fresh plan h line lawful (at c) down ∙ domain_none plan h line lawful (at c) (stays plan h line lawful (at c) within (anywhere (at c)) ∙ down)

  no_parent : (c : ℕ) → c < length plan.devices → parent_news plan h line c ≡ []
  no_parent c within = go (parent plan (at c)) refl
    where
      go : (o : Option DevId) → parent plan (at c) ≡ o → parent_news plan h line c ≡ []
      go None is = orphan plan h line lawful (at c) is
      go (Some p) is =
          let less = parent_less plan (at c) p is in
          parent_same plan h line lawful (at c) p is
          (λ now. sym (same_test _ _ _ _ _ _ (stays plan h line lawful (at c) within (anywhere (at c))) (stays plan h line lawful p (omega (arith, less, within)) (anywhere p)) (minds plan h line lawful p (anywhere p))) ∙ now)

  none_of_link : (l : ℕ) → link_news plan h line l ≡ []
  none_of_link l = go (slice_get plan.links l) refl
    where
      go : (o : Option LinkRow) → slice_get plan.links l ≡ o → link_news plan h line l ≡ []
      go None is = no_link plan h line lawful l is
      go (Some row) is =
          link_stays plan h line lawful l row is (λ within less now. sym (stays plan h line lawful row.consumer within (anywhere row.consumer)) ∙ now)
          (λ within less was. stays plan h line lawful row.supplier (omega (arith, within, less)) (anywhere row.supplier) ∙ was)

  pub none_broken : broken_at plan h line ≡ []
  none_broken =
      three _ _ _ [] [] [] (none_below (λ c. newly (domain_off plan h (at c)) (domain_off plan (line ∷ h) (at c))) (length plan.devices) no_domain)
      (none_below (parent_news plan h line) (length plan.devices) no_parent) (none_below (link_news plan h line) (length plan.links) (λ l within. none_of_link l))
