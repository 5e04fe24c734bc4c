-- What is answered of a device, from what is looked at.
use Rattle.std.proofs.Common.{ℕ, suc, ◌≡◌, Bool, true, false, not, ◌&&◌, cond, List, [], ◌∷◌, length, map, nat_eq, if◌then◌else◌, ap, refl, sym, ◌∙◌, arith}
use Rattle.std.specs.Prelude.{◌||◌}
use Rattle.std.specs.List.{enumerate_from, filter, list_all, list_any}
use Rattle.std.proofs.lemmas.Grind.{common_steps}
use Rattle.pm_base.specs.declared.DevId.{DevId}
use Rattle.pm_model.specs.declared.plan.Plan.{Plan}
use Rattle.pm_model.specs.declared.rows.LinkRow.{LinkRow}
use Rattle.pm_model.specs.Derived.{is_active, up}
use Rattle.pm_model.specs.Excuse.{is_excused_from_domain, is_excused_from_supplier}
use Rattle.pm_model.specs.History.{History}
use Rattle.pm_model.specs.PlanRows.{domains_of, has_domain}
use Rattle.pm_model.specs.Promises.{BondState, all_hold, domain_bonds, implies, supplier_bonds}
use Rattle.pm_model.specs.Views.{Views, is_on}
use Rattle.pm_model.specs.World.{world}
use Rattle.pm_safety.specs.Inspected.{answer, bond_of, has_active, has_some, is_bond}

-- where there is at most one bond
one_bond : (live some hold : Bool) (b : BondState) → b.holds ≡ hold → answer live some hold ≡ bond_of live (if some then b ∷ [] else [])
one_bond false some hold b e = refl
one_bond true false hold b e = refl
one_bond true true true b e = rw e refl
one_bond true true false b e = rw e refl

-- none is off: they are all on
some_off : (n : ℕ) → nat_eq (suc n) 0 ≡ false
some_off n = grind (arith, common_steps)

all_on : (on : ℕ → Bool) (l : List ℕ) → nat_eq (length (filter (λ o. not (on o)) l)) 0 ≡ list_all on l
all_on on [] = refl
all_on on (o ∷ l) = go (on o) (all_on on l)
  where
    off : List ℕ
    off = filter (λ o. not (on o)) l

    go : (b : Bool) → nat_eq (length off) 0 ≡ list_all on l → nat_eq (length (cond (not b) (o ∷ off) off)) 0 ≡ b && list_all on l
    go true below = below
    go false below = some_off (length off)

pub domains_are : (plan : Plan) (h : History) (d : DevId) (live : Bool)
    → answer live (has_domain plan d) (nat_eq (length (up plan (world plan h).views d)) 0) ≡ bond_of live (domain_bonds plan h d)
unfolding up
domains_are plan h d live =
    let v : Views = (world plan h).views in
    let b : BondState = record { holds = list_all (is_on v) (domains_of plan d); is_excused = is_excused_from_domain plan h d } in
    one_bond live (has_domain plan d) (nat_eq (length (up plan v d)) 0) b (sym (all_on (is_on v) (domains_of plan d)))

-- where the bonds are of those that a test keeps
some_kept : {A : Type 0} (test : A → Bool) (state : A → BondState) (l : List A) → list_any test l ≡ has_some (map state (filter test l))
some_kept test state [] = refl
some_kept test state (x ∷ l) = go (test x) (some_kept test state l)
  where
    go : (b : Bool) → list_any test l ≡ has_some (map state (filter test l))
        → b || list_any test l ≡ has_some (map state (cond b (x ∷ filter test l) (filter test l)))
    go true below = refl
    go false below = below

all_kept : {A : Type 0} (test active : A → Bool) (state : A → BondState) → ((x : A) → (state x).holds ≡ active x)
    → (l : List A) → list_all (λ x. implies (test x) (active x)) l ≡ all_hold (map state (filter test l))
all_kept test active state is [] = refl
all_kept test active state is (x ∷ l) = go (test x) (all_kept test active state is l)
  where
    go : (b : Bool) → list_all (λ x. implies (test x) (active x)) l ≡ all_hold (map state (filter test l))
        → implies b (active x) && list_all (λ x. implies (test x) (active x)) l ≡ all_hold (map state (cond b (x ∷ filter test l) (filter test l)))
    go true below = rw (is x, below) refl
    go false below = below

pub suppliers_are : (plan : Plan) (h : History) (d : DevId) (live : Bool)
    → answer live (list_any (is_bond (world plan h).views d) (enumerate_from 0 plan.links)) (list_all (has_active (world plan h).views d) (enumerate_from 0 plan.links))
    ≡ bond_of live (supplier_bonds plan h d)
suppliers_are plan h d live =
    ap (λ some. answer live some (list_all (has_active v d) l)) (some_kept (is_bond v d) state l)
    ∙ ap (λ hold. answer live (has_some (map state (filter (is_bond v d) l))) hold) (all_kept (is_bond v d) (λ p. is_active v p.1.supplier) state (λ p. refl) l)
  where
    v : Views
    v = (world plan h).views

    l : List (ℕ × LinkRow)
    l = enumerate_from 0 plan.links

    state : ℕ × LinkRow → BondState
    state p = record { holds = is_active v p.1.supplier; is_excused = is_excused_from_supplier plan h d p.0 p.1.supplier }
