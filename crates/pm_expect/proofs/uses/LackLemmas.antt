-- In a lawful run an Active device lacks no parent and no supplier.
use Rattle.std.proofs.Common.{ℕ, ◌≡◌, ◌<◌, Bool, true, false, not, ◌&&◌, cond, List, [], ◌∷◌, Option, Some, None, length, map, ap, refl, sym, ◌∙◌}
use Rattle.std.specs.Prelude.{◌||◌, find, option_map}
use Rattle.std.specs.List.{enumerate_from, filter}
use Rattle.std.specs.Option.{option_and_then, option_map_or, option_or}
use Rattle.std.proofs.lemmas.Bool.{and_parts}
use Rattle.pm_base.specs.declared.DevId.{DevId}
use Rattle.pm_expect.specs.declared.verdicts.verdict.Lack.TheVariants as lack
use Rattle.pm_model.specs.declared.plan.Plan.{Plan}
use Rattle.pm_model.specs.declared.rows.LinkRow.{LinkRow}
use Rattle.pm_model.specs.Counted.{only_if}
use Rattle.pm_model.specs.Derived.{is_active, is_link_of}
use Rattle.pm_model.specs.Excuse.{is_excused_from_parent, is_excused_from_supplier, is_live}
use Rattle.pm_model.specs.History.{History}
use Rattle.pm_model.specs.PlanRows.{parent}
use Rattle.pm_model.specs.Promises.{BondState, all_hold, are_excused, domain_bonds, is_safe, parent_bonds, supplier_bonds}
use Rattle.pm_model.specs.Views.{Views, device, is_present}
use Rattle.pm_model.specs.World.{world}
use Rattle.pm_safety.specs.Inspected.{AreExcused, Means, bond_of}
use Rattle.pm_safety.specs.declared.answers.Inspect.{Inspect}
use Rattle.pm_safety.proofs.SafeLemmas.{all_excused}
use Rattle.pm_expect.specs.uses.Lacks.{lack_now, lack_of, parent_lack, supplier_lack}

-- a bond that holds needs no excuse
holding : (bonds : List BondState) → all_hold bonds ≡ true → are_excused bonds ≡ true
holding [] all = refl
holding (b ∷ bonds) all = go b.holds b.is_excused (and_parts b.holds (all_hold bonds) all).0 (holding bonds (and_parts b.holds (all_hold bonds) all).1)
  where
    go : (holds excused : Bool) → holds ≡ true → are_excused bonds ≡ true → (holds || excused) && are_excused bonds ≡ true
    go true excused is below = below
    go false excused is below = cc

-- so each bond of a live device is excused, if it doesn't hold
excused_of : (live : Bool) (bonds : List BondState) → live ≡ true → Means (bond_of live bonds) bonds → are_excused bonds ≡ true
excused_of live [] is means = refl
excused_of live (b ∷ bonds) is means = go live (all_hold (b ∷ bonds)) is refl
  where
    go : (l all : Bool) → l ≡ true → all_hold (b ∷ bonds) ≡ all → are_excused (b ∷ bonds) ≡ true
    go l true on same = holding (b ∷ bonds) same
    go l false on same = means (rw (is, same) refl)

-- of at most one bond
one_free : {P L : Type 0} (holds excused : P → Bool) (lacks : P → L) (o : Option P)
    → are_excused (option_map_or (λ p. record { holds = holds p; is_excused = excused p } ∷ []) o []) ≡ true
    → option_and_then (λ p. only_if (not (holds p) && not (excused p)) (lacks p)) o ≡ None
one_free holds excused lacks None are = refl
one_free {P} {L} holds excused lacks (Some p) are = go (holds p) (excused p) are
  where
    go : (a b : Bool) → (a || b) && true ≡ true → only_if (not a && not b) (lacks p) ≡ None
    go true b e = refl
    go false true e = refl
    go false false e = cc

-- and of the bonds that a test keeps
none_missed : {A : Type 0} (test holds excused : A → Bool) (l : List A)
    → are_excused (map (λ p. record { holds = holds p; is_excused = excused p }) (filter test l)) ≡ true
    → find (λ p. test p && not (holds p) && not (excused p)) l ≡ None
none_missed test holds excused [] are = refl
none_missed {A} test holds excused (x ∷ l) are = go (test x) are (none_missed test holds excused l)
  where
    state : A → BondState
    state p = record { holds = holds p; is_excused = excused p }

    rest : Option A
    rest = find (λ p. test p && not (holds p) && not (excused p)) l

    one : (a b : Bool) → a || b ≡ true → rest ≡ None → cond (true && not a && not b) (Some x) rest ≡ None
    one true b e below = below
    one false true e below = below
    one false false e below = cc

    go : (t : Bool) → are_excused (map state (cond t (x ∷ filter test l) (filter test l))) ≡ true → (are_excused (map state (filter test l)) ≡ true → rest ≡ None)
        → cond (t && not (holds x) && not (excused x)) (Some x) rest ≡ None
    go true e below =
        let p = and_parts (holds x || excused x) (are_excused (map state (filter test l))) e in one (holds x) (excused x) p.0 (below p.1)
    go false e below = below e

or_none : {A : Type 0} (o : Option A) → option_or o None ≡ o
or_none None = refl
or_none (Some x) = refl

-- so only to be Active and the domains decide
pub nothing_lacks : (plan : Plan) (h : History) (d : DevId) → is_safe plan h ≡ true → d.0 < length plan.devices → lack_of plan h d ≡ lack_now plan (world plan h).views d
nothing_lacks plan h d safe within = go (is_active v d) refl
  where
    v : Views
    v = (world plan h).views

    live : Bool
    live = is_live plan h d

    answered : Inspect
    answered = record { live = live; domains = bond_of live (domain_bonds plan h d); parent = bond_of live (parent_bonds plan h d); suppliers = bond_of live (supplier_bonds plan h d) }

    excused : AreExcused plan h d answered
    excused = all_excused plan h d answered safe within refl refl refl

    lives : is_active v d ≡ true → live ≡ true
    lives active = rw active refl

    no_parent : is_active v d ≡ true → parent_lack plan h d ≡ None
    no_parent active =
        one_free (λ p. is_active v p) (λ p. is_excused_from_parent plan h d p) (λ p. lack.Parent p) (parent plan d)
        (excused_of live (parent_bonds plan h d) (lives active) excused.parent)

    no_supplier : is_active v d ≡ true → supplier_lack plan h d ≡ None
    no_supplier active =
        ap (option_map (λ (p : ℕ × LinkRow). lack.Supplier p.1.supplier))
        (none_missed (λ (p : ℕ × LinkRow). is_link_of d p.1 (is_present v p.0)) (λ p. is_active v p.1.supplier) (λ p. is_excused_from_supplier plan h d p.0 p.1.supplier) (enumerate_from 0 plan.links)
        (excused_of live (supplier_bonds plan h d) (lives active) excused.suppliers))

    go : (b : Bool) → is_active v d ≡ b → lack_of plan h d ≡ lack_now plan v d
    go true active =
        ap (λ o. option_or (lack_now plan v d) (option_or o (supplier_lack plan h d))) (no_parent active)
        ∙ ap (λ o. option_or (lack_now plan v d) o) (no_supplier active) ∙ or_none (lack_now plan v d)
    go false inactive =
        let e : lack_now plan v d ≡ Some (lack.Inactive (device v d).status) = rw inactive refl in
        ap (λ o. option_or o (option_or (parent_lack plan h d) (supplier_lack plan h d))) e ∙ sym e
