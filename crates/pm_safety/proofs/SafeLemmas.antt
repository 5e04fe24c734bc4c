-- A device of a safe list is excused from each bond that doesn't hold.
use Rattle.std.proofs.Common.{ℕ, zero, suc, ◌≡◌, ◌+◌, ◌<◌, Bool, true, false, ◌&&◌, List, [], ◌∷◌, length, refl, sym, subst, ◌∙◌, arith}
use Rattle.std.specs.List.{enumerate_from, list_all}
use Rattle.std.proofs.lemmas.Bool.{and_parts}
use Rattle.pm_base.specs.declared.DevId.{DevId}
use Rattle.pm_model.specs.declared.plan.Plan.{Plan}
use Rattle.pm_model.specs.Excuse.{is_live}
use Rattle.pm_model.specs.History.{History, throughout}
use Rattle.pm_model.specs.Promises.{BondState, are_excused, domain_bonds, each_device, implies, is_safe, parent_bonds, supplier_bonds}
use Rattle.pm_safety.specs.declared.answers.Bond.TheVariants as bond
use Rattle.pm_safety.specs.declared.answers.Inspect.{Inspect}
use Rattle.pm_safety.specs.Inspected.{AreExcused, bond_of}

now_too : (test : History → Bool) (h : History) → throughout test h ≡ true → test h ≡ true
now_too test [] e = e
now_too test (line ∷ h) e = (and_parts (test (line ∷ h)) (throughout test h) e).0

at_place : {A : Type 0} (test : ℕ → Bool) (i : ℕ) (rows : List A) (n m : ℕ) → m ≡ i + n → n < length rows → list_all (λ (p : ℕ × A). test p.0) (enumerate_from i rows) ≡ true
    → test m ≡ true
at_place test i [] n m e lt all = absurd (omega arith)
at_place test i (x ∷ rows) zero m e lt all =
    let same : i ≡ m = omega (arith, e) in
    subst (λ k. test k ≡ true) same (and_parts (test i) (list_all (λ p. test p.0) (enumerate_from (i + 1) rows)) all).0
at_place test i (x ∷ rows) (suc n) m e lt all =
    at_place test (i + 1) rows n m (omega (arith, e)) (omega arith) (and_parts (test i) (list_all (λ p. test p.0) (enumerate_from (i + 1) rows)) all).1

of_device : (test : DevId → Bool) (plan : Plan) (d : DevId) → d.0 < length plan.devices → each_device test plan ≡ true → test d ≡ true
of_device test plan d within all = at_place (λ n. test (record { 0 = n })) 0 plan.devices d.0 d.0 (omega arith) within all

so : (a b : Bool) → implies a b ≡ true → a ≡ true → b ≡ true
so true b e is = e
so false b e is = cc

only_live : (live : Bool) (bonds : List BondState) → bond_of live bonds ≡ bond.Excused → live ≡ true
only_live true bonds e = refl
only_live false bonds e = cc

pub all_excused : (plan : Plan) (h : History) (d : DevId) (answered : Inspect) → is_safe plan h ≡ true → d.0 < length plan.devices
    → answered.domains ≡ bond_of (is_live plan h d) (domain_bonds plan h d)
    → answered.parent ≡ bond_of (is_live plan h d) (parent_bonds plan h d)
    → answered.suppliers ≡ bond_of (is_live plan h d) (supplier_bonds plan h d)
    → AreExcused plan h d answered
all_excused plan h d answered safe within domains parent suppliers = record {
  domains = λ e. (and_parts _ _ (and_parts _ _ (excused (only_live live (domain_bonds plan h d) (sym domains ∙ e)))).0).0;
  parent = λ e. (and_parts _ _ (and_parts _ _ (excused (only_live live (parent_bonds plan h d) (sym parent ∙ e)))).0).1;
  suppliers = λ e. (and_parts _ _ (excused (only_live live (supplier_bonds plan h d) (sym suppliers ∙ e)))).1;
}
  where
    live : Bool
    live = is_live plan h d

    are : History → DevId → Bool
    are g d = are_excused (domain_bonds plan g d) && are_excused (parent_bonds plan g d) && are_excused (supplier_bonds plan g d)

    excused : live ≡ true → are h d ≡ true
    excused is =
        so live (are h d) (of_device (λ d. implies (is_live plan h d) (are h d)) plan d within (now_too (λ g. each_device (λ d. implies (is_live plan g d) (are g d)) plan) h safe)) is
