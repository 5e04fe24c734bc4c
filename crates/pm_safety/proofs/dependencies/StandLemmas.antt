-- Domains that are on, by how many are off.
use Rattle.std.proofs.Common.{ℕ, suc, ◌≡◌, Bool, true, false, not, ◌&&◌, cond, List, [], ◌∷◌, length, nat_eq, ap, refl, ◌∙◌, arith}
use Rattle.std.specs.List.{filter, list_all}
use Rattle.std.proofs.lemmas.Grind.{common_steps}
use Rattle.pm_base.specs.declared.DevId.{DevId}
use Rattle.pm_model.specs.declared.plan.Plan.{Plan}
use Rattle.pm_model.specs.Derived.{up}
use Rattle.pm_model.specs.PlanRows.{domains_of}
use Rattle.pm_model.specs.Views.{Views, is_on}

some_off : (n : ℕ) → nat_eq (suc n) 0 ≡ false
some_off n = grind (arith, common_steps)

all_on : (on : ℕ → Bool) (l : List ℕ) → nat_eq (length (filter (λ o. not (on o)) l)) 0 ≡ list_all on l
all_on on [] = refl
all_on on (o ∷ l) = go (on o) (all_on on l)
  where
    off : List ℕ
    off = filter (λ o. not (on o)) l

    go : (b : Bool) → nat_eq (length off) 0 ≡ list_all on l → nat_eq (length (cond (not b) (o ∷ off) off)) 0 ≡ b && list_all on l
    go true below = below
    go false below = some_off (length off)

pub unpowered : (plan : Plan) (v : Views) (d : DevId) (n : ℕ) → n ≡ length (up plan v d) → not (nat_eq n 0) ≡ not (list_all (is_on v) (domains_of plan d))
unfolding up
unpowered plan v d n is = ap (λ n. not (nat_eq n 0)) is ∙ ap not (all_on (is_on v) (domains_of plan d))
