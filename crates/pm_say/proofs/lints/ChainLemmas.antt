-- Domains that are marked one after the other, up a chain.
use Rattle.std.proofs.Common.{ℕ, zero, suc, ◌≡◌, ◌+◌, ◌-◌, ◌<◌, Bool, true, false, ◌||◌, List, [], Option, Some, None, nat_eq, ap, refl, sym, ◌∙◌, arith}
use Rattle.std.specs.List.{list_any}
use Rattle.pm_base.specs.declared.DomId.{DomId}
use Rattle.pm_model.specs.declared.rows.DomainRow.{DomainRow}
use Rattle.pm_model.specs.PlanRows.{chain, domain_parent}

or_false : (a : Bool) → (a || false) ≡ a
or_false true = refl
or_false false = refl

or_more : (a b c : Bool) → ((a || b) || c) ≡ (a || (b || c))
or_more true b c = refl
or_more false b c = refl

chain_none : (rows : List DomainRow) (n : ℕ) → chain rows n None ≡ []
chain_none rows zero = refl
chain_none rows (suc n) = refl

-- above the last all is marked
pub chain_ended : (rows : List DomainRow) (n o : ℕ) (next : Option DomId) (was all : Bool) → next ≡ None
    → (was || list_any (nat_eq o) (chain rows n next)) ≡ all → was ≡ all
chain_ended rows n o next was all is before =
    sym (or_false was)
    ∙ sym (ap (λ (x : Option DomId). was || list_any (nat_eq o) (chain rows n x)) is ∙ ap (λ (xs : List ℕ). was || list_any (nat_eq o) xs) (chain_none rows n))
    ∙ before

-- one more is marked
pub chain_more : (rows : List DomainRow) (n step o : ℕ) (d : DomId) (next above : Option DomId) (was now all : Bool) → step < n → next ≡ Some d
    → above ≡ domain_parent rows d → now ≡ (was || nat_eq o d.0) → (was || list_any (nat_eq o) (chain rows (n - step) next)) ≡ all
    → (now || list_any (nat_eq o) (chain rows (n - (step + 1)) above)) ≡ all
chain_more rows n step o d next above was now all within is parent marked before =
    let m = n - (step + 1) in
    let left : n - step ≡ suc m = omega arith in
    ap (λ (b : Bool). b || list_any (nat_eq o) (chain rows m above)) marked
    ∙ or_more was (nat_eq o d.0) (list_any (nat_eq o) (chain rows m above))
    ∙ ap (λ (p : Option DomId). was || (nat_eq o d.0 || list_any (nat_eq o) (chain rows m p))) parent
    ∙ sym (ap (λ (k : ℕ). was || list_any (nat_eq o) (chain rows k next)) left ∙ ap (λ (x : Option DomId). was || list_any (nat_eq o) (chain rows (suc m) x)) is)
    ∙ before
