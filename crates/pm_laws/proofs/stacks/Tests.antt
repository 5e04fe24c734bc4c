-- What tests say.
use Rattle.std.proofs.Common.{ℕ, ◌≡◌, Bool, true, false, ◌&&◌, ◌||◌, not, nat_eq, ap, refl, inl, inr}
use Rattle.std.proofs.lemmas.Bool.{and_parts, eqb-true}
use Rattle.std.proofs.lemmas.Bool.Decides.{eqb_tells}
use Rattle.pm_base.specs.declared.DevId.{DevId}

pub front : (a b : Bool) → a && b ≡ true → a ≡ true
front a b e = (and_parts a b e).0

pub rear : (a b : Bool) → a && b ≡ true → b ≡ true
rear a b e = (and_parts a b e).1

-- a test that the row before it left out
pub second : (a b : Bool) → a && b ≡ false → a ≡ true → b ≡ false
second true b e is = e
second false b e is = cc

-- a code that is none of three
pub none_of : (a b c : Bool) → a || b || c ≡ false → (a ≡ false) × (b ≡ false) × (c ≡ false)
none_of false false false e = (refl, refl, refl)
none_of false false true e = cc
none_of false true c e = cc
none_of true b c e = cc

pub not_true : (b : Bool) → not b ≡ true → b ≡ false
not_true true e = cc
not_true false e = refl

pub same_self : (n : ℕ) → nat_eq n n ≡ true
same_self n = elim (eqb_tells n n) [ inl q ↦ q.0 | inr q ↦ absurd (q.1 refl) ]

pub same_device : (d e : DevId) → nat_eq d.0 e.0 ≡ true → d ≡ e
same_device d e same = ap (λ n. let x : DevId = record { 0 = n } in x) (eqb-true d.0 e.0 same)

pub or_rear : (a b : Bool) → b ≡ true → a || b ≡ true
or_rear true b e = refl
or_rear false b e = e
