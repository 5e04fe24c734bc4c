-- What tests say of tests.
use Rattle.std.proofs.Common.{◌≡◌, ◌⊎◌, inl, inr, Bool, true, false, not, ◌&&◌, refl}
use Rattle.std.specs.Prelude.{◌||◌}
use Rattle.pm_model.specs.Promises.{implies}

-- of two tests one fails
pub bad_either : (a b : Bool) → not (a && b) ≡ true → (not a ≡ true) ⊎ (not b ≡ true)
bad_either true b e = inr e
bad_either false b e = inl refl

pub bad_left : (a b : Bool) → not (a && b) ≡ true → b ≡ true → not a ≡ true
bad_left true true e p = e
bad_left true false e p = cc
bad_left false b e p = refl

pub bad_right : (a b : Bool) → not b ≡ true → not (a && b) ≡ true
bad_right true b e = e
bad_right false b e = refl

pub fit_both : (a b : Bool) → a ≡ true → b ≡ true → not (a && b) ≡ false
fit_both true true p q = refl
fit_both true false p q = cc
fit_both false b p q = cc

pub implies_up : (a b : Bool) → b ≡ true → implies a b ≡ true
implies_up true b e = e
implies_up false b e = refl

pub unless : (a b : Bool) → (a ≡ true → ⊥) → implies a b ≡ true
unless true b f = absurd (f refl)
unless false b f = refl

pub up_supplied : (a b c : Bool) → a || b ≡ true → a || b || c ≡ true
up_supplied true b c e = refl
up_supplied false true c e = refl
up_supplied false false c e = cc

pub good_is : (b : Bool) → not b ≡ false → b ≡ true
good_is true e = refl
good_is false e = cc
