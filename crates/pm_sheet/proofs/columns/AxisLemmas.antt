-- Axes that grow, and that are made to fit.
use Rattle.std.proofs.Common.{ℕ, ◌≡◌, ◌≤◌, ◌*◌, ◌/◌, Bool, true, false, ◌&&◌, ◌++◌, List, [], ◌∷◌, get_or, map, min, nat_le, ap, arith, refl, subst, zero, suc}
use Rattle.std.proofs.lemmas.Bool.{le-leb, leb-true}
use Rattle.std.proofs.lemmas.Nat.{le-div}
use Rattle.std.proofs.Math.Nat.{div-mul-le_self, div-zero, zero-div}
use Rattle.pm_sheet.specs.columns.Axis.{fitted, rises, x_of}

both_front : (a b : Bool) → a && b ≡ true → a ≡ true
both_front true b both = refl
both_front false b both = both

both_rear : (a b : Bool) → a && b ≡ true → b ≡ true
both_rear true b both = both
both_rear false b both = cc

both : (a b : Bool) → a ≡ true → b ≡ true → a && b ≡ true
both a b one other = rw (one, other) refl

-- one line more
pub rises_more : (from : ℕ) (xs : List ℕ) (width x : ℕ) → rises from xs width ≡ true → width ≤ x → rises from (xs ++ x ∷ []) x ≡ true
rises_more from [] width x is on =
    let le : from ≤ width = leb-true from width is in
    both (nat_le from x) (nat_le x x) (le-leb from x (omega arith)) (le-leb x x (omega arith))
rises_more from (y ∷ xs) width x is on = both (nat_le from y) (rises y (xs ++ x ∷ []) x) (both_front (nat_le from y) (rises y xs width) is) (rises_more y xs width x (both_rear (nat_le from y) (rises y xs width) is) on)

-- more room at its end
pub rises_wider : (from : ℕ) (xs : List ℕ) (width wider : ℕ) → rises from xs width ≡ true → width ≤ wider → rises from xs wider ≡ true
rises_wider from [] width wider is on =
    let le : from ≤ width = leb-true from width is in
    le-leb from wider (omega arith)
rises_wider from (y ∷ xs) width wider is on = both (nat_le from y) (rises y xs wider) (both_front (nat_le from y) (rises y xs width) is) (rises_wider y xs width wider (both_rear (nat_le from y) (rises y xs width) is) on)

-- a place that is further right stays so
div_more : (w a b : ℕ) → a ≤ b → a / w ≤ b / w
div_more zero a b le = rw (div-zero a) (omega arith)
div_more (suc w) a b le =
    let down : a / suc w * suc w ≤ a = div-mul-le_self a (suc w) in
    le-div (a / suc w) b (suc w) (omega arith) (omega arith)

fitted_more : (w a b : ℕ) → a ≤ b → fitted w a ≤ fitted w b
fitted_more w a b le =
    let more : a * 1200 / w ≤ b * 1200 / w = div_more w (a * 1200) (b * 1200) (omega arith) in
    omega arith

-- an axis that is made to fit
fit_rises : (w from : ℕ) (xs : List ℕ) (width : ℕ) → rises from xs width ≡ true → rises (fitted w from) (map (fitted w) xs) 1200 ≡ true
fit_rises w from [] width is = le-leb (fitted w from) 1200 (omega arith)
fit_rises w from (y ∷ xs) width is =
    let le : from ≤ y = leb-true from y (both_front (nat_le from y) (rises y xs width) is) in
    both (nat_le (fitted w from) (fitted w y)) (rises (fitted w y) (map (fitted w) xs) 1200) (le-leb (fitted w from) (fitted w y) (fitted_more w from y le))
    (fit_rises w y xs width (both_rear (nat_le from y) (rises y xs width) is))

pub fits : (xs : List ℕ) (width : ℕ) → rises 0 xs width ≡ true → rises 0 (map (fitted width) xs) 1200 ≡ true
fits xs width is =
    let none : fitted width 0 ≡ 0 = ap (λ n. min n 1200) (zero-div width) in
    subst (λ n. rises n (map (fitted width) xs) 1200 ≡ true) none (fit_rises width 0 xs width is)

-- no line stands beyond the end, and none further right than a later one
above : (from : ℕ) (xs : List ℕ) (width line : ℕ) → rises from xs width ≡ true → from ≤ get_or xs line width
above from [] width line is = leb-true from width is
above from (y ∷ xs) width zero is = leb-true from y (both_front (nat_le from y) (rises y xs width) is)
above from (y ∷ xs) width (suc line) is =
    let le : from ≤ y = leb-true from y (both_front (nat_le from y) (rises y xs width) is) in
    let rest : y ≤ get_or xs line width = above y xs width line (both_rear (nat_le from y) (rises y xs width) is) in
    omega arith

later : (from : ℕ) (xs : List ℕ) (width a b : ℕ) → rises from xs width ≡ true → a ≤ b → get_or (from ∷ xs) a width ≤ get_or (from ∷ xs) b width
later from xs width zero zero is on = omega arith
later from xs width zero (suc b) is on = above from xs width b is
later from xs width (suc a) zero is on = omega arith
later from [] width (suc a) (suc b) is on = omega arith
later from (y ∷ xs) width (suc a) (suc b) is on = later y xs width a b (both_rear (nat_le from y) (rises y xs width) is) (omega arith)

below : (from : ℕ) (xs : List ℕ) (width line : ℕ) → rises from xs width ≡ true → get_or (from ∷ xs) line width ≤ width
below from [] width zero is = leb-true from width is
below from [] width (suc line) is = omega arith
below from (y ∷ xs) width zero is =
    let le : from ≤ y = leb-true from y (both_front (nat_le from y) (rises y xs width) is) in
    let rest : y ≤ width = below y xs width zero (both_rear (nat_le from y) (rises y xs width) is) in
    omega arith
below from (y ∷ xs) width (suc line) is = below y xs width line (both_rear (nat_le from y) (rises y xs width) is)

pub x_later : (xs : List ℕ) (width a b : ℕ) → rises 0 xs width ≡ true → a ≤ b → x_of xs width a ≤ x_of xs width b
x_later xs width a b is on = later 0 xs width a b is on

pub x_within : (xs : List ℕ) (width line : ℕ) → rises 0 xs width ≡ true → x_of xs width line ≤ width
x_within xs width line is = below 0 xs width line is
