-- What is written for the user's bytes is no markup.
use Rattle.std.proofs.Common.{ℕ, ◌≡◌, Bool, true, false, ◌&&◌, ◌++◌, List, [], ◌∷◌, codes, nat_eq, nat_lt, not, if◌then◌else◌, ap, refl, sym, ◌∙◌}
use Rattle.std.specs.List.{list_all}
use Rattle.pm_sheet.specs.svg.Escape.{escaped, escaped_byte, is_itself, is_no_markup}

all_append : (p : ℕ → Bool) (xs ys : List ℕ) → list_all p xs ≡ true → list_all p ys ≡ true → list_all p (xs ++ ys) ≡ true
all_append p [] ys left right = right
all_append p (x ∷ xs) ys left right = go (p x) left (all_append p xs ys)
  where
    go : (b : Bool) → b && list_all p xs ≡ true → (list_all p xs ≡ true → list_all p ys ≡ true → list_all p (xs ++ ys) ≡ true) → b && list_all p (xs ++ ys) ≡ true
    go true is rest = rest is right
    go false is rest = cc is

byte_is : (b : ℕ) → list_all is_no_markup (escaped_byte b) ≡ true
byte_is b = go (nat_eq b 60) (nat_eq b 62) (nat_eq b 38) (nat_eq b 34) (nat_lt b 32) refl refl refl refl
  where
    go : (less more amp quote low : Bool) → nat_eq b 60 ≡ less → nat_eq b 62 ≡ more → nat_eq b 34 ≡ quote → nat_lt b 32 ≡ low
        → list_all is_no_markup (if less then codes "&lt;" else (if more then codes "&gt;" else (if amp then codes "&amp;" else (if quote then codes "&quot;" else (if low then codes "?" else b ∷ []))))) ≡ true
    go true more amp quote low a c d e = refl
    go false true amp quote low a c d e = refl
    go false false true quote low a c d e = refl
    go false false false true low a c d e = refl
    go false false false false true a c d e = refl
    go false false false false false a c d e = rw (a, c, d, e) refl

pub is_no_markup_all : (bytes : List ℕ) → list_all is_no_markup (escaped bytes) ≡ true
is_no_markup_all [] = refl
is_no_markup_all (b ∷ bytes) = all_append is_no_markup (escaped_byte b) (escaped bytes) (byte_is b) (is_no_markup_all bytes)

-- bytes that stand for themselves are written as they are
itself : (b : ℕ) → is_itself b ≡ true → escaped_byte b ≡ b ∷ []
itself b is = go (nat_eq b 60) (nat_eq b 62) (nat_eq b 38) (nat_eq b 34) (nat_lt b 32) is
  where
    go : (less more amp quote low : Bool) → not less && not more && not amp && not quote && not low ≡ true
        → (if less then codes "&lt;" else (if more then codes "&gt;" else (if amp then codes "&amp;" else (if quote then codes "&quot;" else (if low then codes "?" else b ∷ []))))) ≡ b ∷ []
    go true more amp quote low is = cc
    go false true amp quote low is = cc
    go false false true quote low is = cc
    go false false false true low is = cc
    go false false false false true is = cc
    go false false false false false is = refl

front : (a b : Bool) → a && b ≡ true → a ≡ true
front true b both = refl
front false b both = both

rear : (a b : Bool) → a && b ≡ true → b ≡ true
rear true b both = both
rear false b both = cc

pub escaped_none : (bytes : List ℕ) → list_all is_itself bytes ≡ true → bytes ≡ escaped bytes
escaped_none [] all = refl
escaped_none (b ∷ bytes) all =
    ap (λ l. b ∷ l) (escaped_none bytes (rear (is_itself b) (list_all is_itself bytes) all))
    ∙ ap (λ l. l ++ escaped bytes) (sym (itself b (front (is_itself b) (list_all is_itself bytes) all)))
