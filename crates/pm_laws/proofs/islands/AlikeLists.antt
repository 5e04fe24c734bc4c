-- Lists that are alike at the places inside.
use Rattle.std.proofs.Common.{ℕ, zero, suc, ◌≡◌, Bool, true, false, List, [], ◌∷◌, Some, map, slice_set, slice_index_or, ap, refl, sym, ◌∙◌}
use Rattle.std.specs.Prelude.{slice_get}
use Rattle.std.specs.List.{zip}
use Rattle.pm_laws.proofs.islands.Region.{Alike, AlikeBy}

pub alike_at : {A : Type 0} (inside : ℕ → Bool) (xs ys : List A) (i : ℕ) (x : A) → Alike inside xs ys → inside i ≡ true
    → slice_index_or xs i x ≡ slice_index_or ys i x
alike_at inside [] [] i x a e = refl
alike_at inside [] (y ∷ ys) i x a e = absurd a
alike_at inside (y ∷ xs) [] i x a e = absurd a
alike_at inside (y ∷ xs) (z ∷ ys) zero x a e = a.0 e
alike_at inside (y ∷ xs) (z ∷ ys) (suc i) x a e = alike_at (λ n. inside (suc n)) xs ys i x a.1 e

pub alike_get : {A : Type 0} (inside : ℕ → Bool) (xs ys : List A) (i : ℕ) → Alike inside xs ys → inside i ≡ true → slice_get xs i ≡ slice_get ys i
alike_get inside [] [] i a e = refl
alike_get inside [] (y ∷ ys) i a e = absurd a
alike_get inside (y ∷ xs) [] i a e = absurd a
alike_get inside (y ∷ xs) (z ∷ ys) zero a e = ap Some (a.0 e)
alike_get inside (y ∷ xs) (z ∷ ys) (suc i) a e = alike_get (λ n. inside (suc n)) xs ys i a.1 e

pub by_get : {R A : Type 0} (test : R → Bool) (rows : List R) (xs ys : List A) (i : ℕ) (row : R) → AlikeBy test rows xs ys → slice_get rows i ≡ Some row → test row ≡ true
    → slice_get xs i ≡ slice_get ys i
by_get test [] xs ys i row a at e = absurd (cc)
by_get test (r ∷ rows) [] [] i row a at e = refl
by_get test (r ∷ rows) [] (y ∷ ys) i row a at e = absurd a
by_get test (r ∷ rows) (x ∷ xs) [] i row a at e = absurd a
by_get test (r ∷ rows) (x ∷ xs) (y ∷ ys) zero row a at e = let same : r ≡ row = cc in ap Some (a.0 (ap test same ∙ e))
by_get test (r ∷ rows) (x ∷ xs) (y ∷ ys) (suc i) row a at e = by_get test rows xs ys i row a.1 at e

pub alike_refl : {A : Type 0} (inside : ℕ → Bool) (xs : List A) → Alike inside xs xs
alike_refl inside [] = tt
alike_refl inside (x ∷ xs) = (λ _. refl, alike_refl (λ n. inside (suc n)) xs)

-- the same entry is set in both
pub alike_set : {A : Type 0} (inside : ℕ → Bool) (xs ys : List A) (i : ℕ) (x y : A) → Alike inside xs ys → (inside i ≡ true → x ≡ y)
    → Alike inside (slice_set xs i x) (slice_set ys i y)
alike_set inside [] [] i x y a e = tt
alike_set inside [] (z ∷ ys) i x y a e = absurd a
alike_set inside (z ∷ xs) [] i x y a e = absurd a
alike_set inside (z ∷ xs) (u ∷ ys) zero x y a e = (e, a.1)
alike_set inside (z ∷ xs) (u ∷ ys) (suc i) x y a e = (a.0, alike_set (λ n. inside (suc n)) xs ys i x y a.1 e)

-- an entry is set outside
pub alike_aside : {A : Type 0} (inside : ℕ → Bool) (xs : List A) (i : ℕ) (x : A) → inside i ≡ false → Alike inside xs (slice_set xs i x)
alike_aside inside [] i x out = tt
alike_aside inside (z ∷ xs) zero x out = (λ e. absurd_of inside e out, alike_refl (λ n. inside (suc n)) xs)
  where
    absurd_of : {B : Type 0} (inside : ℕ → Bool) → inside 0 ≡ true → inside 0 ≡ false → B
    absurd_of inside e out = cc
alike_aside inside (z ∷ xs) (suc i) x out = (λ _. refl, alike_aside (λ n. inside (suc n)) xs i x out)

pub alike_trans : {A : Type 0} (inside : ℕ → Bool) (xs ys zs : List A) → Alike inside xs ys → Alike inside ys zs → Alike inside xs zs
alike_trans inside [] [] [] a b = tt
alike_trans inside [] [] (z ∷ zs) a b = absurd b
alike_trans inside [] (y ∷ ys) zs a b = absurd a
alike_trans inside (x ∷ xs) [] zs a b = absurd a
alike_trans inside (x ∷ xs) (y ∷ ys) [] a b = absurd b
alike_trans inside (x ∷ xs) (y ∷ ys) (z ∷ zs) a b = (λ i. a.0 i ∙ b.0 i, alike_trans (λ n. inside (suc n)) xs ys zs a.1 b.1)

pub by_refl : {R A : Type 0} (test : R → Bool) (rows : List R) (xs : List A) → AlikeBy test rows xs xs
by_refl test [] xs = tt
by_refl test (row ∷ rows) [] = tt
by_refl test (row ∷ rows) (x ∷ xs) = (λ _. refl, by_refl test rows xs)

pub by_trans : {R A : Type 0} (test : R → Bool) (rows : List R) (xs ys zs : List A) → AlikeBy test rows xs ys → AlikeBy test rows ys zs → AlikeBy test rows xs zs
by_trans test [] xs ys zs a b = tt
by_trans test (row ∷ rows) [] [] [] a b = tt
by_trans test (row ∷ rows) [] [] (z ∷ zs) a b = absurd b
by_trans test (row ∷ rows) [] (y ∷ ys) zs a b = absurd a
by_trans test (row ∷ rows) (x ∷ xs) [] zs a b = absurd a
by_trans test (row ∷ rows) (x ∷ xs) (y ∷ ys) [] a b = absurd b
by_trans test (row ∷ rows) (x ∷ xs) (y ∷ ys) (z ∷ zs) a b = (λ i. a.0 i ∙ b.0 i, by_trans test rows xs ys zs a.1 b.1)

-- a map over rows and bits
pub by_map : {R A : Type 0} (test : R → Bool) (f : R × A → A) (rows : List R) (xs ys : List A) → AlikeBy test rows xs ys
    → AlikeBy test rows (map f (zip rows xs)) (map f (zip rows ys))
by_map test f [] xs ys a = tt
by_map test f (row ∷ rows) [] [] a = tt
by_map test f (row ∷ rows) [] (y ∷ ys) a = absurd a
by_map test f (row ∷ rows) (x ∷ xs) [] a = absurd a
by_map test f (row ∷ rows) (x ∷ xs) (y ∷ ys) a = (λ i. ap (λ z. f (row, z)) (a.0 i), by_map test f rows xs ys a.1)

-- a map that leaves the bits of the rows that pass the test
pub by_aside : {R A : Type 0} (test : R → Bool) (f : R × A → A) (rows : List R) (xs : List A) → ((row : R) (x : A) → test row ≡ true → x ≡ f (row, x))
    → AlikeBy test rows xs (map f (zip rows xs))
by_aside test f [] xs same = tt
by_aside test f (row ∷ rows) [] same = tt
by_aside test f (row ∷ rows) (x ∷ xs) same = (same row x, by_aside test f rows xs same)

pub alike_sym : {A : Type 0} (inside : ℕ → Bool) (xs ys : List A) → Alike inside xs ys → Alike inside ys xs
alike_sym inside [] [] a = tt
alike_sym inside [] (y ∷ ys) a = absurd a
alike_sym inside (x ∷ xs) [] a = absurd a
alike_sym inside (x ∷ xs) (y ∷ ys) a = (λ i. sym (a.0 i), alike_sym (λ n. inside (suc n)) xs ys a.1)

pub by_sym : {R A : Type 0} (test : R → Bool) (rows : List R) (xs ys : List A) → AlikeBy test rows xs ys → AlikeBy test rows ys xs
by_sym test [] xs ys a = tt
by_sym test (row ∷ rows) [] [] a = tt
by_sym test (row ∷ rows) [] (y ∷ ys) a = absurd a
by_sym test (row ∷ rows) (x ∷ xs) [] a = absurd a
by_sym test (row ∷ rows) (x ∷ xs) (y ∷ ys) a = (λ i. sym (a.0 i), by_sym test rows xs ys a.1)

-- lists that are alike stay so where each entry becomes the same
pub alike_const : {A B : Type 0} (inside : ℕ → Bool) (b : B) (xs ys : List A) → Alike inside xs ys → Alike inside (map (λ _. b) xs) (map (λ _. b) ys)
alike_const inside b [] [] a = tt
alike_const inside b [] (y ∷ ys) a = absurd a
alike_const inside b (x ∷ xs) [] a = absurd a
alike_const inside b (x ∷ xs) (y ∷ ys) a = (λ _. refl, alike_const (λ n. inside (suc n)) b xs ys a.1)

-- one entry again and again
pub const_at : {A B : Type 0} (rows : List A) (n : ℕ) (b : B) → slice_index_or (map (λ _. b) rows) n b ≡ b
const_at [] n b = refl
const_at (row ∷ rows) zero b = refl
const_at (row ∷ rows) (suc n) b = const_at rows n b
