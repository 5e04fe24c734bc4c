-- A merge of rising lists rises, and the lines of one list stand in it in their order.
use Rattle.std.proofs.Common.{ℕ, zero, suc, ◌≡◌, ◌+◌, ◌<◌, Bool, true, false, not, cond, ◌&&◌, List, [], ◌∷◌, nat_eq, nat_le, Some, if◌then◌else◌, refl, sym, subst, ◌∙◌, ap, arith}
use Rattle.std.specs.Prelude.{◌≤◌, length, slice_get}
use Rattle.std.specs.List.{list_all, filter}
use Rattle.std.proofs.lemmas.Bool.{and_parts, eqb-true, false≢true}
use Rattle.pm_model.specs.declared.event.Line.{Line}
use Rattle.pm_model.specs.Islands.{put_in, merge_in, merged}
use Rattle.pm_laws.proofs.stacks.Tests.{not_true, same_self}

-- each line is no later than those behind it
abbrev pub no_later : ℕ → List Line → Bool
no_later t lines = list_all (λ y. nat_le t y.time) lines

abbrev pub is_rising : List Line → Bool
is_rising [] = true
is_rising (x ∷ xs) = no_later x.time xs && is_rising xs

le_trans : (a b c : ℕ) → nat_le a b ≡ true → nat_le b c ≡ true → nat_le a c ≡ true
le_trans a b c x y = grind arith

le_total : (a b : ℕ) → nat_le a b ≡ false → nat_le b a ≡ true
le_total a b x = grind arith

later_still : (s t : ℕ) (ys : List Line) → nat_le s t ≡ true → no_later t ys ≡ true → no_later s ys ≡ true
later_still s t [] e all = refl
later_still s t (y ∷ ys) e all = let h = and_parts _ _ all in rw (le_trans s t y.time e h.0, later_still s t ys e h.1) refl

-- a line is put in
put_no_later : (t : ℕ) (x : Line) (ys : List Line) → nat_le t x.time ≡ true → no_later t ys ≡ true → no_later t (put_in x ys) ≡ true
put_no_later t x [] e all = rw e refl
put_no_later t x (y ∷ ys) e all =
    let h = and_parts _ _ all in go (nat_le x.time y.time) h.0 h.1 (put_no_later t x ys e h.1)
  where
    go : (b : Bool) → nat_le t y.time ≡ true → no_later t ys ≡ true → no_later t (put_in x ys) ≡ true
        → no_later t (if b then x ∷ y ∷ ys else y ∷ put_in x ys) ≡ true
    go true f g kept = rw (e, f, g) refl
    go false f g kept = rw (f, kept) refl

put_rises : (x : Line) (ys : List Line) → is_rising ys ≡ true → is_rising (put_in x ys) ≡ true
put_rises x [] r = refl
put_rises x (y ∷ ys) r = let h = and_parts _ _ r in go (nat_le x.time y.time) refl h.0 h.1 (put_rises x ys h.1)
  where
    go : (b : Bool) → nat_le x.time y.time ≡ b → no_later y.time ys ≡ true → is_rising ys ≡ true → is_rising (put_in x ys) ≡ true
        → is_rising (if b then x ∷ y ∷ ys else y ∷ put_in x ys) ≡ true
    go true e f g kept = rw (e, later_still x.time y.time ys e f, f, g) refl
    go false e f g kept = rw (put_no_later y.time x ys (le_total x.time y.time e) f, kept) refl

merge_rises : (xs rest : List Line) → is_rising rest ≡ true → is_rising (merge_in xs rest) ≡ true
merge_rises [] rest r = r
merge_rises (x ∷ xs) rest r = put_rises x (merge_in xs rest) (merge_rises xs rest r)

pub merged_rises : (lists : List (List Line)) → is_rising (merged lists) ≡ true
merged_rises [] = refl
merged_rises (lines ∷ lists) = merge_rises lines (merged lists) (merged_rises lists)

-- the lines that pass a test
put_passes : (p : Line → Bool) (x : Line) (ys : List Line) → p x ≡ true → no_later x.time (filter p ys) ≡ true → filter p (put_in x ys) ≡ x ∷ filter p ys
put_passes p x [] e all = rw e refl
put_passes p x (y ∷ ys) e all = go (nat_le x.time y.time) (p y) refl refl (put_passes p x ys e) all
  where
    go : (b c : Bool) → nat_le x.time y.time ≡ b → p y ≡ c → (no_later x.time (filter p ys) ≡ true → filter p (put_in x ys) ≡ x ∷ filter p ys)
        → no_later x.time (cond c (y ∷ filter p ys) (filter p ys)) ≡ true
        → filter p (if b then x ∷ y ∷ ys else y ∷ put_in x ys) ≡ x ∷ cond c (y ∷ filter p ys) (filter p ys)
    go true c b is rest all = rw (e, is) refl
    go false true b is rest all = absurd (false≢true (sym b ∙ (and_parts _ _ all).0))
    go false false b is rest all = rw is (rest all)

put_fails : (p : Line → Bool) (x : Line) (ys : List Line) → p x ≡ false → filter p (put_in x ys) ≡ filter p ys
put_fails p x [] e = rw e refl
put_fails p x (y ∷ ys) e = go (nat_le x.time y.time) (put_fails p x ys e)
  where
    go : (b : Bool) → filter p (put_in x ys) ≡ filter p ys → filter p (if b then x ∷ y ∷ ys else y ∷ put_in x ys) ≡ filter p (y ∷ ys)
    go true rest = rw e refl
    go false rest = rw rest refl

merge_passes : (p : Line → Bool) (xs rest : List Line) → list_all p xs ≡ true → is_rising xs ≡ true → filter p rest ≡ [] → filter p (merge_in xs rest) ≡ xs
merge_passes p [] rest all r none = none
merge_passes p (x ∷ xs) rest all r none =
    let h = and_parts _ _ all in
    let g = and_parts _ _ r in
    let mine = merge_passes p xs rest h.1 g.1 none in
    put_passes p x (merge_in xs rest) h.0 (rw mine g.0) ∙ ap (λ l. x ∷ l) mine

merge_fails : (p : Line → Bool) (xs rest : List Line) → list_all (λ x. not (p x)) xs ≡ true → filter p (merge_in xs rest) ≡ filter p rest
merge_fails p [] rest all = refl
merge_fails p (x ∷ xs) rest all =
    let h = and_parts _ _ all in put_fails p x (merge_in xs rest) (not_true (p x) h.0) ∙ merge_fails p xs rest h.1

-- the list of island k, where the first is of island n
abbrev pub list_of : ℕ → ℕ → List (List Line) → List Line
list_of k n [] = []
list_of k n (lines ∷ lists) = if nat_eq n k then lines else list_of k (n + 1) lists

-- it is one of the lists, or there is none
pub list_of_is : (P : List Line → Type 0) (k n : ℕ) (lists : List (List Line)) → (((j : ℕ) → k ≡ n + j → length lists ≤ j) → P [])
    → ((j : ℕ) (lines : List Line) → k ≡ n + j → slice_get lists j ≡ Some lines → P lines) → P (list_of k n lists)
list_of_is P k n [] none each = none (λ j at. omega arith)
list_of_is P k n (lines ∷ lists) none each =
    go (nat_eq n k) refl (λ apart. list_of_is P k (n + 1) lists (λ f. none (λ j at. behind j at apart f)) (λ j xs at is. each (suc j) xs (omega (arith, at)) is))
  where
    behind : (j : ℕ) → k ≡ n + j → nat_eq n k ≡ false → ((j : ℕ) → k ≡ n + 1 + j → length lists ≤ j) → length (lines ∷ lists) ≤ j
    behind zero at apart f = let same : n ≡ k = omega (arith, at) in absurd (false≢true (sym apart ∙ ap (λ m. nat_eq m k) same ∙ same_self k))
    behind (suc j) at apart f = let rest = f j (omega (arith, at)) in omega (arith, rest)

    go : (b : Bool) → nat_eq n k ≡ b → (nat_eq n k ≡ false → P (list_of k (n + 1) lists)) → P (if b then lines else list_of k (n + 1) lists)
    go true e rest = each 0 lines (let same : n ≡ k = eqb-true n k e in omega (arith, same)) refl
    go false e rest = rest e

-- the n-th list and those behind it are of the islands n, n + 1 and so on, and rise
abbrev pub AreOf : (Line → ℕ) → ℕ → List (List Line) → Type 0
AreOf home n [] = Unit {0}
AreOf home n (lines ∷ lists) = (list_all (λ x. nat_eq (home x) n) lines ≡ true) × (is_rising lines ≡ true) × AreOf home (n + 1) lists

not_home : (home : Line → ℕ) (n k : ℕ) (xs : List Line) → nat_eq n k ≡ false → list_all (λ x. nat_eq (home x) n) xs ≡ true → list_all (λ x. not (nat_eq (home x) k)) xs ≡ true
not_home home n k [] apart all = refl
not_home home n k (x ∷ xs) apart all =
    let h = and_parts _ _ all in
    let e : nat_eq (home x) k ≡ false = rw (eqb-true (home x) n h.0) apart in
    rw (e, not_home home n k xs apart h.1) refl

beyond : (home : Line → ℕ) (k n : ℕ) (lists : List (List Line)) → k < n → AreOf home n lists → filter (λ x. nat_eq (home x) k) (merged lists) ≡ []
beyond home k n [] below are = refl
beyond home k n (lines ∷ lists) below are =
    merge_fails (λ x. nat_eq (home x) k) lines (merged lists) (not_home home n k lines (grind arith) are.0) ∙ beyond home k (n + 1) lists (omega (arith, below)) are.2

-- the lines of an island in the merge are its list
pub merged_own : (home : Line → ℕ) (k n : ℕ) (lists : List (List Line)) → AreOf home n lists → filter (λ x. nat_eq (home x) k) (merged lists) ≡ list_of k n lists
merged_own home k n [] are = refl
merged_own home k n (lines ∷ lists) are = go (nat_eq n k) refl (merged_own home k (n + 1) lists are.2)
  where
    go : (b : Bool) → nat_eq n k ≡ b → filter (λ x. nat_eq (home x) k) (merged lists) ≡ list_of k (n + 1) lists
        → filter (λ x. nat_eq (home x) k) (merge_in lines (merged lists)) ≡ (if b then lines else list_of k (n + 1) lists)
    go false e rest = merge_fails (λ x. nat_eq (home x) k) lines (merged lists) (not_home home n k lines e are.0) ∙ rest
    go true e rest =
        let same : n ≡ k = eqb-true n k e in
        merge_passes (λ x. nat_eq (home x) k) lines (merged lists) (subst (λ m. list_all (λ x. nat_eq (home x) m) lines ≡ true) same are.0) are.1
        (beyond home k (n + 1) lists (omega (arith, same)) are.2)
