-- Lists that grow.
use Rattle.std.proofs.Common.{◌≡◌, ℕ, zero, suc, ◌<◌, ◌⊎◌, List, [], ◌∷◌, ◌++◌, Some, length, map, slice_get, refl, sym, subst, inl, inr, arith, length-append}
use Rattle.pm_explore.specs.search.Exact.{IsAmong}
use Rattle.pm_explore.specs.search.Growing.{Grows, IsKept}

module _ {A : Type 0} where
  pub slice_get-left : (xs ys : List A) (i : ℕ) (x : A) → slice_get xs i ≡ Some x → slice_get (xs ++ ys) i ≡ Some x
  slice_get-left [] ys i x h = cc h
  slice_get-left (y ∷ xs) ys zero x h = h
  slice_get-left (y ∷ xs) ys (suc i) x h = slice_get-left xs ys i x h

  pub slice_get-mid : (xs ys : List A) (x : A) → slice_get (xs ++ x ∷ ys) (length xs) ≡ Some x
  slice_get-mid [] ys x = refl
  slice_get-mid (y ∷ xs) ys x = slice_get-mid xs ys x

  -- what is at a place of a list with one more
  pub slice_get-push : (xs : List A) (y : A) (i : ℕ) (x : A) → slice_get (xs ++ y ∷ []) i ≡ Some x → (slice_get xs i ≡ Some x) ⊎ ((i ≡ length xs) × (x ≡ y))
  slice_get-push [] y zero x h = inr (refl, cc)
  slice_get-push [] y (suc i) x h = cc h
  slice_get-push (z ∷ xs) y zero x h = inl h
  slice_get-push (z ∷ xs) y (suc i) x h = elim (slice_get-push xs y i x h) [ inl b ↦ inl b | inr e ↦ inr (omega (arith, e.0), e.1) ]

  pub some_within : (xs : List A) (i : ℕ) → i < length xs → (x : A) × (slice_get xs i ≡ Some x)
  some_within [] i lt = absurd (omega (arith, lt))
  some_within (x ∷ xs) zero lt = (x, refl)
  some_within (x ∷ xs) (suc i) lt = some_within xs i (omega (arith, lt))

  pub Grows-refl : (Test : A → Type 0) (xs : List A) → Grows Test xs xs
  Grows-refl Test xs = record { longer = omega arith; kept = λ i x h. h; added = λ i x h. inl h }

  pub Grows-push : (Test : A → Type 0) (old xs : List A) (y : A) → Grows Test old xs → Test y → Grows Test old (xs ++ y ∷ [])
  Grows-push Test old xs y g t = record {
    longer = omega (arith, length-append xs (y ∷ []), g.longer);
    kept = λ i x h. slice_get-left xs (y ∷ []) i x (g.kept i x h);
    added = λ i x h. elim (slice_get-push xs y i x h) [ inl b ↦ g.added i x b | inr e ↦ inr (subst Test (sym e.1) t) ];
  }

  -- a test that follows from another
  pub Grows-map : (S T : A → Type 0) (old new : List A) → ((x : A) → S x → T x) → Grows S old new → Grows T old new
  Grows-map S T old new f g = record {
    longer = g.longer;
    kept = g.kept;
    added = λ i x h. elim (g.added i x h) [ inl b ↦ inl b | inr s ↦ inr (f x s) ];
  }

  pub Grows-trans : (S T U : A → Type 0) (a b c : List A) → ((x : A) → S x → U x) → ((x : A) → T x → U x) → Grows S a b → Grows T b c → Grows U a c
  Grows-trans S T U a b c f h p q = record {
    longer = omega (arith, p.longer, q.longer);
    kept = λ i x t. q.kept i x (p.kept i x t);
    added = λ i x t. elim (q.added i x t) [ inl b' ↦ elim (p.added i x b') [ inl a' ↦ inl a' | inr s ↦ inr (f x s) ] | inr s ↦ inr (h x s) ];
  }

  -- what is kept stays so where the list grows on
  pub kept_on : (Test : A → Type 0) (first old new : List A) → IsKept first old → Grows Test old new → IsKept first new
  kept_on Test first old new k g = Grows-trans (λ y. Unit {0}) Test (λ y. Unit {0}) first old new (λ y u. tt) (λ y t. tt) k g

  -- also by a test that the point at a place decides
  pub kept_at : (Test : A → A → Type 0) (first old new : List A) (at : ℕ) → at < length old → IsKept first old → ((p : A) → slice_get old at ≡ Some p → Grows (Test p) old new) → IsKept first new
  kept_at Test first old new at lt k g = let p = some_within old at lt in kept_on (Test p.0) first old new k (g p.0 p.1)

  -- the points of the same nodes
  pub Grows-same : {N : Type 0} (Test : A → Type 0) (f : N → A) (first : List A) (nodes nodes' : List N) → nodes' ≡ nodes → Grows Test first (map f nodes) → Grows Test first (map f nodes')
  Grows-same {N = N} Test f first nodes nodes' is g = let T : List N → Type 0 = λ l. Grows Test first (map f l) in subst T (sym is) g

  pub Grows-back : (Test : A → Type 0) (old new : List A) → Grows Test old new → (i : ℕ) (x : A) → i < length old → slice_get new i ≡ Some x → slice_get old i ≡ Some x
  Grows-back Test old new g i x lt h = let s = some_within old i lt in let k = g.kept i s.0 s.1 in let t = s.1 in cc

  pub IsAmong-grows : (Test : A → Type 0) (old new : List A) (x : A) → Grows Test old new → IsAmong old (length old) x → IsAmong new (length new) x
  IsAmong-grows Test old new x g a = record { place = a.place; below = omega (arith, a.below, g.longer); there = g.kept a.place x a.there }
