-- Points that are put among others, one after another.
use Rattle.std.proofs.Common.{◌≡◌, ℕ, zero, suc, ◌⊎◌, List, [], ◌∷◌, ◌++◌, Some, length, slice_get, refl, sym, ◌∙◌, ap, subst, inl, inr, arith, append_assoc, length-append}
use Rattle.std.proofs.lemmas.List.{append-nil}
use Rattle.pm_explore.specs.search.Exact.{IsAmong}
use Rattle.pm_explore.specs.search.Growing.{Adds, Grows}
use Rattle.pm_explore.specs.search.Growing.Adds.{is_there, is_new}
use Rattle.pm_explore.proofs.search.Lists.{Grows-push, Grows-refl, IsAmong-grows, slice_get-mid}

-- the list has this point
abbrev pub Has : {P : Type 0} → List P → P → Type 0
Has all q = (i : ℕ) × (slice_get all i ≡ Some q)

-- some are left of a list of points that are put among others, and the rest is among them
pub record Putting {P : Type 0} (all left old now : List P) : Type 0 where
  pub after : List P
  pub split : all ≡ left ++ after
  pub done : (q : P) → Has after q → IsAmong now (length now) q
  pub grows : Grows (Has all) old now

module _ {P : Type 0} where
  pub putting-first : (all old : List P) → Putting all all old old
  putting-first all old = record { after = []; split = sym (append-nil all); done = λ q h. absurd (nothing h.0 q h.1); grows = Grows-refl (Has all) old }
    where
      nothing : (i : ℕ) (q : P) → slice_get [] i ≡ Some q → ⊥
      nothing i q h = cc h

  -- all that were to be put are there, once none is left
  pub putting-last : (all left old now : List P) → Putting all left old now → length left ≡ 0 → (q : P) → Has all q → IsAmong now (length now) q
  putting-last all [] old now p none q h = p.done q (h.0, subst (λ l. slice_get l h.0 ≡ Some q) p.split h.1)
  putting-last all (x ∷ left) old now p none q h = absurd (omega (arith, none))

  -- what is put is one of them
  pub putting-has : (all left rest old now : List P) (x : P) → Putting all left old now → left ≡ rest ++ x ∷ [] → Has all x
  putting-has all left rest old now x p is =
      let whole : all ≡ rest ++ x ∷ p.after = p.split ∙ ap (λ l. l ++ p.after) is ∙ append_assoc rest (x ∷ []) p.after in
      (length rest, subst (λ l. slice_get l (length rest) ≡ Some x) (sym whole) (slice_get-mid rest p.after x))

  among_last : (now : List P) (x : P) → IsAmong (now ++ x ∷ []) (length (now ++ x ∷ [])) x
  among_last now x = record { place = length now; below = omega (arith, length-append now (x ∷ [])); there = slice_get-mid now [] x }

  first_is : (x : P) (xs : List P) (i : ℕ) (q : P) → slice_get (x ∷ xs) i ≡ Some q → (q ≡ x) ⊎ Has xs q
  first_is x xs zero q h = inl cc
  first_is x xs (suc i) q h = inr (i, h)

  put : (all left rest old now now' : List P) (x : P) → Putting all left old now → left ≡ rest ++ x ∷ [] → IsAmong now' (length now') x → Grows (λ y. y ≡ x) now now' → Grows (Has all) old now' → Putting all rest old now'
  put all left rest old now now' x p is there kept grows = record {
    after = x ∷ p.after;
    split = p.split ∙ ap (λ l. l ++ p.after) is ∙ append_assoc rest (x ∷ []) p.after;
    done = λ q h. elim (first_is x p.after h.0 q h.1) [
      | inl e ↦ subst (IsAmong now' (length now')) (sym e) there
      | inr h' ↦ IsAmong-grows (λ y. y ≡ x) now now' q kept (p.done q h')
    ];
    grows = grows;
  }

  pub putting-next : (all left rest old now : List P) (parents : List ℕ) (x : P) (at : ℕ) (now' : List P) (parents' : List ℕ) → Putting all left old now → left ≡ rest ++ x ∷ [] → Adds x at now parents now' parents'
      → Putting all rest old now'
  putting-next all left rest old now parents x at now' parents' p is (is_there a) = put all left rest old now now' x p is a (Grows-refl (λ y. y ≡ x) now) p.grows
  putting-next all left rest old now parents x at now' parents' p is (is_new fresh) =
      put all left rest old now now' x p is (among_last now x) (Grows-push (λ y. y ≡ x) now now x (Grows-refl (λ y. y ≡ x) now) refl) (Grows-push (Has all) old now x p.grows (putting-has all left rest old now x p is))
