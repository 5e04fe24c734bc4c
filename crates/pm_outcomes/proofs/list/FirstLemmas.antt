-- One more that is seen.
use Rattle.std.proofs.Common.{◌≡◌, ℕ, zero, suc, ◌≤◌, Bool, true, false, List, [], ◌∷◌, ◌++◌, Some, None, length, slice_get, refl, sym, ◌∙◌, ap, subst, inl, inr, arith, cond, Contains}
use Rattle.std.proofs.lemmas.List.Elements.{Contains-append_left, Contains-push, Contains-push_cases}
use Rattle.std.proofs.lemmas.Map.Entries.{place_from_lookup}
use Rattle.std.specs.Map.{lookup}
use Rattle.pm_explore.proofs.search.Lists.{slice_get-left, slice_get-mid, slice_get-push}
use Rattle.pm_outcomes.specs.list.Firsts.{AreFirsts, IsUpTo}

module _ {M : Type 0} (eq : M → M → Bool) (same : (x y : M) → eq x y ≡ true → x ≡ y) (itself : (x : M) → eq x x ≡ true) where
  -- what isn't found isn't there
  absent : (es : List (M × ℕ)) (m : M) → lookup (eq m) es ≡ None → (i p : ℕ) → slice_get es i ≡ Some (m, p) → ⊥
  absent [] m none i p there = cc there
  absent (e ∷ es) m none zero p there =
      let is : e ≡ (m, p) = cc there in
      let is_0 : e.0 ≡ m = ap (λ z. z.0) is in
      let found : lookup (eq m) (e ∷ es) ≡ Some e.1 = ap (λ b. cond b (Some e.1) (lookup (eq m) es)) (ap (eq m) is_0 ∙ itself m) in
      cc (none, found)
  absent (e ∷ es) m none (suc i) p there = by (eq m e.0) refl (λ rest. absent es m rest i p there)
    where
      by : (b : Bool) → eq m e.0 ≡ b → (lookup (eq m) es ≡ None → ⊥) → ⊥
      by true is further = let found : lookup (eq m) (e ∷ es) ≡ Some e.1 = ap (λ b. cond b (Some e.1) (lookup (eq m) es)) is in cc (none, found)
      by false is further = let rest : lookup (eq m) (e ∷ es) ≡ lookup (eq m) es = ap (λ b. cond b (Some e.1) (lookup (eq m) es)) is in further (sym rest ∙ none)

  -- it is seen again
  pub note_again : (seen es : List (M × ℕ)) (m : M) (place first : ℕ) → lookup (eq m) es ≡ Some first → IsUpTo place seen → AreFirsts seen es → AreFirsts (seen ++ (m, place) ∷ []) es
  note_again seen es m place first found up_to r = record {
    seen_there = λ i n p there. Contains-append_left seen ((m, place) ∷ []) (n, p) (r.seen_there i n p there);
    all = λ n p has. elim (Contains-push_cases seen (m, place) (n, p) has) [
      | inl old ↦ r.all n p old
      | inr is ↦
          let stored = place_from_lookup (eq m) es first found in
          let is_m : stored.1 ≡ m = sym (same m stored.1 stored.3) in
          let there : slice_get es stored.0 ≡ Some (m, first) = subst (λ z. slice_get es stored.0 ≡ Some (z, first)) is_m stored.2 in
          let early : first ≤ place = up_to m first (r.seen_there stored.0 m first there) in
          let at_m : m ≡ n = ap (λ z. z.0) is in
          let at_p : place ≡ p = ap (λ z. z.1) is in
          record { at = stored.0; first = first; there = subst (λ z. slice_get es stored.0 ≡ Some (z, first)) at_m there; by = omega (arith, early, at_p) }
    ];
    once = r.once;
  }

  -- it is seen for the first time
  pub note_new : (seen es : List (M × ℕ)) (m : M) (place : ℕ) → lookup (eq m) es ≡ None → AreFirsts seen es → AreFirsts (seen ++ (m, place) ∷ []) (es ++ (m, place) ∷ [])
  note_new seen es m place none r = record {
    seen_there = λ i n p there. elim (slice_get-push es (m, place) i (n, p) there) [
      | inl old ↦ Contains-append_left seen ((m, place) ∷ []) (n, p) (r.seen_there i n p old)
      | inr is ↦ subst (Contains (seen ++ (m, place) ∷ [])) (sym is.1) (Contains-push seen (m, place))
    ];
    all = λ n p has. elim (Contains-push_cases seen (m, place) (n, p) has) [
      | inl old ↦ let f = r.all n p old in record { at = f.at; first = f.first; there = slice_get-left es ((m, place) ∷ []) f.at (n, f.first) f.there; by = f.by }
      | inr is ↦ record { at = length es; first = place; there = subst (λ z. slice_get (es ++ (m, place) ∷ []) (length es) ≡ Some (z, place)) (ap (λ z. z.0) is) (slice_get-mid es [] (m, place)); by = omega (arith, ap (λ z. z.1) is) }
    ];
    once = λ i j n p q one other. elim (slice_get-push es (m, place) i (n, p) one) [
      | inl a ↦ elim (slice_get-push es (m, place) j (n, q) other) [
        | inl b ↦ r.once i j n p q a b
        | inr b ↦ absurd (absent es m none i p (subst (λ z. slice_get es i ≡ Some (z, p)) (ap (λ z. z.0) b.1) a))
      ]
      | inr a ↦ elim (slice_get-push es (m, place) j (n, q) other) [
        | inl b ↦ absurd (absent es m none j q (subst (λ z. slice_get es j ≡ Some (z, q)) (ap (λ z. z.0) a.1) b))
        | inr b ↦ a.0 ∙ sym b.0
      ]
    ];
  }
