-- Since when a device isn't Active.
use Rattle.std.proofs.Common.{ℕ, ◌≡◌, ◌+◌, ◌<◌, ◌≤◌, Bool, true, false, not, ◌&&◌, ◌||◌, [], ◌∷◌, length, nat_le, if◌then◌else◌, ap, refl, sym, ◌∙◌, arith}
use Rattle.std.proofs.lemmas.Bool.{le-leb, leb-false, leb-true, lt-leb}
use Rattle.pm_base.specs.declared.DevId.{DevId}
use Rattle.pm_model.specs.Counted.{status_of}
use Rattle.pm_model.specs.Derived.{is_active_status}
use Rattle.pm_model.specs.History.{History}
use Rattle.pm_find.specs.findings.Said.{left_line, was_on}
use Rattle.pm_find.proofs.findings.KnownLemmas.{left_now}

off : (b w : Bool) → (b && false) || w ≡ w
off true w = refl
off false w = refl

-- one line more, where the device is Active or not before it and after it
one_more : (now before w : Bool) (n l from last : ℕ) → from ≤ n + 1 → l ≤ n → (from ≤ n → not w ≡ (not before && nat_le l from)) → (n < from → w ≡ false)
    → last ≡ (if before && not now then n + 1 else l) → not ((nat_le from (n + 1) && now) || w) ≡ (not now && nat_le last from)
one_more true before w n l from last within least was none is = ap (λ b. not ((b && true) || w)) (le-leb from (n + 1) within)
one_more false true w n l from last within least was none is = ap not (off (nat_le from (n + 1)) w) ∙ go (nat_le from n) refl ∙ ap (λ m. nat_le m from) (sym is)
  where
    go : (b : Bool) → nat_le from n ≡ b → not w ≡ nat_le (n + 1) from
    go true e = was (leb-true from n e) ∙ sym (lt-leb (n + 1) from (omega (arith, leb-true from n e)))
    go false e = ap not (none (leb-false from n e)) ∙ sym (le-leb (n + 1) from (omega (arith, leb-false from n e)))
one_more false false w n l from last within least was none is = ap not (off (nat_le from (n + 1)) w) ∙ go (nat_le from n) refl ∙ ap (λ m. nat_le m from) (sym is)
  where
    go : (b : Bool) → nat_le from n ≡ b → not w ≡ nat_le l from
    go true e = was (leb-true from n e)
    go false e = ap not (none (leb-false from n e)) ∙ sym (le-leb l from (omega (arith, leb-false from n e)))

left_within : (h : History) (d : DevId) → left_line h d ≤ length h
left_within [] d = omega arith
left_within (line ∷ h) d = go (is_active_status (status_of h d) && not (is_active_status (status_of (line ∷ h) d))) (left_now line h d) (left_within h d)
  where
    go : (b : Bool) → left_line (line ∷ h) d ≡ (if b then length h + 1 else left_line h d) → left_line h d ≤ length h → left_line (line ∷ h) d ≤ length (line ∷ h)
    go true is before = omega arith
    go false is before = omega arith

beyond : (h : History) (d : DevId) (from : ℕ) → length h < from → was_on from h d ≡ false
beyond [] d from past = refl
beyond (line ∷ h) d from past =
    ap (λ b. (b && is_active_status (status_of (line ∷ h) d)) || was_on from h d) (lt-leb from (length h + 1) (omega arith)) ∙ beyond h d from (omega arith)

pub since : (h : History) (d : DevId) (from : ℕ) → 0 < from → from ≤ length h → not (was_on from h d) ≡ (not (is_active_status (status_of h d)) && nat_le (left_line h d) from)
since [] d from some within = absurd (omega arith)
since (line ∷ h) d from some within =
    one_more (is_active_status (status_of (line ∷ h) d)) (is_active_status (status_of h d)) (was_on from h d) (length h) (left_line h d) from (left_line (line ∷ h) d) (omega arith) (left_within h d)
    (since h d from some) (beyond h d from) (left_now line h d)
