-- Bytes that are cut at their newlines.
use Rattle.std.proofs.Common.{ℕ, zero, suc, ◌≡◌, ◌≢◌, ◌≤◌, ◌⊎◌, inl, inr, Bool, true, false, not, List, [], ◌∷◌, ◌++◌, length, nat_eq, reverse, if◌then◌else◌, ap, refl, sym, ◌∙◌, arith}
use Rattle.std.proofs.lemmas.Bool.{and_from, and_parts, eqb-true, not-true}
use Rattle.std.proofs.lemmas.List.{reverse-append, append_assoc, append_cancel_right, reverse-reverse}
use Rattle.std.proofs.lemmas.List.Folds.{list_all-append}
use Rattle.pm_model.specs.FirstBad.{first_lines}
use Rattle.pm_model.specs.NoWhy.{is_within_line}
use Rattle.pm_model.specs.Spelling.{newline}
use Rattle.pm_law_texts.proofs.OneLine.{is_inside}

-- bytes, the last first, that are none or end a line
abbrev pub EndsLine : List ℕ → Type 0
EndsLine [] = Unit {0}
EndsLine (b ∷ bytes) = b ≡ 10

-- whole lines
abbrev pub IsWhole : List ℕ → Type 0
IsWhole bytes = EndsLine (reverse bytes)

clash : (c : ℕ) (q r : List ℕ) → is_inside c ≡ true → EndsLine r → r ≡ c ∷ q → ⊥
clash c q [] in_line ends e = cc
clash c q (b ∷ r) in_line ends e =
    let same : c ≡ 10 = cc in
    let no : is_inside 10 ≡ true = cc in
    cc

split_front :
    (p q r s : List ℕ) → is_within_line p ≡ true → is_within_line q ≡ true → EndsLine r → EndsLine s → p ++ r ≡ q ++ s
    → (p ≡ q) × (r ≡ s)
split_front [] [] r s cp cq er es e = (refl, e)
split_front [] (c ∷ q) r s cp cq er es e = absurd (clash c (q ++ s) r (and_parts (is_inside c) (is_within_line q) cq).0 er e)
split_front (c ∷ p) [] r s cp cq er es e = absurd (clash c (p ++ r) s (and_parts (is_inside c) (is_within_line p) cp).0 es (sym e))
split_front (b ∷ p) (c ∷ q) r s cp cq er es e =
    let head : b ≡ c = cc in
    let tail : p ++ r ≡ q ++ s = cc in
    let rest = split_front p q r s (and_parts (is_inside b) (is_within_line p) cp).1 (and_parts (is_inside c) (is_within_line q) cq).1 er es tail in
    let front : p ≡ q = rest.0 in
    (cc, rest.1)

reverse_cons : (x : ℕ) (xs : List ℕ) → reverse (x ∷ xs) ≡ reverse xs ++ (x ∷ [])
reverse_cons x xs = reverse-append (x ∷ []) xs

reverse_clean : (p : List ℕ) → is_within_line p ≡ true → is_within_line (reverse p) ≡ true
reverse_clean [] c = refl
reverse_clean (x ∷ p) c =
    let parts = and_parts (is_inside x) (is_within_line p) c in
    let one : is_within_line (x ∷ []) ≡ true = and_from (is_inside x) true parts.0 refl in
    rw (reverse_cons x p) (list_all-append is_inside (reverse p) (x ∷ []) ∙ and_from (is_within_line (reverse p)) (is_within_line (x ∷ [])) (reverse_clean p parts.1) one)

-- whole lines and one more are split in one way
pub split_last :
    (b p c q : List ℕ) → IsWhole b → IsWhole c → is_within_line p ≡ true → is_within_line q ≡ true
    → b ++ (p ++ newline) ≡ c ++ (q ++ newline) → (b ≡ c) × (p ≡ q)
split_last b p c q wb wc cp cq e =
    let ends : (b ++ p) ++ newline ≡ (c ++ q) ++ newline = append_assoc b p newline ∙ (e ∙ sym (append_assoc c q newline)) in
    let bodies : b ++ p ≡ c ++ q = append_cancel_right (b ++ p) (c ++ q) newline ends in
    let turned : reverse p ++ reverse b ≡ reverse q ++ reverse c = sym (reverse-append b p) ∙ (ap (λ x. reverse x) bodies ∙ reverse-append c q) in
    let parts = split_front (reverse p) (reverse q) (reverse b) (reverse c) (reverse_clean p cp) (reverse_clean q cq) wb wc turned in (
      sym (reverse-reverse b) ∙ (ap (λ x. reverse x) parts.1 ∙ reverse-reverse c),
      sym (reverse-reverse p) ∙ (ap (λ x. reverse x) parts.0 ∙ reverse-reverse q),
    )

pub append_none : (x : List ℕ) → x ++ [] ≡ x
append_none [] = refl
append_none (b ∷ x) = ap (λ y. b ∷ y) (append_none x)

pub whole_end : (x t : List ℕ) → IsWhole (x ++ (t ++ newline))
whole_end x t =
    let outer = reverse-append x (t ++ newline) in
    let inner = reverse-append t newline in
    rw (outer, inner) refl

pub none_empty : (b p : List ℕ) → b ++ (p ++ newline) ≡ [] → ⊥
none_empty [] [] e = cc
none_empty [] (c ∷ p) e = cc
none_empty (c ∷ b) p e = cc

-- a rest with no newline, behind whole lines or not, ends no line
ends_inside : (r s : List ℕ) → is_within_line r ≡ true → r ≢ [] → EndsLine (r ++ s) → ⊥
ends_inside [] s clean some ends = some refl
ends_inside (c ∷ r) s clean some ends = clash c [] (10 ∷ []) (and_parts (is_inside c) (is_within_line r) clean).0 refl (ap (λ b. b ∷ []) (sym ends))

some_reversed : (r : List ℕ) → r ≢ [] → reverse r ≢ []
some_reversed r some none = some (sym (reverse-reverse r) ∙ ap (λ x. reverse x) none)

pub cut_not_whole : (b r : List ℕ) → is_within_line r ≡ true → r ≢ [] → IsWhole (b ++ r) → ⊥
cut_not_whole b r clean some whole =
    let turned : reverse (b ++ r) ≡ reverse r ++ reverse b = reverse-append b r in
    ends_inside (reverse r) (reverse b) (reverse_clean r clean) (some_reversed r some) (rw turned at whole)

-- no more lines
pub none_left : (n : ℕ) → first_lines n [] ≡ []
none_left zero = refl
none_left (suc n) = refl

pub first_piece : (n : ℕ) (p rest : List ℕ) → is_within_line p ≡ true → first_lines (suc n) (p ++ (10 ∷ rest)) ≡ p ++ (10 ∷ first_lines n rest)
first_piece n [] rest c = refl
first_piece n (b ∷ p) rest c =
    let parts = and_parts (is_inside b) (is_within_line p) c in
    let differ : nat_eq b 10 ≡ false = not-true (nat_eq b 10) parts.0 in
    rw differ (ap (λ x. b ∷ x) (first_piece n p rest parts.1))

pub one_piece : (n : ℕ) (p : List ℕ) → is_within_line p ≡ true → first_lines (suc n) (p ++ newline) ≡ p ++ newline
one_piece n p c = first_piece n p [] c ∙ ap (λ x. p ++ (10 ∷ x)) (none_left n)

pub one_cut : (r : List ℕ) → is_within_line r ≡ true → first_lines 1 r ≡ r
one_cut [] c = refl
one_cut (b ∷ r) c =
    let parts = and_parts (is_inside b) (is_within_line r) c in
    let differ : nat_eq b 10 ≡ false = not-true (nat_eq b 10) parts.0 in
    rw differ (ap (λ x. b ∷ x) (one_cut r parts.1))

-- The first lines of bytes with one more line are first lines of the bytes, or all.
pub front_or_all :
    (n : ℕ) (b p : List ℕ) → is_within_line p ≡ true
    → (first_lines n (b ++ (p ++ newline)) ≡ first_lines n b) ⊎ (first_lines n (b ++ (p ++ newline)) ≡ b ++ (p ++ newline))
front_or_all zero b p c = inl refl
front_or_all (suc n) [] p c = inr (one_piece n p c)
front_or_all (suc n) (x ∷ b) p c = go (nat_eq x 10) (front_or_all n b p c) (front_or_all (suc n) b p c)
  where
    go :
        (is : Bool)
        → (first_lines n (b ++ (p ++ newline)) ≡ first_lines n b) ⊎ (first_lines n (b ++ (p ++ newline)) ≡ b ++ (p ++ newline))
        → (first_lines (suc n) (b ++ (p ++ newline)) ≡ first_lines (suc n) b) ⊎ (first_lines (suc n) (b ++ (p ++ newline)) ≡ b ++ (p ++ newline))
        → (x ∷ (if is then first_lines n (b ++ (p ++ newline)) else first_lines (suc n) (b ++ (p ++ newline))) ≡ x ∷ (if is then first_lines n b else first_lines (suc n) b))
        ⊎ (x ∷ (if is then first_lines n (b ++ (p ++ newline)) else first_lines (suc n) (b ++ (p ++ newline))) ≡ x ∷ (b ++ (p ++ newline)))
    go true (inl e) other = inl (ap (λ y. x ∷ y) e)
    go true (inr e) other = inr (ap (λ y. x ∷ y) e)
    go false other (inl e) = inl (ap (λ y. x ∷ y) e)
    go false other (inr e) = inr (ap (λ y. x ∷ y) e)

-- What one more line adds to the first ones: nothing, a piece with its newline, or a rest that is cut.
pub data Next (before after : List ℕ) : Type 0 where
  nothing : after ≡ before → Next before after
  piece : (p : List ℕ) → is_within_line p ≡ true → after ≡ before ++ (p ++ newline) → Next before after
  rest : (r : List ℕ) → is_within_line r ≡ true → r ≢ [] → after ≡ before ++ r → Next before after

behind : (x : ℕ) (before after : List ℕ) → Next before after → Next (x ∷ before) (x ∷ after)
behind x before after (nothing e) = nothing (ap (λ y. x ∷ y) e)
behind x before after (piece p c e) = piece p c (ap (λ y. x ∷ y) e)
behind x before after (rest r c s e) = rest r c s (ap (λ y. x ∷ y) e)

longer : (x : ℕ) (after : List ℕ) → is_inside x ≡ true → Next [] after → Next [] (x ∷ after)
longer x after in_line (nothing e) = rest (x ∷ []) (and_from (is_inside x) true in_line refl) (λ no. cc) (ap (λ y. x ∷ y) e)
longer x after in_line (piece p c e) = piece (x ∷ p) (and_from (is_inside x) (is_within_line p) in_line c) (ap (λ y. x ∷ y) e)
longer x after in_line (rest r c s e) = rest (x ∷ r) (and_from (is_inside x) (is_within_line r) in_line c) (λ no. cc) (ap (λ y. x ∷ y) e)

pub next_line : (n : ℕ) (bytes : List ℕ) → Next (first_lines n bytes) (first_lines (suc n) bytes)
next_line zero [] = nothing refl
next_line zero (x ∷ bytes) = go (nat_eq x 10) refl (next_line zero bytes)
  where
    go : (is : Bool) → nat_eq x 10 ≡ is → Next [] (first_lines 1 bytes) → Next [] (x ∷ (if is then [] else first_lines 1 bytes))
    go true e more = piece [] refl (ap (λ y. y ∷ []) (eqb-true x 10 e))
    go false e more = longer x (first_lines 1 bytes) (ap (λ b. not b) e) more
next_line (suc n) [] = nothing refl
next_line (suc n) (x ∷ bytes) = go (nat_eq x 10) (next_line n bytes) (next_line (suc n) bytes)
  where
    go :
        (is : Bool) → Next (first_lines n bytes) (first_lines (suc n) bytes) → Next (first_lines (suc n) bytes) (first_lines (suc (suc n)) bytes)
        → Next (x ∷ (if is then first_lines n bytes else first_lines (suc n) bytes)) (x ∷ (if is then first_lines (suc n) bytes else first_lines (suc (suc n)) bytes))
    go true one more = behind x _ _ one
    go false one more = behind x _ _ more

-- as many lines as bytes are all
pub all_lines : (bytes : List ℕ) (n : ℕ) → length bytes ≤ n → first_lines n bytes ≡ bytes
all_lines [] n enough = none_left n
all_lines (x ∷ bytes) zero enough = absurd (omega arith)
all_lines (x ∷ bytes) (suc n) enough =
    go (nat_eq x 10) (all_lines bytes n (omega arith)) (all_lines bytes (suc n) (omega arith))
  where
    go : (is : Bool) → first_lines n bytes ≡ bytes → first_lines (suc n) bytes ≡ bytes → x ∷ (if is then first_lines n bytes else first_lines (suc n) bytes) ≡ x ∷ bytes
    go true one more = ap (λ y. x ∷ y) one
    go false one more = ap (λ y. x ∷ y) more
