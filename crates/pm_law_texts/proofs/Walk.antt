-- Line by line, the front of bytes is lawful text until a first bad line is found.
use Rattle.std.proofs.Common.{ℕ, zero, suc, ◌≡◌, ◌<◌, ◌⊎◌, inl, inr, Bool, true, false, List, [], ◌∷◌, ◌++◌, codes, length, nat_eq, nat_lt, if◌then◌else◌, ap, refl, sym, subst, ◌∙◌, arith}
use Rattle.std.specs.List.{starts_with}
use Rattle.std.proofs.lemmas.Bool.{and_parts, eqb-true, not-true}
use Rattle.std.proofs.lemmas.Bool.Decides.{nat_tests}
use Rattle.pm_model.specs.declared.plan.Plan.{Plan}
use Rattle.pm_model.specs.FirstBad.{IsFirstBad, IsLawfulText, first_lines, front, is_format2}
use Rattle.pm_model.specs.NoWhy.{IsCut, IsPiece, is_within_line}
use Rattle.pm_model.specs.Spelling.{newline}
use Rattle.pm_law_texts.proofs.OneLine.{is_inside}
use Rattle.pm_law_texts.proofs.Bytes.{IsWhole, Next, all_lines, cut_not_whole, nothing, piece, rest}
use Rattle.pm_law_texts.proofs.Deciding.{next_decided}
use Rattle.pm_law_texts.proofs.Lawfulness.{IsLawfulIn, extended, extends, front_lawful, front_next, in_format, lawful_text, lawful_whole}

pub sorted :
    (bytes : List ℕ) (n : ℕ)
    → (front (suc n) bytes ≡ front n bytes) ⊎ (((p : List ℕ) × IsPiece bytes (suc n) p) ⊎ ((r : List ℕ) × IsCut bytes (suc n) r))
sorted bytes n = go (front_next bytes n)
  where
    go : Next (front n bytes) (front (suc n) bytes) → (front (suc n) bytes ≡ front n bytes) ⊎ (((p : List ℕ) × IsPiece bytes (suc n) p) ⊎ ((r : List ℕ) × IsCut bytes (suc n) r))
    go (nothing e) = inl e
    go (piece p clean e) = inr (inl (p, (clean, e)))
    go (rest r clean some e) = inr (inr (r, (clean, some, e)))

-- the first n lines are lawful text, and so is each front before
record IsGood (plan : Plan) (bytes : List ℕ) (n : ℕ) : Type 0 where
  here : IsLawfulIn (is_format2 bytes) plan (front n bytes)
  good : (k : ℕ) → k < suc n → IsLawfulText plan (front k bytes)

-- the first line of bytes that begin with a line
first_begun : (w bytes : List ℕ) → is_within_line w ≡ true → starts_with nat_eq bytes (w ++ newline) ≡ true → first_lines 1 bytes ≡ w ++ newline
first_begun [] [] clean e = cc
first_begun [] (b ∷ bytes) clean e =
    let same : 10 ≡ b = eqb-true 10 b (and_parts (nat_eq 10 b) true e).0 in
    let P : ℕ → Type 0 = λ x. first_lines 1 (x ∷ bytes) ≡ newline in
    subst P same refl
first_begun (c ∷ w) [] clean e = cc
first_begun (c ∷ w) (b ∷ bytes) clean e =
    let parts = and_parts (nat_eq c b) (starts_with nat_eq bytes (w ++ newline)) e in
    let within = and_parts (is_inside c) (is_within_line w) clean in
    let same : c ≡ b = eqb-true c b parts.0 in
    let differ : nat_eq b 10 ≡ false = ap (λ x. nat_eq x 10) (sym same) ∙ not-true (nat_eq c 10) within.0 in
    let behind = first_begun w bytes within.1 parts.1 in
    rw differ (ap (λ x. b ∷ x) behind ∙ ap (λ x. x ∷ (w ++ newline)) (sym same))

start : (plan : Plan) (bytes : List ℕ) → IsLawfulIn (is_format2 bytes) plan (front 0 bytes)
start plan bytes = go (is_format2 bytes) refl
  where
    go : (f : Bool) → is_format2 bytes ≡ f → IsLawfulIn f plan (first_lines (if f then 1 else 0) bytes)
    go true e = record { h = []; lawful = tt; text = (refl, tt, first_begun (codes "pm_trace 2") bytes refl e) }
    go false e = record { h = []; lawful = tt; text = (refl, tt, refl) }

below : (plan : Plan) (bytes : List ℕ) (n k : ℕ) → k < suc (suc n) → ((j : ℕ) → j < suc n → IsLawfulText plan (front j bytes)) → IsLawfulText plan (front (suc n) bytes) → IsLawfulText plan (front k bytes)
below plan bytes n k less good last = go (nat_eq k (suc n)) refl
  where
    go : (b : Bool) → nat_eq k (suc n) ≡ b → IsLawfulText plan (front k bytes)
    go true e = let P : ℕ → Type 0 = λ j. IsLawfulText plan (front j bytes) in subst P (sym (eqb-true k (suc n) e)) last
    go false e = good k (grind (arith, nat_tests))

one_line_on : (plan : Plan) (bytes : List ℕ) (n : ℕ) → IsGood plan bytes n → IsLawfulIn (is_format2 bytes) plan (front (suc n) bytes) → IsGood plan bytes (suc n)
one_line_on plan bytes n so_far here = record {
  here = here;
  good = λ k less. below plan bytes n k less so_far.good (lawful_text (is_format2 bytes) plan (front (suc n) bytes) here);
}

is_first_bad : (plan : Plan) (bytes : List ℕ) (n : ℕ) → IsGood plan bytes n → (IsLawfulText plan (front (suc n) bytes) → ⊥) → IsFirstBad plan bytes (suc n)
is_first_bad plan bytes n so_far bad = record { some = omega arith; bad = bad; good = so_far.good }

next_good : (plan : Plan) (bytes : List ℕ) (n : ℕ) → IsGood plan bytes n → IsGood plan bytes (suc n) ⊎ IsFirstBad plan bytes (suc n)
next_good plan bytes n so_far = go (front_next bytes n)
  where
    go : Next (front n bytes) (front (suc n) bytes) → IsGood plan bytes (suc n) ⊎ IsFirstBad plan bytes (suc n)
    go (nothing e) = inl (one_line_on plan bytes n so_far (let P : List ℕ → Type 0 = λ x. IsLawfulIn (is_format2 bytes) plan x in subst P (sym e) so_far.here))
    go (rest r clean some e) = inr (is_first_bad plan bytes n so_far (λ found.
        cut_not_whole (front n bytes) r clean some (let P : List ℕ → Type 0 = λ x. IsWhole x in subst P e (lawful_whole plan (front (suc n) bytes) found))))
    go (piece p clean e) =
        let h = so_far.here.h in
        let text = so_far.here.text in
        elim (next_decided (is_format2 bytes) plan h p text.0) as (λ _. IsGood plan bytes (suc n) ⊎ IsFirstBad plan bytes (suc n)) [
          | inl next ↦
              let more = extends (is_format2 bytes) plan (front n bytes) p h so_far.here.lawful text next in
              inl (one_line_on plan bytes n so_far (let P : List ℕ → Type 0 = λ x. IsLawfulIn (is_format2 bytes) plan x in subst P (sym e) more))
          | inr never ↦
              inr (is_first_bad plan bytes n so_far (λ found.
              let P : List ℕ → Type 0 = λ x. IsLawfulIn (is_format2 bytes) plan x in
              never (extended (is_format2 bytes) plan (front n bytes) p h text clean (subst P e (in_format plan bytes (suc n) found)))))
        ]

walk : (plan : Plan) (bytes : List ℕ) (n : ℕ) → IsGood plan bytes n ⊎ ((m : ℕ) × IsFirstBad plan bytes m)
walk plan bytes zero =
    let here = start plan bytes in
    inl (record { here = here; good = λ k less. let none : k ≡ 0 = omega arith in let P : ℕ → Type 0 = λ j. IsLawfulText plan (front j bytes) in subst P (sym none) (lawful_text (is_format2 bytes) plan (front 0 bytes) here) })
walk plan bytes (suc n) =
    elim (walk plan bytes n) as (λ _. IsGood plan bytes (suc n) ⊎ ((m : ℕ) × IsFirstBad plan bytes m)) [
      | inl so_far ↦
          elim (next_good plan bytes n so_far) as (λ _. IsGood plan bytes (suc n) ⊎ ((m : ℕ) × IsFirstBad plan bytes m)) [
            | inl good ↦ inl good
            | inr bad ↦ inr (suc n, bad)
          ]
      | inr found ↦ inr found
    ]

whole_front : (bytes : List ℕ) → front (length bytes) bytes ≡ bytes
whole_front bytes = go (is_format2 bytes)
  where
    go : (f : Bool) → first_lines (if f then suc (length bytes) else length bytes) bytes ≡ bytes
    go true = all_lines bytes (suc (length bytes)) (omega arith)
    go false = all_lines bytes (length bytes) (omega arith)

pub decided : (plan : Plan) (bytes : List ℕ) → IsLawfulText plan bytes ⊎ ((n : ℕ) × IsFirstBad plan bytes n)
decided plan bytes =
    elim (walk plan bytes (length bytes)) as (λ _. IsLawfulText plan bytes ⊎ ((n : ℕ) × IsFirstBad plan bytes n)) [
      | inl so_far ↦
          let P : List ℕ → Type 0 = λ x. IsLawfulText plan x in
          inl (subst P (whole_front bytes) (lawful_text (is_format2 bytes) plan (front (length bytes) bytes) so_far.here))
      | inr found ↦ inr found
    ]

pub not_both : (plan : Plan) (bytes : List ℕ) (n : ℕ) → IsLawfulText plan bytes → IsFirstBad plan bytes n → ⊥
not_both plan bytes n found bad = bad.bad (front_lawful plan bytes found n)

pub none_lawful : (plan : Plan) (bytes : List ℕ) → IsLawfulText plan (front 0 bytes)
none_lawful plan bytes = lawful_text (is_format2 bytes) plan (front 0 bytes) (start plan bytes)

pub only_bad : (plan : Plan) (bytes : List ℕ) (n m : ℕ) → IsFirstBad plan bytes n → IsFirstBad plan bytes m → n ≡ m
only_bad plan bytes n m n_is m_is = go (nat_lt n m) refl (nat_lt m n) refl
  where
    go : (b : Bool) → nat_lt n m ≡ b → (c : Bool) → nat_lt m n ≡ c → n ≡ m
    go true less c e = absurd (n_is.bad (m_is.good n (grind (arith, nat_tests))))
    go false e true less = absurd (m_is.bad (n_is.good m (grind (arith, nat_tests))))
    go false e false f = grind (arith, nat_tests)
