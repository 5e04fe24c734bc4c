-- Bytes with one more line are lawful text exactly where the line may come next; and the front of lawful text is lawful.
use Rattle.std.proofs.Common.{ℕ, zero, suc, ◌≡◌, ◌<◌, inl, inr, Bool, true, false, List, [], ◌∷◌, ◌++◌, codes, length, nat_eq, if◌then◌else◌, ap, refl, sym, subst, ◌∙◌}
use Rattle.std.specs.List.{starts_with}
use Rattle.std.proofs.lemmas.Bool.{and_parts, eqb-true, not-true}
use Rattle.pm_model.specs.declared.event.Line.{Line}
use Rattle.pm_model.specs.declared.plan.Plan.{Plan}
use Rattle.pm_model.specs.FirstBad.{IsLawfulText, first_lines, front, is_format2}
use Rattle.pm_model.specs.Lawful.{IsLawful, Permits, last_time}
use Rattle.pm_model.specs.NoWhy.{is_within_line}
use Rattle.pm_model.specs.Spelling.{newline}
use Rattle.pm_model.specs.Text.{IsTextBehind}
use Rattle.pm_law_texts.specs.Next.{IsNext}
use Rattle.pm_law_texts.proofs.OneLine.{is_inside}
use Rattle.pm_law_texts.proofs.Bytes.{IsWhole, Next, front_or_all, next_line, none_left, one_piece}
use Rattle.pm_law_texts.proofs.Formats.{IsTextIn, in_line, line_in, no_lines, one_list, one_more, split_text, stands_for, text_before, text_by_format, text_in, text_more, text_whole, last_spelled}

pub record IsLawfulIn (f : Bool) (plan : Plan) (bytes : List ℕ) : Type 0 where
  pub h : List Line
  pub lawful : IsLawful plan h
  pub text : IsTextIn f plan bytes h

pub lawful_in : (plan : Plan) (bytes : List ℕ) → IsLawfulText plan bytes → IsLawfulIn (is_format2 bytes) plan bytes
lawful_in plan bytes (h, lawful, stands) = record { h = h; lawful = lawful; text = text_by_format plan bytes h stands }

pub lawful_text : (f : Bool) (plan : Plan) (bytes : List ℕ) → IsLawfulIn f plan bytes → IsLawfulText plan bytes
lawful_text f plan bytes is = (is.h, is.lawful, stands_for f plan bytes is.h is.text)

pub extends :
    (f : Bool) (plan : Plan) (b p : List ℕ) (h : List Line) → IsLawful plan h → IsTextIn f plan b h → IsNext f plan h p
    → IsLawfulIn f plan (b ++ (p ++ newline))
extends f plan b p h lawful text next = record {
  h = next.line ∷ h;
  lawful = (next.permits, next.room, lawful);
  text = text_more f plan b p next.line h text next.spelled;
}

pub extended :
    (f : Bool) (plan : Plan) (b p : List ℕ) (h : List Line) → IsTextIn f plan b h → is_within_line p ≡ true
    → IsLawfulIn f plan (b ++ (p ++ newline)) → IsNext f plan h p
extended f plan b p h text clean found = go found.h found.lawful found.text
  where
    go : (l : List Line) → IsLawful plan l → IsTextIn f plan (b ++ (p ++ newline)) l → IsNext f plan h p
    go [] lawful is = absurd (no_lines f plan h p clean (ap (λ x. x ++ (p ++ newline)) (sym text.2) ∙ is.2))
    go (line ∷ k) lawful is =
        let parts = split_text f plan h k line p clean (ap (λ x. x ++ (p ++ newline)) (sym text.2) ∙ is.2) in
        let before = text_before f plan _ line k is in
        let of_k : IsTextIn f plan b k = (before.0, before.1, text.2 ∙ parts.0) in
        let same : k ≡ h = one_list f plan b k h of_k text in
        let spelled = last_spelled f plan _ line k is in
        let at_k : IsTextBehind f plan (last_time k) line p = (let P : List ℕ → Type 0 = λ q. IsTextBehind f plan (last_time k) line q in subst P (sym parts.1) spelled) in
        record {
          line = line;
          spelled = (let P : List Line → Type 0 = λ l. IsTextBehind f plan (last_time l) line p in subst P same at_k);
          permits = (let P : List Line → Type 0 = λ l. Permits plan l line in subst P same lawful.0);
          room = (let P : List Line → Type 0 = λ l. length l < plan.lines in subst P same lawful.1);
        }

-- lawful text ends a line
pub lawful_whole : (plan : Plan) (bytes : List ℕ) → IsLawfulText plan bytes → IsWhole bytes
lawful_whole plan bytes found =
    let is = lawful_in plan bytes found in
    let same : bytes ≡ text_in (is_format2 bytes) plan is.h = is.text.2 in
    let P : List ℕ → Type 0 = λ x. IsWhole x in
    subst P (sym same) (text_whole (is_format2 bytes) plan is.h)

-- the newlines up to the n-th line of a format
abbrev pub counted : Bool → ℕ → ℕ
counted true n = suc n
counted false n = n

pub front_is : (f : Bool) (bytes : List ℕ) (n : ℕ) → is_format2 bytes ≡ f → front n bytes ≡ first_lines (counted f n) bytes
front_is true bytes n e = rw e refl
front_is false bytes n e = rw e refl

pub front_next : (bytes : List ℕ) (n : ℕ) → Next (front n bytes) (front (suc n) bytes)
front_next bytes n = go (is_format2 bytes)
  where
    go : (b : Bool) → Next (first_lines (if b then suc n else n) bytes) (first_lines (if b then suc (suc n) else suc n) bytes)
    go true = next_line (suc n) bytes
    go false = next_line n bytes

-- a front has the format of the bytes
begun_alike :
    (n : ℕ) (w bytes : List ℕ) → is_within_line w ≡ true
    → starts_with nat_eq (first_lines (suc n) bytes) (w ++ newline) ≡ starts_with nat_eq bytes (w ++ newline)
begun_alike n [] [] clean = refl
begun_alike n [] (b ∷ bytes) clean = refl
begun_alike n (c ∷ w) [] clean = refl
begun_alike n (c ∷ w) (b ∷ bytes) clean = go (begun_alike n w bytes parts.1) (nat_eq c b) refl
  where
    parts : (is_inside c ≡ true) × (is_within_line w ≡ true)
    parts = and_parts (is_inside c) (is_within_line w) clean

    go :
        starts_with nat_eq (first_lines (suc n) bytes) (w ++ newline) ≡ starts_with nat_eq bytes (w ++ newline)
        → (is : Bool) → nat_eq c b ≡ is
        → starts_with nat_eq (first_lines (suc n) (b ∷ bytes)) ((c ∷ w) ++ newline) ≡ starts_with nat_eq (b ∷ bytes) ((c ∷ w) ++ newline)
    go behind false e = rw e refl
    go behind true e =
        let same : c ≡ b = eqb-true c b e in
        let differ : nat_eq b 10 ≡ false = ap (λ x. nat_eq x 10) (sym same) ∙ not-true (nat_eq c 10) parts.0 in
        rw (e, differ) behind

pub front_format : (bytes : List ℕ) (n : ℕ) → is_format2 (front n bytes) ≡ is_format2 bytes
front_format bytes n = go (is_format2 bytes) refl n
  where
    alike : (m : ℕ) → is_format2 (first_lines (suc m) bytes) ≡ is_format2 bytes
    alike m = begun_alike m (codes "pm_trace 2") bytes refl

    go : (b : Bool) → is_format2 bytes ≡ b → (m : ℕ) → is_format2 (first_lines (if b then suc m else m) bytes) ≡ is_format2 bytes
    go true e m = alike m
    go false e zero = sym e
    go false e (suc m) = alike m

pub in_format : (plan : Plan) (bytes : List ℕ) (n : ℕ) → IsLawfulText plan (front n bytes) → IsLawfulIn (is_format2 bytes) plan (front n bytes)
in_format plan bytes n found =
    let P : Bool → Type 0 = λ f. IsLawfulIn f plan (front n bytes) in
    subst P (front_format bytes n) (lawful_in plan (front n bytes) found)

-- the fronts of lawful text
fronts :
    (f : Bool) (plan : Plan) (h : List Line) → IsLawful plan h → IsTextIn f plan (text_in f plan h) h → (n : ℕ)
    → IsLawfulIn f plan (first_lines (counted f n) (text_in f plan h))
fronts true plan [] lawful text n = record { h = []; lawful = tt; text = (refl, tt, one_piece n (codes "pm_trace 2") refl) }
fronts false plan [] lawful text n = record { h = []; lawful = tt; text = (refl, tt, none_left n) }
fronts f plan (line ∷ h) lawful text n =
    let p = line_in f plan (last_time h) line in
    let more : first_lines (counted f n) (text_in f plan (line ∷ h)) ≡ first_lines (counted f n) (text_in f plan h ++ (p ++ newline)) = ap (λ x. first_lines (counted f n) x) (one_more f plan line h) in
    elim (front_or_all (counted f n) (text_in f plan h) p (in_line f plan (last_time h) line)) as (λ _. IsLawfulIn f plan (first_lines (counted f n) (text_in f plan (line ∷ h)))) [
      | inl e ↦
          let found = fronts f plan h lawful.2 (text_before f plan _ line h text) n in
          let P : List ℕ → Type 0 = λ x. IsLawfulIn f plan x in subst P (sym (more ∙ e)) found
      | inr e ↦
          let whole : first_lines (counted f n) (text_in f plan (line ∷ h)) ≡ text_in f plan (line ∷ h) = more ∙ (e ∙ sym (one_more f plan line h)) in
          record { h = line ∷ h; lawful = lawful; text = (text.0, text.1, whole) }
    ]

pub front_lawful : (plan : Plan) (bytes : List ℕ) → IsLawfulText plan bytes → (n : ℕ) → IsLawfulText plan (front n bytes)
front_lawful plan bytes found n = go (is_format2 bytes) refl (lawful_in plan bytes found)
  where
    go : (f : Bool) → is_format2 bytes ≡ f → IsLawfulIn f plan bytes → IsLawfulText plan (front n bytes)
    go f e is =
        let same : bytes ≡ text_in f plan is.h = is.text.2 in
        let found = fronts f plan is.h is.lawful (is.text.0, is.text.1, refl) n in
        let P : List ℕ → Type 0 = λ x. IsLawfulIn f plan (first_lines (counted f n) x) in
        let here : IsLawfulIn f plan (first_lines (counted f n) bytes) = subst P (sym same) found in
        let Q : List ℕ → Type 0 = λ x. IsLawfulIn f plan x in
        lawful_text f plan (front n bytes) (subst Q (sym (front_is f bytes n e)) here)
