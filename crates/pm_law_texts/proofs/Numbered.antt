-- A piece has as many lines before it as the list that they are the text of.
use Rattle.std.proofs.Common.{ℕ, zero, suc, ◌≡◌, ◌+◌, Bool, true, false, List, [], ◌∷◌, ◌++◌, length, nat_eq, if◌then◌else◌, ap, refl, sym, subst, ◌∙◌, arith}
use Rattle.std.proofs.lemmas.Bool.{and_parts, not-true}
use Rattle.pm_model.specs.declared.event.Line.{Line}
use Rattle.pm_model.specs.declared.plan.Plan.{Plan}
use Rattle.pm_model.specs.FirstBad.{IsLawfulText, StandsFor, first_lines, front, is_format2}
use Rattle.pm_model.specs.Lawful.{last_time}
use Rattle.pm_model.specs.NoWhy.{AreBefore, IsCut, IsPiece, is_within_line}
use Rattle.pm_model.specs.Spelling.{newline}
use Rattle.pm_law_texts.specs.Next.{IsNext}
use Rattle.pm_law_texts.proofs.OneLine.{is_inside}
use Rattle.pm_law_texts.proofs.Bytes.{IsWhole, cut_not_whole, none_empty}
use Rattle.pm_law_texts.proofs.Formats.{IsTextIn, in_line, line_in, one_more, stands_for, text_by_format, text_in, text_more}
use Rattle.pm_law_texts.proofs.Lawfulness.{IsLawfulIn, counted, extended, front_format, front_is, in_format, lawful_whole}

-- how many newlines
newlines : List ℕ → ℕ
newlines [] = 0
newlines (b ∷ bytes) = if nat_eq b 10 then suc (newlines bytes) else newlines bytes

newlines_append : (a b : List ℕ) → newlines (a ++ b) ≡ newlines a + newlines b
unfolding newlines
newlines_append [] b = omega arith
newlines_append (x ∷ a) b = go (nat_eq x 10) (newlines_append a b)
  where
    go : (is : Bool) → newlines (a ++ b) ≡ newlines a + newlines b → (if is then suc (newlines (a ++ b)) else newlines (a ++ b)) ≡ (if is then suc (newlines a) else newlines a) + newlines b
    go true e = omega (arith, e)
    go false e = e

none_within : (p : List ℕ) → is_within_line p ≡ true → newlines p ≡ 0
unfolding newlines
none_within [] clean = refl
none_within (x ∷ p) clean =
    let parts = and_parts (is_inside x) (is_within_line p) clean in
    let differ : nat_eq x 10 ≡ false = not-true (nat_eq x 10) parts.0 in
    rw differ (none_within p parts.1)

newline_one : newlines newline ≡ 1
unfolding newlines
newline_one = refl

one_within : (p : List ℕ) → is_within_line p ≡ true → newlines (p ++ newline) ≡ 1
one_within p clean = omega (arith, newlines_append p newline, none_within p clean, newline_one)

-- where a piece follows the first n lines, they have n newlines
before_piece :
    (n : ℕ) (bytes p : List ℕ) → first_lines (suc n) bytes ≡ first_lines n bytes ++ (p ++ newline) → newlines (first_lines n bytes) ≡ n
unfolding newlines
before_piece zero bytes p e = refl
before_piece (suc n) [] p e = absurd (none_empty [] p (sym e))
before_piece (suc n) (x ∷ bytes) p e = go (nat_eq x 10) (before_piece n bytes p) (before_piece (suc n) bytes p) e
  where
    go :
        (is : Bool) → (first_lines (suc n) bytes ≡ first_lines n bytes ++ (p ++ newline) → newlines (first_lines n bytes) ≡ n)
        → (first_lines (suc (suc n)) bytes ≡ first_lines (suc n) bytes ++ (p ++ newline) → newlines (first_lines (suc n) bytes) ≡ suc n)
        → x ∷ (if is then first_lines (suc n) bytes else first_lines (suc (suc n)) bytes) ≡ x ∷ ((if is then first_lines n bytes else first_lines (suc n) bytes) ++ (p ++ newline))
        → (if is then suc (newlines (if is then first_lines n bytes else first_lines (suc n) bytes)) else newlines (if is then first_lines n bytes else first_lines (suc n) bytes)) ≡ suc n
    go true one more same = ap (λ k. suc k) (one (let tail : first_lines (suc n) bytes ≡ first_lines n bytes ++ (p ++ newline) = cc in tail))
    go false one more same = more (let tail : first_lines (suc (suc n)) bytes ≡ first_lines (suc n) bytes ++ (p ++ newline) = cc in tail)

-- the text of a list has a newline for each line, and one for the header
text_newlines : (f : Bool) (plan : Plan) (h : List Line) → newlines (text_in f plan h) ≡ counted f (length h)
unfolding newlines
text_newlines true plan [] = refl
text_newlines false plan [] = refl
text_newlines f plan (line ∷ h) =
    let more = ap (λ x. newlines x) (one_more f plan line h) in
    let split = newlines_append (text_in f plan h) (line_in f plan (last_time h) line ++ newline) in
    let one = one_within (line_in f plan (last_time h) line) (in_line f plan (last_time h) line) in
    let before = text_newlines f plan h in
    let count = counted_more f (length h) in
    omega (arith, more, split, one, before, count)
  where
    counted_more : (g : Bool) (n : ℕ) → counted g (suc n) ≡ counted g n + 1
    counted_more true n = omega arith
    counted_more false n = omega arith

counted_same : (f : Bool) (n m : ℕ) → counted f n ≡ counted f m → n ≡ m
counted_same true n m e = omega (arith, e)
counted_same false n m e = e

pub lines_before :
    (plan : Plan) (bytes : List ℕ) (n : ℕ) (h : List Line) (p : List ℕ) → StandsFor plan (front n bytes) h
    → front (suc n) bytes ≡ front n bytes ++ (p ++ newline) → length h ≡ n
lines_before plan bytes n h p stands e = go (is_format2 bytes) refl
  where
    go : (f : Bool) → is_format2 bytes ≡ f → length h ≡ n
    go f is =
        let text = text_by_format plan (front n bytes) h stands in
        let P : Bool → Type 0 = λ g. IsTextIn g plan (front n bytes) h in
        let here : IsTextIn f plan (front n bytes) h = subst P (front_format bytes n ∙ is) text in
        let counts : newlines (front n bytes) ≡ counted f (length h) = ap (λ x. newlines x) here.2 ∙ text_newlines f plan h in
        counted_same f (length h) n (sym counts ∙ at f is)
      where
        at : (g : Bool) → is_format2 bytes ≡ g → newlines (front n bytes) ≡ counted g n
        at true i = ap (λ x. newlines x) (front_is true bytes n i) ∙ before_piece (suc n) bytes p (sym (front_is true bytes (suc n) i) ∙ (e ∙ ap (λ x. x ++ (p ++ newline)) (front_is true bytes n i)))
        at false i = ap (λ x. newlines x) (front_is false bytes n i) ∙ before_piece n bytes p (sym (front_is false bytes (suc n) i) ∙ (e ∙ ap (λ x. x ++ (p ++ newline)) (front_is false bytes n i)))

-- the laws of one more line, by its number
pub counts : (plan : Plan) (bytes : List ℕ) (n : ℕ) (h : List Line) (p : List ℕ) → AreBefore plan bytes n h → IsPiece bytes n p → n ≡ suc (length h)
counts plan bytes zero h p before is = absurd is
counts plan bytes (suc n) h p before is = ap (λ k. suc k) (sym (lines_before plan bytes n h p before.1 is.1))

front_text : (plan : Plan) (bytes : List ℕ) (n : ℕ) (h : List Line) → StandsFor plan (front n bytes) h → IsTextIn (is_format2 bytes) plan (front n bytes) h
front_text plan bytes n h stands =
    let P : Bool → Type 0 = λ g. IsTextIn g plan (front n bytes) h in
    subst P (front_format bytes n) (text_by_format plan (front n bytes) h stands)

pub goes_on :
    (plan : Plan) (bytes : List ℕ) (n : ℕ) (h : List Line) (p : List ℕ) → AreBefore plan bytes n h → IsPiece bytes n p
    → (next : IsNext (is_format2 bytes) plan h p) → AreBefore plan bytes (suc n) (next.line ∷ h)
goes_on plan bytes zero h p before is next = absurd is
goes_on plan bytes (suc n) h p before is next =
    let text = front_text plan bytes n h before.1 in
    let more = text_more (is_format2 bytes) plan (front n bytes) p next.line h text next.spelled in
    let P : List ℕ → Type 0 = λ x. IsTextIn (is_format2 bytes) plan x (next.line ∷ h) in
    ((next.permits, next.room, before.0), stands_for (is_format2 bytes) plan (front (suc n) bytes) (next.line ∷ h) (subst P (sym is.1) more))

pub went_on :
    (plan : Plan) (bytes : List ℕ) (n : ℕ) (h : List Line) (p : List ℕ) → AreBefore plan bytes n h → IsPiece bytes n p
    → IsLawfulText plan (front n bytes) → IsNext (is_format2 bytes) plan h p
went_on plan bytes zero h p before is found = absurd is
went_on plan bytes (suc n) h p before is found =
    let P : List ℕ → Type 0 = λ x. IsLawfulIn (is_format2 bytes) plan x in
    extended (is_format2 bytes) plan (front n bytes) p h (front_text plan bytes n h before.1) is.0 (subst P is.1 (in_format plan bytes (suc n) found))

pub cut_is_bad : (plan : Plan) (bytes : List ℕ) (n : ℕ) (r : List ℕ) → IsCut bytes n r → IsLawfulText plan (front n bytes) → ⊥
cut_is_bad plan bytes zero r is found = absurd is
cut_is_bad plan bytes (suc n) r is found =
    cut_not_whole (front n bytes) r is.0 is.1 (let P : List ℕ → Type 0 = λ x. IsWhole x in subst P is.2 (lawful_whole plan (front (suc n) bytes) found))
