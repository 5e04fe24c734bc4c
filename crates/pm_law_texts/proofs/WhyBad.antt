-- A first bad line is bad for exactly one reason, and a line that has one is the first bad line.
use Rattle.std.proofs.Common.{ℕ, zero, suc, ◌≡◌, ◌^◌, ◌<◌, ◌≤◌, inl, inr, Bool, true, false, List, [], ◌∷◌, ◌++◌, length, nat_eq, nat_lt, if◌then◌else◌, ap, refl, sym, subst, ◌∙◌, arith}
use Rattle.std.proofs.lemmas.Bool.{and_parts}
use Rattle.std.proofs.lemmas.Bool.Decides.{nat_tests}
use Rattle.std.proofs.lemmas.List.{append_cancel_left, append_cancel_right}
use Rattle.std.proofs.lemmas.List.Folds.{list_all-append}
use Rattle.pm_model.specs.declared.event.Line.{Line}
use Rattle.pm_model.specs.declared.plan.Plan.{Plan}
use Rattle.pm_model.specs.FirstBad.{IsFirstBad, IsLawfulText, first_lines, front, is_format2}
use Rattle.pm_model.specs.Lawful.{Permits, last_time}
use Rattle.pm_model.specs.NoWhy.{AreBefore, Cut, IsCut, IsLineBehind, IsNeverPermitted, IsNoText, IsPermittedSometime, IsPiece, IsWhy, Limit, NoWhy, Step, Text, Time, is_within_line}
use Rattle.pm_model.specs.Spelling.{newline}
use Rattle.pm_model.specs.Text.{IsTextBehind}
use Rattle.pm_law_texts.proofs.OneLine.{is_inside}
use Rattle.pm_law_texts.proofs.Bytes.{Next, nothing, piece, rest}
use Rattle.pm_law_texts.proofs.Deciding.{early, sometime_decided, spelled_decided}
use Rattle.pm_law_texts.proofs.Formats.{line_is, one_line, only_list, text_by_format}
use Rattle.pm_law_texts.proofs.Lawfulness.{counted, front_format, front_is, front_lawful, front_next}
use Rattle.pm_law_texts.proofs.Numbered.{counts, cut_is_bad, goes_on, went_on}

-- the list before a line, its piece and its line are the only ones
same_before : (plan : Plan) (bytes : List ℕ) (n : ℕ) (h k : List Line) → AreBefore plan bytes n h → AreBefore plan bytes n k → h ≡ k
same_before plan bytes zero h k of_h of_k = absurd of_h
same_before plan bytes (suc n) h k of_h of_k = only_list plan (front n bytes) h k of_h.1 of_k.1

same_piece : (bytes : List ℕ) (n : ℕ) (p q : List ℕ) → IsPiece bytes n p → IsPiece bytes n q → p ≡ q
same_piece bytes zero p q of_p of_q = absurd of_p
same_piece bytes (suc n) p q of_p of_q =
    append_cancel_right p q newline (append_cancel_left (front n bytes) (p ++ newline) (q ++ newline) (sym of_p.1 ∙ of_q.1))

no_cut_piece : (bytes : List ℕ) (n : ℕ) (r p : List ℕ) → IsCut bytes n r → IsPiece bytes n p → ⊥
no_cut_piece bytes zero r p of_r of_p = absurd of_r
no_cut_piece bytes (suc n) r p of_r of_p =
    let same : r ≡ p ++ newline = append_cancel_left (front n bytes) r (p ++ newline) (sym of_r.2 ∙ of_p.1) in
    let within : is_within_line (p ++ newline) ≡ true = ap (λ x. is_within_line x) (sym same) ∙ of_r.0 in
    let parts = and_parts (is_within_line p) (is_within_line newline) (sym (list_all-append is_inside p newline) ∙ within) in
    let no : is_within_line newline ≡ false = refl in
    let yes : is_within_line newline ≡ true = parts.1 in
    cc

record SameLine (h k : List Line) (line other : Line) : Type 0 where
  list : h ≡ k
  one : line ≡ other

same_line :
    (plan : Plan) (bytes : List ℕ) (n : ℕ) (h k : List Line) (line other : Line) → IsLineBehind plan bytes n h line → IsLineBehind plan bytes n k other
    → SameLine h k line other
same_line plan bytes n h k line other a b =
    let list : h ≡ k = same_before plan bytes n h k a.before b.before in
    let pieces : a.piece ≡ b.piece = same_piece bytes n a.piece b.piece a.is_piece b.is_piece in
    let P : List ℕ → Type 0 = λ p. IsTextBehind (is_format2 bytes) plan (last_time k) other p in
    let here : IsTextBehind (is_format2 bytes) plan (last_time k) other a.piece = subst P (sym pieces) b.spelled in
    let Q : List Line → Type 0 = λ l. IsTextBehind (is_format2 bytes) plan (last_time l) other a.piece in
    record { list = list; one = one_line (is_format2 bytes) plan (last_time h) line other a.piece a.spelled (subst Q (sym list) here) }

no_text_line : (plan : Plan) (bytes : List ℕ) (n : ℕ) (k : List Line) (line : Line) → IsNoText plan bytes n → IsLineBehind plan bytes n k line → ⊥
no_text_line plan bytes n k line a b =
    let list : a.h ≡ k = same_before plan bytes n a.h k a.before b.before in
    let pieces : a.piece ≡ b.piece = same_piece bytes n a.piece b.piece a.is_piece b.is_piece in
    let P : List ℕ → Type 0 = λ p. IsTextBehind (is_format2 bytes) plan (last_time k) line p in
    let Q : List Line → Type 0 = λ l. IsTextBehind (is_format2 bytes) plan (last_time l) line a.piece in
    a.no_text line (subst Q (sym list) (subst P (sym pieces) b.spelled))

no_step_time :
    (plan : Plan) (h k : List Line) (line other : Line) → SameLine h k line other → IsNeverPermitted plan h line → IsPermittedSometime plan k other → ⊥
no_step_time plan h k line other same never some =
    let P : List Line → Type 0 = λ l. IsPermittedSometime plan l other in
    let Q : Line → Type 0 = λ l. IsPermittedSometime plan h l in
    let here : IsPermittedSometime plan h line = subst Q (sym same.one) (subst P (sym same.list) some) in
    never here.0 here.1

-- two reasons are one
pub only_reason : (plan : Plan) (bytes : List ℕ) (n : ℕ) (a b : NoWhy) → IsWhy plan bytes n a → IsWhy plan bytes n b → a ≡ b
only_reason plan bytes n Cut Cut x y = refl
only_reason plan bytes n Cut Text (h, r, before, cut) y = absurd (no_cut_piece bytes n r y.piece cut y.is_piece)
only_reason plan bytes n Cut Limit (h, r, before, cut) (k, line, is, over) = absurd (no_cut_piece bytes n r is.piece cut is.is_piece)
only_reason plan bytes n Cut Step (h, r, before, cut) (k, line, is, room, never) = absurd (no_cut_piece bytes n r is.piece cut is.is_piece)
only_reason plan bytes n Cut Time (h, r, before, cut) (k, line, is, room, some, not_now) = absurd (no_cut_piece bytes n r is.piece cut is.is_piece)
only_reason plan bytes n Text Cut x (h, r, before, cut) = absurd (no_cut_piece bytes n r x.piece cut x.is_piece)
only_reason plan bytes n Text Text x y = refl
only_reason plan bytes n Text Limit x (k, line, is, over) = absurd (no_text_line plan bytes n k line x is)
only_reason plan bytes n Text Step x (k, line, is, room, never) = absurd (no_text_line plan bytes n k line x is)
only_reason plan bytes n Text Time x (k, line, is, room, some, not_now) = absurd (no_text_line plan bytes n k line x is)
only_reason plan bytes n Limit Cut (k, line, is, over) (h, r, before, cut) = absurd (no_cut_piece bytes n r is.piece cut is.is_piece)
only_reason plan bytes n Limit Text (k, line, is, over) y = absurd (no_text_line plan bytes n k line y is)
only_reason plan bytes n Limit Limit x y = refl
only_reason plan bytes n Limit Step (k, line, is, over) (h, other, its, room, never) = absurd (omega (arith, over, room))
only_reason plan bytes n Limit Time (k, line, is, over) (h, other, its, room, some, not_now) = absurd (omega (arith, over, room))
only_reason plan bytes n Step Cut (k, line, is, room, never) (h, r, before, cut) = absurd (no_cut_piece bytes n r is.piece cut is.is_piece)
only_reason plan bytes n Step Text (k, line, is, room, never) y = absurd (no_text_line plan bytes n k line y is)
only_reason plan bytes n Step Limit (k, line, is, room, never) (h, other, its, over) = absurd (omega (arith, over, room))
only_reason plan bytes n Step Step x y = refl
only_reason plan bytes n Step Time (k, line, is, room, never) (h, other, its, also, some, not_now) =
    absurd (no_step_time plan k h line other (same_line plan bytes n k h line other is its) never some)
only_reason plan bytes n Time Cut (k, line, is, room, some, not_now) (h, r, before, cut) = absurd (no_cut_piece bytes n r is.piece cut is.is_piece)
only_reason plan bytes n Time Text (k, line, is, room, some, not_now) y = absurd (no_text_line plan bytes n k line y is)
only_reason plan bytes n Time Limit (k, line, is, room, some, not_now) (h, other, its, over) = absurd (omega (arith, over, room))
only_reason plan bytes n Time Step (k, line, is, room, some, not_now) (h, other, its, also, never) =
    absurd (no_step_time plan h k other line (same_line plan bytes n h k other line its is) never some)
only_reason plan bytes n Time Time x y = refl

-- where the line before which a list stands may come next, the lines with it are lawful text
permitted :
    (plan : Plan) (bytes : List ℕ) (n : ℕ) (h : List Line) (line : Line) → IsLineBehind plan bytes n h line → n ≤ plan.lines → Permits plan h line
    → IsLawfulText plan (front n bytes)
permitted plan bytes n h line is fits permits =
    let number : n ≡ suc (length h) = counts plan bytes n h is.piece is.before is.is_piece in
    let more = goes_on plan bytes n h is.piece is.before is.is_piece (record { line = line; spelled = is.spelled; permits = permits; room = omega arith }) in
    (line ∷ h, more.0, more.1)

-- the first bad line has a reason
at_line :
    (plan : Plan) (bytes : List ℕ) (n : ℕ) (h : List Line) (line : Line) → (IsLawfulText plan (front n bytes) → ⊥)
    → IsLineBehind plan bytes n h line → (why : NoWhy) × IsWhy plan bytes n why
at_line plan bytes n h line bad is = go (nat_lt plan.lines n) refl
  where
    go : (over : Bool) → nat_lt plan.lines n ≡ over → (why : NoWhy) × IsWhy plan bytes n why
    go true over = (Limit, (h, line, is, grind (arith, nat_tests)))
    go false within =
        let fits : n ≤ plan.lines = grind (arith, nat_tests) in
        elim (sometime_decided plan h line (line_is (is_format2 bytes) plan (last_time h) line is.piece is.spelled)) as (λ _. (why : NoWhy) × IsWhy plan bytes n why) [
          | inl some ↦ (Time, (h, line, is, fits, some, λ permits. bad (permitted plan bytes n h line is fits permits)))
          | inr never ↦ (Step, (h, line, is, fits, λ t permits. never (t, permits)))
        ]

at_piece :
    (plan : Plan) (bytes : List ℕ) (n : ℕ) (h : List Line) (p : List ℕ) → (IsLawfulText plan (front n bytes) → ⊥)
    → AreBefore plan bytes n h → last_time h < 2 ^ 63 → IsPiece bytes n p → (why : NoWhy) × IsWhy plan bytes n why
at_piece plan bytes n h p bad before low is =
    elim (spelled_decided (is_format2 bytes) plan (last_time h) low p) as (λ _. (why : NoWhy) × IsWhy plan bytes n why) [
      | inl found ↦ at_line plan bytes n h found.0 bad (record { before = before; piece = p; is_piece = is; spelled = found.1 })
      | inr none ↦ (Text, record { h = h; before = before; piece = p; is_piece = is; no_text = none })
    ]

pub some_reason : (plan : Plan) (bytes : List ℕ) (n : ℕ) → IsFirstBad plan bytes n → (why : NoWhy) × IsWhy plan bytes n why
some_reason plan bytes zero first = let some : 0 < 0 = first.some in absurd (omega (arith, some))
some_reason plan bytes (suc n) first = go (first.good n (omega arith)) (front_next bytes n)
  where
    go : IsLawfulText plan (front n bytes) → Next (front n bytes) (front (suc n) bytes) → (why : NoWhy) × IsWhy plan bytes (suc n) why
    go good (nothing e) = let P : List ℕ → Type 0 = λ x. IsLawfulText plan x in absurd (first.bad (subst P (sym e) good))
    go (h, lawful, stands) (rest r clean some e) = (Cut, (h, r, (lawful, stands), (clean, some, e)))
    go (h, lawful, stands) (piece p clean e) =
        at_piece plan bytes (suc n) h p first.bad (lawful, stands) (early plan h (text_by_format plan (front n bytes) h stands).0) (clean, e)

-- a line that has a reason is the first bad one
first_first : (j m : ℕ) (bytes : List ℕ) → j ≤ m → first_lines j (first_lines m bytes) ≡ first_lines j bytes
first_first zero m bytes less = refl
first_first (suc j) zero bytes less = absurd (omega (arith, less))
first_first (suc j) (suc m) [] less = refl
first_first (suc j) (suc m) (b ∷ bytes) less = go (nat_eq b 10) (first_first j m bytes (omega (arith, less))) (first_first (suc j) (suc m) bytes less)
  where
    go :
        (is : Bool) → first_lines j (first_lines m bytes) ≡ first_lines j bytes → first_lines (suc j) (first_lines (suc m) bytes) ≡ first_lines (suc j) bytes
        → b ∷ (if is then first_lines j (if is then first_lines m bytes else first_lines (suc m) bytes) else first_lines (suc j) (if is then first_lines m bytes else first_lines (suc m) bytes))
        ≡ b ∷ (if is then first_lines j bytes else first_lines (suc j) bytes)
    go true one more = ap (λ x. b ∷ x) one
    go false one more = ap (λ x. b ∷ x) more

front_front : (k n : ℕ) (bytes : List ℕ) → k ≤ n → front k (front n bytes) ≡ front k bytes
front_front k n bytes less = go (is_format2 bytes) refl
  where
    fewer : (f : Bool) → counted f k ≤ counted f n
    fewer true = omega (arith, less)
    fewer false = less

    go : (f : Bool) → is_format2 bytes ≡ f → front k (front n bytes) ≡ front k bytes
    go f is =
        front_is f (front n bytes) k (front_format bytes n ∙ is)
        ∙ (ap (λ x. first_lines (counted f k) x) (front_is f bytes n is)
        ∙ (first_first (counted f k) (counted f n) bytes (fewer f) ∙ sym (front_is f bytes k is)))

pub front_earlier : (plan : Plan) (bytes : List ℕ) (k n : ℕ) → k ≤ n → IsLawfulText plan (front n bytes) → IsLawfulText plan (front k bytes)
front_earlier plan bytes k n less found =
    let P : List ℕ → Type 0 = λ x. IsLawfulText plan x in
    subst P (front_front k n bytes less) (front_lawful plan (front n bytes) found k)

good_before : (plan : Plan) (bytes : List ℕ) (n : ℕ) (h : List Line) → AreBefore plan bytes n h → (k : ℕ) → k < n → IsLawfulText plan (front k bytes)
good_before plan bytes zero h before k less = absurd before
good_before plan bytes (suc n) h before k less = front_earlier plan bytes k n (omega (arith, less)) (h, before.0, before.1)

some_before : (plan : Plan) (bytes : List ℕ) (n : ℕ) (h : List Line) → AreBefore plan bytes n h → 0 < n
some_before plan bytes zero h before = absurd before
some_before plan bytes (suc n) h before = omega arith

first_from : (plan : Plan) (bytes : List ℕ) (n : ℕ) (h : List Line) → AreBefore plan bytes n h → (IsLawfulText plan (front n bytes) → ⊥) → IsFirstBad plan bytes n
first_from plan bytes n h before bad = record { some = some_before plan bytes n h before; bad = bad; good = good_before plan bytes n h before }

-- what may come next is the line itself
next_is :
    (plan : Plan) (bytes : List ℕ) (n : ℕ) (h : List Line) (line : Line) → IsLineBehind plan bytes n h line → IsLawfulText plan (front n bytes)
    → Permits plan h line × (length h < plan.lines)
next_is plan bytes n h line is found =
    let next = went_on plan bytes n h is.piece is.before is.is_piece found in
    let same : next.line ≡ line = one_line (is_format2 bytes) plan (last_time h) next.line line is.piece next.spelled is.spelled in
    let P : Line → Type 0 = λ l. Permits plan h l in
    (subst P same next.permits, next.room)

over_limit : (plan : Plan) (bytes : List ℕ) (n : ℕ) (h : List Line) (line : Line) → IsLineBehind plan bytes n h line → plan.lines < n → length h < plan.lines → ⊥
over_limit plan bytes n h line is over room =
    let number = counts plan bytes n h is.piece is.before is.is_piece in
    omega (arith, number, over, room)

pub reason_first : (plan : Plan) (bytes : List ℕ) (n : ℕ) (why : NoWhy) → IsWhy plan bytes n why → IsFirstBad plan bytes n
reason_first plan bytes n Cut (h, r, before, cut) = first_from plan bytes n h before (cut_is_bad plan bytes n r cut)
reason_first plan bytes n Text x =
    first_from plan bytes n x.h x.before (λ found.
    let next = went_on plan bytes n x.h x.piece x.before x.is_piece found in x.no_text next.line next.spelled)
reason_first plan bytes n Limit (h, line, is, over) =
    first_from plan bytes n h is.before (λ found. over_limit plan bytes n h line is over (next_is plan bytes n h line is found).1)
reason_first plan bytes n Step (h, line, is, room, never) =
    first_from plan bytes n h is.before (λ found. never line.time (next_is plan bytes n h line is found).0)
reason_first plan bytes n Time (h, line, is, room, some, not_now) =
    first_from plan bytes n h is.before (λ found. not_now (next_is plan bytes n h line is found).0)
