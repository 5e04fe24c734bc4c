-- The text of a list in one of the formats: format 2 where that is true. It decides the list, and its first byte the
-- format.
use Rattle.std.proofs.Common.{ℕ, zero, suc, ◌≡◌, ◌≢◌, ◌+◌, ◌-◌, ◌%◌, ◌/◌, ◌<◌, inl, inr, Bool, true, false, not, List, [], ◌∷◌, ◌++◌, codes, decimal, nat_eq, nat_lt, reverse, if◌then◌else◌, ap, refl, sym, subst, ◌∙◌, arith}
use Rattle.std.specs.Fmt.{digits, digits_onto, digit_glyph}
use Rattle.std.specs.List.{list_all}
use Rattle.std.proofs.lemmas.Bool.{and_from, and_parts, not-true}
use Rattle.std.proofs.lemmas.Bool.Decides.{nat_tests}
use Rattle.std.proofs.lemmas.Grind.{flat_map-append}
use Rattle.std.proofs.lemmas.List.{reverse-append, append_assoc}
use Rattle.pm_lineread.proofs.Answered.{distinct1, distinct2}
use Rattle.pm_model.specs.declared.event.Line.{Line}
use Rattle.pm_model.specs.declared.plan.Plan.{Plan}
use Rattle.pm_model.specs.FirstBad.{AreLinesOf, StandsFor, TimesDontFall, is_format2}
use Rattle.pm_model.specs.Lawful.{last_time}
use Rattle.pm_model.specs.LineOf.{is_line_of}
use Rattle.pm_model.specs.NoWhy.{is_within_line}
use Rattle.pm_model.specs.Spelling.{Names, header, line_text, line_text2, lines_text, lines_text2, newline}
use Rattle.pm_model.specs.Text.{IsTextBehind, names_of, text1, text2}
use Rattle.pm_law_texts.proofs.OneLine.{line_clean}
use Rattle.pm_law_texts.proofs.Bytes.{IsWhole, append_none, none_empty, split_last, whole_end}

abbrev pub text_in : Bool → Plan → List Line → List ℕ
text_in true plan h = text2 plan (reverse h)
text_in false plan h = text1 plan (reverse h)

abbrev pub line_in : Bool → Plan → ℕ → Line → List ℕ
line_in true plan base line = line_text2 (names_of plan) base line
line_in false plan base line = line_text (names_of plan) line

abbrev pub TimesIn : Bool → List Line → Type 0
TimesIn true h = TimesDontFall h
TimesIn false h = Unit {0}

abbrev pub IsTextIn : Bool → Plan → List ℕ → List Line → Type 0
IsTextIn f plan bytes h = AreLinesOf plan h × TimesIn f h × (bytes ≡ text_in f plan h)

pub stands_in : (plan : Plan) (bytes : List ℕ) (h : List Line) → StandsFor plan bytes h → (f : Bool) × IsTextIn f plan bytes h
stands_in plan bytes h (inl (of_plan, same)) = (false, (of_plan, tt, same))
stands_in plan bytes h (inr (of_plan, rise, same)) = (true, (of_plan, rise, same))

pub stands_for : (f : Bool) (plan : Plan) (bytes : List ℕ) (h : List Line) → IsTextIn f plan bytes h → StandsFor plan bytes h
stands_for true plan bytes h (of_plan, rise, same) = inr (of_plan, rise, same)
stands_for false plan bytes h (of_plan, rise, same) = inl (of_plan, same)

-- one more line
abbrev end_time : ℕ → List Line → ℕ
end_time base [] = base
end_time base (line ∷ lines) = end_time line.time lines

end_snoc : (base : ℕ) (lines : List Line) (line : Line) → end_time base (lines ++ (line ∷ [])) ≡ line.time
end_snoc base [] line = refl
end_snoc base (x ∷ lines) line = end_snoc x.time lines line

turned : (line : Line) (h : List Line) → reverse (line ∷ h) ≡ reverse h ++ (line ∷ [])
turned line h = reverse-append (line ∷ []) h

end_is : (h : List Line) → end_time 0 (reverse h) ≡ last_time h
end_is [] = refl
end_is (line ∷ h) = rw (turned line h) (end_snoc 0 (reverse h) line)

snoc2 :
    (names : Names) (base : ℕ) (lines : List Line) (line : Line)
    → lines_text2 names base (lines ++ (line ∷ [])) ≡ lines_text2 names base lines ++ (line_text2 names (end_time base lines) line ++ newline)
snoc2 names base [] line = append_none (line_text2 names base line ++ newline)
snoc2 names base (x ∷ lines) line =
    let front = line_text2 names base x ++ newline in
    ap (λ y. line_text2 names base x ++ newline ++ y) (snoc2 names x.time lines line)
    ∙ sym (append_assoc front (lines_text2 names x.time lines) (line_text2 names (end_time x.time lines) line ++ newline))

pub one_more :
    (f : Bool) (plan : Plan) (line : Line) (h : List Line)
    → text_in f plan (line ∷ h) ≡ text_in f plan h ++ (line_in f plan (last_time h) line ++ newline)
one_more true plan line h =
    ap (λ x. text2 plan x) (turned line h)
    ∙ (ap (λ x. header ++ x) (snoc2 (names_of plan) 0 (reverse h) line)
    ∙ ap (λ t. text2 plan (reverse h) ++ (line_text2 (names_of plan) t line ++ newline)) (end_is h))
one_more false plan line h =
    ap (λ x. text1 plan x) (turned line h)
    ∙ (flat_map-append (λ x. line_text (names_of plan) x ++ newline) (reverse h) (line ∷ [])
    ∙ ap (λ x. text1 plan (reverse h) ++ x) (append_none (line_text (names_of plan) line ++ newline)))

pub text_whole : (f : Bool) (plan : Plan) (h : List Line) → IsWhole (text_in f plan h)
text_whole true plan [] = refl
text_whole false plan [] = tt
text_whole f plan (line ∷ h) = rw (one_more f plan line h) (whole_end (text_in f plan h) (line_in f plan (last_time h) line))

pub in_line : (f : Bool) (plan : Plan) (base : ℕ) (line : Line) → is_within_line (line_in f plan base line) ≡ true
in_line true plan base line = line_clean plan (record line { time = line.time - base })
in_line false plan base line = line_clean plan line

-- a line of the list, behind those before it
pub spelled_is : (f : Bool) (plan : Plan) (base : ℕ) (line : Line) (p : List ℕ) → IsTextBehind f plan base line p → p ≡ line_in f plan base line
spelled_is true plan base line p (is, later, same) = sym same
spelled_is false plan base line p (is, same) = sym same

pub is_spelled :
    (f : Bool) (plan : Plan) (line : Line) (h : List Line) → is_line_of plan line ≡ true → TimesIn f (line ∷ h)
    → IsTextBehind f plan (last_time h) line (line_in f plan (last_time h) line)
is_spelled true plan line h is rise = (is, rise.0, refl)
is_spelled false plan line h is rise = (is, refl)

pub one_line : (f : Bool) (plan : Plan) (base : ℕ) (a b : Line) (p : List ℕ) → IsTextBehind f plan base a p → IsTextBehind f plan base b p → a ≡ b
one_line true plan base a b p (a_is, a_later, a_same) (b_is, b_later, b_same) = distinct2 plan base a b a_is b_is a_later b_later (a_same ∙ sym b_same)
one_line false plan base a b p (a_is, a_same) (b_is, b_same) = distinct1 plan a b a_is b_is (a_same ∙ sym b_same)

pub line_is : (f : Bool) (plan : Plan) (base : ℕ) (line : Line) (p : List ℕ) → IsTextBehind f plan base line p → is_line_of plan line ≡ true
line_is true plan base line p spelled = spelled.0
line_is false plan base line p spelled = spelled.0

times_before : (f : Bool) (line : Line) (h : List Line) → TimesIn f (line ∷ h) → TimesIn f h
times_before true line h rise = rise.1
times_before false line h rise = tt

times_more : (f : Bool) (plan : Plan) (line : Line) (h : List Line) (p : List ℕ) → TimesIn f h → IsTextBehind f plan (last_time h) line p → TimesIn f (line ∷ h)
times_more true plan line h p rise spelled = (spelled.1, rise)
times_more false plan line h p rise spelled = tt

pub text_more :
    (f : Bool) (plan : Plan) (b p : List ℕ) (line : Line) (h : List Line)
    → IsTextIn f plan b h → IsTextBehind f plan (last_time h) line p → IsTextIn f plan (b ++ (p ++ newline)) (line ∷ h)
text_more f plan b p line h (of_plan, rise, same) spelled = (
  and_from (is_line_of plan line) (list_all (is_line_of plan) h) (line_is f plan (last_time h) line p spelled) of_plan,
  times_more f plan line h p rise spelled,
  let piece = spelled_is f plan (last_time h) line p spelled in rw (same, piece) (sym (one_more f plan line h)),
)

pub text_before : (f : Bool) (plan : Plan) (bytes : List ℕ) (line : Line) (h : List Line) → IsTextIn f plan bytes (line ∷ h) → IsTextIn f plan (text_in f plan h) h
text_before f plan bytes line h (of_plan, rise, same) =
    ((and_parts (is_line_of plan line) (list_all (is_line_of plan) h) of_plan).1, times_before f line h rise, refl)

pub last_spelled :
    (f : Bool) (plan : Plan) (bytes : List ℕ) (line : Line) (h : List Line) → IsTextIn f plan bytes (line ∷ h)
    → IsTextBehind f plan (last_time h) line (line_in f plan (last_time h) line)
last_spelled f plan bytes line h (of_plan, rise, same) =
    is_spelled f plan line h (and_parts (is_line_of plan line) (list_all (is_line_of plan) h) of_plan).0 rise

-- no text but that of no lines is the text of none
pub no_lines : (f : Bool) (plan : Plan) (h : List Line) (p : List ℕ) → is_within_line p ≡ true → text_in f plan h ++ (p ++ newline) ≡ text_in f plan [] → ⊥
no_lines true plan h p clean same =
    let parts = split_last (text_in true plan h) p [] (codes "pm_trace 2") (text_whole true plan h) tt clean refl same in
    let none : text_in true plan h ≡ [] = parts.0 in
    cc
no_lines false plan h p clean same = none_empty (text_in false plan h) p same

-- whole lines and one more are lines of a list and the one before which they stand
pub split_text :
    (f : Bool) (plan : Plan) (h k : List Line) (line : Line) (p : List ℕ) → is_within_line p ≡ true
    → text_in f plan h ++ (p ++ newline) ≡ text_in f plan (line ∷ k)
    → (text_in f plan h ≡ text_in f plan k) × (p ≡ line_in f plan (last_time k) line)
split_text f plan h k line p clean same =
    split_last (text_in f plan h) p (text_in f plan k) (line_in f plan (last_time k) line) (text_whole f plan h) (text_whole f plan k) clean
    (in_line f plan (last_time k) line) (same ∙ one_more f plan line k)

same_text :
    (f : Bool) (plan : Plan) (h k : List Line) → IsTextIn f plan (text_in f plan h) h → IsTextIn f plan (text_in f plan k) k
    → text_in f plan h ≡ text_in f plan k → h ≡ k
same_text f plan [] [] of_h of_k same = refl
same_text f plan [] (y ∷ k) of_h of_k same =
    absurd (no_lines f plan k (line_in f plan (last_time k) y) (in_line f plan (last_time k) y) (sym (one_more f plan y k) ∙ sym same))
same_text f plan (x ∷ h) [] of_h of_k same =
    absurd (no_lines f plan h (line_in f plan (last_time h) x) (in_line f plan (last_time h) x) (sym (one_more f plan x h) ∙ same))
same_text f plan (x ∷ h) (y ∷ k) of_h of_k same =
    let p = line_in f plan (last_time h) x in
    let parts = split_text f plan h k y p (in_line f plan (last_time h) x) (sym (one_more f plan x h) ∙ same) in
    let rest : h ≡ k = same_text f plan h k (text_before f plan _ x h of_h) (text_before f plan _ y k of_k) parts.0 in
    let x_is : IsTextBehind f plan (last_time h) x p = last_spelled f plan _ x h of_h in
    let y_last = last_spelled f plan _ y k of_k in
    let y_at : IsTextBehind f plan (last_time k) y p = (let P : List ℕ → Type 0 = λ q. IsTextBehind f plan (last_time k) y q in subst P (sym parts.1) y_last) in
    let y_is : IsTextBehind f plan (last_time h) y p = (let P : List Line → Type 0 = λ l. IsTextBehind f plan (last_time l) y p in subst P (sym rest) y_at) in
    let head : x ≡ y = one_line f plan (last_time h) x y p x_is y_is in
    cc

itself : (f : Bool) (plan : Plan) (bytes : List ℕ) (h : List Line) → IsTextIn f plan bytes h → IsTextIn f plan (text_in f plan h) h
itself f plan bytes h (of_plan, rise, same) = (of_plan, rise, refl)

pub one_list : (f : Bool) (plan : Plan) (bytes : List ℕ) (h k : List Line) → IsTextIn f plan bytes h → IsTextIn f plan bytes k → h ≡ k
one_list f plan bytes h k of_h of_k = same_text f plan h k (itself f plan bytes h of_h) (itself f plan bytes k of_k) (sym of_h.2 ∙ of_k.2)

-- A line begins with a digit, and the header doesn't.
abbrev is_other : ℕ → Bool
is_other b = not (nat_eq 112 b)

abbrev begins_other : List ℕ → Bool
begins_other [] = false
begins_other (b ∷ bytes) = is_other b

glyph_other : (d : ℕ) → d < 10 → is_other (digit_glyph false d) ≡ true
glyph_other d l =
    let l : nat_lt d 10 ≡ true = grind (arith, nat_tests) in
    let m : nat_eq 112 (48 + d) ≡ false = grind (arith, nat_tests) in
    rw (l, m) refl

onto_other : (k n : ℕ) (acc : List ℕ) → begins_other acc ≡ true → begins_other (digits_onto k 10 false n acc) ≡ true
onto_other zero n acc p = p
onto_other (suc k) n acc p = go (nat_eq (n / 10) 0) (onto_other k (n / 10) (digit_glyph false (n % 10) ∷ acc) q)
  where
    q : is_other (digit_glyph false (n % 10)) ≡ true
    q = glyph_other (n % 10) (omega arith)

    go :
        (b : Bool) → begins_other (digits_onto k 10 false (n / 10) (digit_glyph false (n % 10) ∷ acc)) ≡ true
        → begins_other (if b then digit_glyph false (n % 10) ∷ acc else digits_onto k 10 false (n / 10) (digit_glyph false (n % 10) ∷ acc)) ≡ true
    go true r = q
    go false r = r

first_other : (k n : ℕ) → begins_other (digits_onto (suc k) 10 false n []) ≡ true
first_other k n = go (nat_eq (n / 10) 0) (onto_other k (n / 10) (digit_glyph false (n % 10) ∷ []) q)
  where
    q : is_other (digit_glyph false (n % 10)) ≡ true
    q = glyph_other (n % 10) (omega arith)

    go :
        (b : Bool) → begins_other (digits_onto k 10 false (n / 10) (digit_glyph false (n % 10) ∷ [])) ≡ true
        → begins_other (if b then digit_glyph false (n % 10) ∷ [] else digits_onto k 10 false (n / 10) (digit_glyph false (n % 10) ∷ [])) ≡ true
    go true r = q
    go false r = r

decimal_other : (n : ℕ) → begins_other (decimal n) ≡ true
unfolding digits
decimal_other n = first_other 63 n

grows : (x y : List ℕ) → begins_other x ≡ true → begins_other (x ++ y) ≡ true
grows [] y p = cc
grows (b ∷ x) y p = p

other_format : (x : List ℕ) → begins_other x ≡ true → is_format2 x ≡ false
other_format [] p = cc
other_format (b ∷ x) p = let differ : nat_eq 112 b ≡ false = not-true (nat_eq 112 b) p in rw differ refl

lines_other : (names : Names) (lines : List Line) → is_format2 (lines_text names lines) ≡ false
lines_other names [] = refl
lines_other names (line ∷ lines) =
    let begins : begins_other (lines_text names (line ∷ lines)) ≡ true = search (grows, decimal_other) depth 20 in
    other_format (lines_text names (line ∷ lines)) begins

pub format_is : (f : Bool) (plan : Plan) (bytes : List ℕ) (h : List Line) → IsTextIn f plan bytes h → is_format2 bytes ≡ f
format_is true plan bytes h (of_plan, rise, same) = let begins : is_format2 (text2 plan (reverse h)) ≡ true = refl in ap (λ x. is_format2 x) same ∙ begins
format_is false plan bytes h (of_plan, rise, same) = ap (λ x. is_format2 x) same ∙ lines_other (names_of plan) (reverse h)

-- and so it is where bytes follow the text of some lines
pub begins_as : (f : Bool) (plan : Plan) (h : List Line) (more : List ℕ) → text_in f plan h ≢ [] → is_format2 (text_in f plan h ++ more) ≡ f
begins_as true plan h more some = refl
begins_as false plan h more some = go (reverse h) some
  where
    go : (lines : List Line) → lines_text (names_of plan) lines ≢ [] → is_format2 (lines_text (names_of plan) lines ++ more) ≡ false
    go [] none = absurd (none refl)
    go (line ∷ lines) any =
        let begins : begins_other (lines_text (names_of plan) (line ∷ lines) ++ more) ≡ true = search (grows, decimal_other) depth 20 in
        other_format (lines_text (names_of plan) (line ∷ lines) ++ more) begins

pub text_by_format : (plan : Plan) (bytes : List ℕ) (h : List Line) → StandsFor plan bytes h → IsTextIn (is_format2 bytes) plan bytes h
text_by_format plan bytes h stands = go (stands_in plan bytes h stands)
  where
    go : (f : Bool) × IsTextIn f plan bytes h → IsTextIn (is_format2 bytes) plan bytes h
    go (f, text) = let P : Bool → Type 0 = λ g. IsTextIn g plan bytes h in subst P (sym (format_is f plan bytes h text)) text

pub only_list : (plan : Plan) (bytes : List ℕ) (h k : List Line) → StandsFor plan bytes h → StandsFor plan bytes k → h ≡ k
only_list plan bytes h k of_h of_k =
    one_list (is_format2 bytes) plan bytes h k (text_by_format plan bytes h of_h) (text_by_format plan bytes k of_k)
