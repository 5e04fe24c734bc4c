-- Bytes behind whole lines that are the text of a list: the next piece, or a rest that is cut.
use Rattle.std.proofs.Common.{ℕ, suc, ◌≡◌, ◌≢◌, ◌+◌, Bool, true, false, List, [], ◌∷◌, ◌++◌, codes, length, nat_eq, ap, refl, sym, subst, ◌∙◌, arith}
use Rattle.std.specs.List.{starts_with}
use Rattle.std.proofs.lemmas.Bool.{and_parts, eqb-true, false_from_ne_true}
use Rattle.std.proofs.lemmas.List.{append_assoc}
use Rattle.pm_model.specs.declared.event.Line.{Line}
use Rattle.pm_model.specs.declared.plan.Plan.{Plan}
use Rattle.pm_model.specs.FirstBad.{StandsFor, first_lines, front, is_format2}
use Rattle.pm_model.specs.Lawful.{IsLawful, last_time}
use Rattle.pm_model.specs.NoWhy.{AreBefore, IsCut, IsPiece, is_within_line}
use Rattle.pm_model.specs.Spelling.{header, newline}
use Rattle.pm_law_texts.proofs.OneLine.{is_inside}
use Rattle.pm_law_texts.proofs.Bytes.{append_none, first_piece, one_cut}
use Rattle.pm_law_texts.proofs.Formats.{IsTextIn, begins_as, in_line, line_in, one_more, text_by_format, text_in}
use Rattle.pm_law_texts.proofs.Lawfulness.{counted, front_is}

-- the lines of a list, and some of what is behind them
behind_text :
    (f : Bool) (plan : Plan) (h : List Line) (m : ℕ) (x : List ℕ)
    → first_lines (counted f (length h) + m) (text_in f plan h ++ x) ≡ text_in f plan h ++ first_lines m x
behind_text true plan [] m x =
    let more : counted true 0 + m ≡ suc m = omega arith in
    ap (λ k. first_lines k (header ++ x)) more ∙ first_piece m (codes "pm_trace 2") x refl
behind_text false plan [] m x = let same : 0 + m ≡ m = omega arith in ap (λ k. first_lines k x) same
behind_text f plan (line ∷ h) m x =
    let t = text_in f plan h in
    let p = line_in f plan (last_time h) line in
    let whole : text_in f plan (line ∷ h) ≡ t ++ (p ++ newline) = one_more f plan line h in
    let later : counted f (suc (length h)) + m ≡ counted f (length h) + suc m = count f in
    let apart : (t ++ (p ++ newline)) ++ x ≡ t ++ (p ++ (10 ∷ x)) = append_assoc t (p ++ newline) x ∙ ap (λ y. t ++ y) (append_assoc p newline x) in
    let together : t ++ (p ++ (10 ∷ first_lines m x)) ≡ (t ++ (p ++ newline)) ++ first_lines m x =
    sym (append_assoc t (p ++ newline) (first_lines m x) ∙ ap (λ y. t ++ y) (append_assoc p newline (first_lines m x))) in
    ap (λ k. first_lines k (text_in f plan (line ∷ h) ++ x)) later
    ∙ (ap (λ y. first_lines (counted f (length h) + suc m) (y ++ x)) whole
    ∙ (ap (λ y. first_lines (counted f (length h) + suc m) y) apart
    ∙ (behind_text f plan h (suc m) (p ++ (10 ∷ x))
    ∙ (ap (λ y. t ++ y) (first_piece m p x (in_line f plan (last_time h) line))
    ∙ (together ∙ ap (λ y. y ++ first_lines m x) (sym whole))))))
  where
    count : (g : Bool) → counted g (suc (length h)) + m ≡ counted g (length h) + suc m
    count true = omega arith
    count false = omega arith

front_behind :
    (f : Bool) (plan : Plan) (h : List Line) (m : ℕ) (x : List ℕ) → is_format2 (text_in f plan h ++ x) ≡ f
    → front (length h + m) (text_in f plan h ++ x) ≡ text_in f plan h ++ first_lines m x
front_behind f plan h m x is =
    front_is f (text_in f plan h ++ x) (length h + m) is
    ∙ (ap (λ k. first_lines k (text_in f plan h ++ x)) (count f) ∙ behind_text f plan h m x)
  where
    count : (g : Bool) → counted g (length h + m) ≡ counted g (length h) + m
    count true = omega arith
    count false = omega arith

front_here : (f : Bool) (plan : Plan) (h : List Line) (x : List ℕ) → is_format2 (text_in f plan h ++ x) ≡ f → front (length h) (text_in f plan h ++ x) ≡ text_in f plan h
front_here f plan h x is =
    let none : length h + 0 ≡ length h = omega arith in
    ap (λ k. front k (text_in f plan h ++ x)) (sym none) ∙ (front_behind f plan h 0 x is ∙ append_none (text_in f plan h))

front_on :
    (f : Bool) (plan : Plan) (h : List Line) (x : List ℕ) → is_format2 (text_in f plan h ++ x) ≡ f
    → front (suc (length h)) (text_in f plan h ++ x) ≡ text_in f plan h ++ first_lines 1 x
front_on f plan h x is =
    let one : length h + 1 ≡ suc (length h) = omega arith in
    ap (λ k. front k (text_in f plan h ++ x)) (sym one) ∙ front_behind f plan h 1 x is

-- what stands before the bytes behind a list, and what the first of them are
record IsBehind (plan : Plan) (whole x : List ℕ) (h : List Line) : Type 0 where
  before : front (length h) (whole ++ x) ≡ whole
  next : front (suc (length h)) (whole ++ x) ≡ front (length h) (whole ++ x) ++ first_lines 1 x

is_behind : (plan : Plan) (whole x : List ℕ) (h : List Line) → StandsFor plan whole h → is_format2 (whole ++ x) ≡ is_format2 whole → IsBehind plan whole x h
is_behind plan whole x h stands same = go (is_format2 whole) same (text_by_format plan whole h stands)
  where
    go : (f : Bool) → is_format2 (whole ++ x) ≡ f → IsTextIn f plan whole h → IsBehind plan whole x h
    go f is text =
        let at : is_format2 (text_in f plan h ++ x) ≡ f = ap (λ y. is_format2 (y ++ x)) (sym text.2) ∙ is in
        let here = front_here f plan h x at in
        let P : List ℕ → Type 0 = λ y. IsBehind plan y x h in
        subst P (sym text.2) (record { before = here; next = front_on f plan h x at ∙ ap (λ y. y ++ first_lines 1 x) (sym here) })

are_before : (plan : Plan) (whole x : List ℕ) (h : List Line) → IsLawful plan h → StandsFor plan whole h → IsBehind plan whole x h → AreBefore plan (whole ++ x) (suc (length h)) h
are_before plan whole x h lawful stands behind =
    let P : List ℕ → Type 0 = λ y. StandsFor plan y h in
    (lawful, subst P (sym behind.before) stands)

pub piece_behind :
    (plan : Plan) (whole piece more : List ℕ) (h : List Line) → IsLawful plan h → StandsFor plan whole h
    → is_format2 (whole ++ (piece ++ (newline ++ more))) ≡ is_format2 whole → is_within_line piece ≡ true
    → AreBefore plan (whole ++ (piece ++ (newline ++ more))) (suc (length h)) h × IsPiece (whole ++ (piece ++ (newline ++ more))) (suc (length h)) piece
piece_behind plan whole piece more h lawful stands same within =
    let behind = is_behind plan whole (piece ++ (newline ++ more)) h stands same in
    let all = whole ++ (piece ++ (newline ++ more)) in (
      are_before plan whole (piece ++ (newline ++ more)) h lawful stands behind,
      (within, behind.next ∙ ap (λ y. front (length h) all ++ y) (first_piece 0 piece more within)),
    )

pub cut_behind :
    (plan : Plan) (whole rest : List ℕ) (h : List Line) → IsLawful plan h → StandsFor plan whole h
    → is_format2 (whole ++ rest) ≡ is_format2 whole → is_within_line rest ≡ true → rest ≢ []
    → AreBefore plan (whole ++ rest) (suc (length h)) h × IsCut (whole ++ rest) (suc (length h)) rest
cut_behind plan whole rest h lawful stands same within some =
    let behind = is_behind plan whole rest h stands same in (
      are_before plan whole rest h lawful stands behind,
      (within, some, behind.next ∙ ap (λ y. front (length h) (whole ++ rest) ++ y) (one_cut rest within)),
    )

-- the format is told by the first line
pub format_kept : (plan : Plan) (whole more : List ℕ) (h : List Line) → StandsFor plan whole h → whole ≢ [] → is_format2 (whole ++ more) ≡ is_format2 whole
format_kept plan whole more h stands some = go (is_format2 whole) refl (text_by_format plan whole h stands)
  where
    go : (f : Bool) → is_format2 whole ≡ f → IsTextIn f plan whole h → is_format2 (whole ++ more) ≡ is_format2 whole
    go f is text = ap (λ y. is_format2 (y ++ more)) text.2 ∙ (begins_as f plan h more (λ none. some (text.2 ∙ none)) ∙ sym is)

begun_whole : (w p more : List ℕ) → is_within_line w ≡ true → is_within_line p ≡ true → starts_with nat_eq (p ++ (newline ++ more)) (w ++ newline) ≡ true → p ≡ w
begun_whole [] [] more w_in p_in e = refl
begun_whole [] (b ∷ p) more w_in p_in e =
    let same : 10 ≡ b = eqb-true 10 b (and_parts (nat_eq 10 b) true e).0 in
    let inside = (and_parts (is_inside b) (is_within_line p) p_in).0 in
    let P : ℕ → Type 0 = λ x. is_inside x ≡ true in
    let no : false ≡ true = subst P (sym same) inside in
    cc
begun_whole (c ∷ w) [] more w_in p_in e =
    let same : c ≡ 10 = eqb-true c 10 (and_parts (nat_eq c 10) (starts_with nat_eq more (w ++ newline)) e).0 in
    let inside = (and_parts (is_inside c) (is_within_line w) w_in).0 in
    let P : ℕ → Type 0 = λ x. is_inside x ≡ true in
    let no : false ≡ true = subst P same inside in
    cc
begun_whole (c ∷ w) (b ∷ p) more w_in p_in e =
    let parts = and_parts (nat_eq c b) (starts_with nat_eq (p ++ (newline ++ more)) (w ++ newline)) e in
    let head : c ≡ b = eqb-true c b parts.0 in
    let tail : p ≡ w = begun_whole w p more (and_parts (is_inside c) (is_within_line w) w_in).1 (and_parts (is_inside b) (is_within_line p) p_in).1 parts.1 in
    cc

pub header_line : (piece more : List ℕ) → is_within_line piece ≡ true → is_format2 (piece ++ (newline ++ more)) ≡ true → piece ++ newline ≡ header
header_line piece more within is = ap (λ y. y ++ newline) (begun_whole (codes "pm_trace 2") piece more refl within is)

unbegun : (w r : List ℕ) → is_within_line w ≡ true → is_within_line r ≡ true → starts_with nat_eq r (w ++ newline) ≡ true → ⊥
unbegun [] [] w_in r_in e = cc
unbegun (c ∷ w) [] w_in r_in e = cc
unbegun [] (b ∷ r) w_in r_in e =
    let same : 10 ≡ b = eqb-true 10 b (and_parts (nat_eq 10 b) true e).0 in
    let inside = (and_parts (is_inside b) (is_within_line r) r_in).0 in
    let P : ℕ → Type 0 = λ x. is_inside x ≡ true in
    let no : false ≡ true = subst P (sym same) inside in
    cc
unbegun (c ∷ w) (b ∷ r) w_in r_in e =
    let parts = and_parts (nat_eq c b) (starts_with nat_eq r (w ++ newline)) e in
    unbegun w r (and_parts (is_inside c) (is_within_line w) w_in).1 (and_parts (is_inside b) (is_within_line r) r_in).1 parts.1

pub no_header : (rest : List ℕ) → is_within_line rest ≡ true → is_format2 rest ≡ false
no_header rest within = false_from_ne_true (is_format2 rest) (unbegun (codes "pm_trace 2") rest refl within)
