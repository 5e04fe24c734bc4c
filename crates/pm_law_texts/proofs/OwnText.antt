-- The text of a lawful list stands for it, and is no longer than a trace may be.
use Rattle.std.proofs.Common.{ℕ, ◌≡◌, ◌∙◌, ◌+◌, ◌*◌, ◌-◌, ◌≤◌, Bool, true, false, List, [], ◌∷◌, ◌++◌, length, length-append, nat_eq, reverse, inl, inr, if◌then◌else◌, ap, arith, refl, subst, sym}
use Rattle.std.specs.List.{list_all}
use Rattle.std.proofs.lemmas.Bool.{and_parts}
use Rattle.std.proofs.lemmas.List.{reverse-reverse}
use Rattle.pm_model.specs.declared.event.Line.{Line}
use Rattle.pm_model.specs.declared.plan.Plan.{Plan}
use Rattle.pm_model.specs.FirstBad.{AreLinesOf, StandsFor, TimesDontFall}
use Rattle.pm_model.specs.Lawful.{IsLawful, last_time}
use Rattle.pm_model.specs.LineOf.{is_line_of}
use Rattle.pm_model.specs.Spelling.{newline}
use Rattle.pm_model.specs.Text.{text, text1, text2}
use Rattle.pm_linetext.proofs.Lengths.{text_fits, text_len}
use Rattle.pm_laws.proofs.bounds.Limits.{lines_bounded}
use Rattle.pm_law_texts.proofs.Formats.{line_in, one_more, text_in}

rising : (plan : Plan) (h : List Line) → IsLawful plan h → TimesDontFall h
rising plan [] lawful = tt
rising plan (line ∷ h) lawful = (lawful.0.in_time, rising plan h lawful.2)

stands : (f : Bool) (plan : Plan) (h : List Line) → IsLawful plan h → AreLinesOf plan h → StandsFor plan (text_in f plan h) h
stands true plan h lawful of_plan = inr (of_plan, rising plan h lawful, refl)
stands false plan h lawful of_plan = inl (of_plan, refl)

line_len : (f : Bool) (plan : Plan) (base : ℕ) (line : Line) → is_line_of plan line ≡ true → length (line_in f plan base line) ≤ 177
line_len true plan base line is = text_len plan line (line.time - base) is (omega arith)
line_len false plan base line is = text_fits plan line is

-- the header, and each line with its newline
text_len_in : (f : Bool) (plan : Plan) (h : List Line) → AreLinesOf plan h → length (text_in f plan h) ≤ 11 + 178 * length h
text_len_in true plan [] of_plan = omega arith
text_len_in false plan [] of_plan = omega arith
text_len_in f plan (line ∷ h) of_plan =
    let parts = and_parts (is_line_of plan line) (list_all (is_line_of plan) h) of_plan in
    let piece = line_in f plan (last_time h) line in
    omega (
      arith,
      ap length (one_more f plan line h),
      length-append (text_in f plan h) (piece ++ newline),
      length-append piece newline,
      line_len f plan (last_time h) line parts.0,
      text_len_in f plan h parts.1,
    )

short : (f : Bool) (plan : Plan) (h : List Line) → IsLawful plan h → AreLinesOf plan h → length (text_in f plan h) ≤ 67108864
short f plan h lawful of_plan = omega (arith, text_len_in f plan h of_plan, lines_bounded plan h lawful)

-- the plan's own format
chosen : (f : Bool) (plan : Plan) (lines : List Line) → text_in f plan (reverse lines) ≡ (if f then text2 plan lines else text1 plan lines)
chosen true plan lines = ap (text2 plan) (reverse-reverse lines)
chosen false plan lines = ap (text1 plan) (reverse-reverse lines)

pub own_stands : (plan : Plan) (lines : List Line) → IsLawful plan (reverse lines) → AreLinesOf plan (reverse lines) → StandsFor plan (text plan lines) (reverse lines)
own_stands plan lines lawful of_plan =
    let f = nat_eq plan.trace 2 in
    subst (λ (bytes : List ℕ). StandsFor plan bytes (reverse lines)) (chosen f plan lines) (stands f plan (reverse lines) lawful of_plan)

pub format2_stands : (plan : Plan) (lines : List Line) → IsLawful plan (reverse lines) → AreLinesOf plan (reverse lines) → StandsFor plan (text2 plan lines) (reverse lines)
format2_stands plan lines lawful of_plan =
    subst (λ (bytes : List ℕ). StandsFor plan bytes (reverse lines)) (chosen true plan lines) (stands true plan (reverse lines) lawful of_plan)

pub own_short : (plan : Plan) (lines : List Line) → IsLawful plan (reverse lines) → AreLinesOf plan (reverse lines) → length (text plan lines) ≤ 67108864
own_short plan lines lawful of_plan =
    let f = nat_eq plan.trace 2 in
    subst (λ (bytes : List ℕ). length bytes ≤ 67108864) (chosen f plan lines) (short f plan (reverse lines) lawful of_plan)

pub format2_short : (plan : Plan) (lines : List Line) → IsLawful plan (reverse lines) → AreLinesOf plan (reverse lines) → length (text2 plan lines) ≤ 67108864
format2_short plan lines lawful of_plan =
    subst (λ (bytes : List ℕ). length bytes ≤ 67108864) (chosen true plan lines) (short true plan (reverse lines) lawful of_plan)
