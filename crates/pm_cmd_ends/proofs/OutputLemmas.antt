-- What a sink took of a text that is written line by line.
use Rattle.std.proofs.Common.{◌≡◌, ℕ, ◌+◌, ◌<◌, ◌≤◌, List, [], ◌∷◌, ◌++◌, length, drop, get_or, reverse, refl, ap, ◌∙◌, subst, sym, true}
use Rattle.std.proofs.lemmas.List.{drop_more, reverse-append, reverse-reverse}
use Rattle.std.proofs.lemmas.Bool.{and_parts}
use Rattle.std.proofs.lemmas.List.Folds.{list_all-append}
use Rattle.std.proofs.lemmas.List.Sums.{AllPass-from_list_all}
use Rattle.std.specs.List.{AllPass, list_all}
use Rattle.std.specs.Prelude.{Result, Ok, Err, OnErr}
use Rattle.pm_model.specs.declared.event.Line.{Line}
use Rattle.pm_model.specs.declared.plan.Plan.{Plan}
use Rattle.pm_model.specs.Lawful.{IsLawful, last_time}
use Rattle.pm_model.specs.LineOf.{is_line_of}
use Rattle.pm_model.specs.Spelling.{header, line_text, line_text2, lines_text, lines_text2, newline}
use Rattle.pm_model.specs.Text.{names_of}
use Rattle.pm_cmd_ends.specs.Pieces.{AreInTime, header_piece, line_piece, line_pieces, text_in, time_behind}
use Rattle.pm_cmd_ends.specs.declared.output.Format.{Format}
use Rattle.pm_cmd_ends.specs.declared.output.Format.TheVariants.{One, Two}

time_append : (base : ℕ) (xs ys : List Line) → time_behind base (xs ++ ys) ≡ time_behind (time_behind base xs) ys
time_append base [] ys = refl
time_append base (x ∷ xs) ys = time_append x.time xs ys

in_time_last : (base : ℕ) (xs : List Line) (y : Line) → AreInTime base xs → time_behind base xs ≤ y.time → AreInTime base (xs ++ y ∷ [])
in_time_last base [] y holds last = (last, tt)
in_time_last base (x ∷ xs) y holds last = (holds.0, in_time_last x.time xs y holds.1 last)

-- the next line is no earlier than the one before it, and those behind it no earlier than it is
pub in_time_more : (base : ℕ) (lines : List Line) (i : ℕ) (d : Line) → i < length lines → AreInTime base (drop i lines) → AreInTime base (get_or lines i d ∷ drop (i + 1) lines)
in_time_more base lines i d within holds = subst (AreInTime base) (drop_more lines i d within) holds

-- the next line's piece, and those behind it
pub pieces_more : (format : Format) (plan : Plan) (base : ℕ) (lines : List Line) (i : ℕ) (d : Line) (piece : List ℕ) → i < length lines → piece ≡ line_piece format plan base (get_or lines i d)
    → line_pieces format plan base (drop i lines) ≡ piece ++ line_pieces format plan (get_or lines i d).time (drop (i + 1) lines)
pieces_more format plan base lines i d piece within is =
    ap (line_pieces format plan base) (drop_more lines i d within) ∙ ap (λ p. p ++ line_pieces format plan (get_or lines i d).time (drop (i + 1) lines)) (sym is)

-- what holds is so behind an error
pub behind_err : {T E P : Type 0} (r : Result T E) → P → OnErr r P
behind_err (Ok x) holds = tt
behind_err (Err e) holds = holds

-- the lines of a lawful list, in order, are in time
last_behind : (plan : Plan) (h : List Line) → time_behind 0 (reverse h) ≡ last_time h
last_behind plan [] = refl
last_behind plan (line ∷ h) = ap (time_behind 0) (reverse-append (line ∷ []) h) ∙ time_append 0 (reverse h) (line ∷ [])

lawful_in_time : (plan : Plan) (h : List Line) → IsLawful plan h → AreInTime 0 (reverse h)
lawful_in_time plan [] lawful = tt
lawful_in_time plan (line ∷ h) lawful =
    let last : time_behind 0 (reverse h) ≤ line.time = rw (last_behind plan h) (lawful.0.in_time) in
    subst (AreInTime 0) (sym (reverse-append (line ∷ []) h)) (in_time_last 0 (reverse h) line (lawful_in_time plan h lawful.2) last)

pub lines_in_time : (plan : Plan) (lines : List Line) → IsLawful plan (reverse lines) → AreInTime 0 lines
lines_in_time plan lines lawful = subst (AreInTime 0) (reverse-reverse lines) (lawful_in_time plan (reverse lines) lawful)

-- the pieces are the text
text1_is_pieces : (plan : Plan) (base : ℕ) (lines : List Line) → lines_text (names_of plan) lines ≡ line_pieces One plan base lines
text1_is_pieces plan base [] = refl
text1_is_pieces plan base (line ∷ lines) = ap (λ more. (line_text (names_of plan) line ++ newline) ++ more) (text1_is_pieces plan line.time lines)

text2_is_pieces : (plan : Plan) (base : ℕ) (lines : List Line) → lines_text2 (names_of plan) base lines ≡ line_pieces Two plan base lines
text2_is_pieces plan base [] = refl
text2_is_pieces plan base (line ∷ lines) = ap (λ more. (line_text2 (names_of plan) base line ++ newline) ++ more) (text2_is_pieces plan line.time lines)

pub text_is_pieces : (format : Format) (plan : Plan) (lines : List Line) → text_in format plan lines ≡ header_piece format ++ line_pieces format plan 0 lines
text_is_pieces One plan lines = text1_is_pieces plan 0 lines
text_is_pieces Two plan lines = ap (λ more. header ++ more) (text2_is_pieces plan 0 lines)

-- each line of a list is a line of the plan, whichever way the list stands
of_plan_back : (plan : Plan) (h : List Line) → list_all (is_line_of plan) (reverse h) ≡ true → list_all (is_line_of plan) h ≡ true
of_plan_back plan [] all = refl
of_plan_back plan (line ∷ h) all =
    let parts = and_parts (list_all (is_line_of plan) (reverse h)) (list_all (is_line_of plan) (line ∷ []))
    (sym (list_all-append (is_line_of plan) (reverse h) (line ∷ [])) ∙ ap (list_all (is_line_of plan)) (sym (reverse-append (line ∷ []) h)) ∙ all) in
    let first : is_line_of plan line ≡ true = (and_parts (is_line_of plan line) true parts.1).0 in
    rw (first, of_plan_back plan h parts.0)

pub each_of_plan : (plan : Plan) (lines : List Line) → list_all (is_line_of plan) (reverse lines) ≡ true → AllPass (is_line_of plan) lines
each_of_plan plan lines all = AllPass-from_list_all (is_line_of plan) lines (of_plan_back plan lines all)
