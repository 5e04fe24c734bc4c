-- The lines of a lawful run in order: the one at a place comes behind those before it.
use Rattle.std.proofs.Common.{ℕ, ◌≡◌, ◌+◌, ◌<◌, Bool, true, ◌++◌, List, [], ◌∷◌, drop, get_or, length, reverse, take, ap, sym, subst, ◌∙◌}
use Rattle.std.specs.List.{list_all}
use Rattle.std.proofs.lemmas.Bool.{and_parts}
use Rattle.std.proofs.lemmas.List.{reverse-append, take-append-drop, take_more}
use Rattle.pm_model.specs.declared.event.Line.{Line}
use Rattle.pm_model.specs.declared.plan.Plan.{Plan}
use Rattle.pm_model.specs.History.{History}
use Rattle.pm_model.specs.Lawful.{IsLawful}
use Rattle.pm_model.specs.LineOf.{is_line_of}

-- one line more is read
pub reverse_more : (lines : List Line) (i : ℕ) (e : Line) → i < length lines → reverse (take (i + 1) lines) ≡ get_or lines i e ∷ reverse (take i lines)
reverse_more lines i e within = ap reverse (take_more lines i e within) ∙ reverse-append (take i lines) (get_or lines i e ∷ [])

lawful_rest : (plan : Plan) (more h : History) → IsLawful plan (more ++ h) → IsLawful plan h
lawful_rest plan [] h lawful = lawful
lawful_rest plan (line ∷ more) h lawful = lawful_rest plan more h lawful.2

-- the lines before a place are lawful
pub lawful_take : (plan : Plan) (lines : List Line) (i : ℕ) → IsLawful plan (reverse lines) → IsLawful plan (reverse (take i lines))
lawful_take plan lines i lawful =
    let parts = ap reverse (sym (take-append-drop i lines)) ∙ reverse-append (take i lines) (drop i lines) in
    lawful_rest plan (reverse (drop i lines)) (reverse (take i lines)) (subst (λ h. IsLawful plan h) parts lawful)

-- the line there may come behind them, and the plan has room for it
pub lawful_at : (plan : Plan) (lines : List Line) (i : ℕ) (e : Line) → i < length lines → IsLawful plan (reverse lines) → IsLawful plan (get_or lines i e ∷ reverse (take i lines))
lawful_at plan lines i e within lawful = subst (λ h. IsLawful plan h) (reverse_more lines i e within) (lawful_take plan lines (i + 1) lawful)

among : {X : Type 0} (p : X → Bool) (xs ys : List X) (y : X) → list_all p (xs ++ y ∷ ys) ≡ true → p y ≡ true
among p [] ys y all = (and_parts (p y) (list_all p ys) all).0
among p (x ∷ xs) ys y all = among p xs ys y (and_parts (p x) (list_all p (xs ++ y ∷ ys)) all).1

reverse_parts : (lines : List Line) (i : ℕ) (e : Line) → i < length lines → reverse lines ≡ reverse (drop (i + 1) lines) ++ (get_or lines i e ∷ reverse (take i lines))
reverse_parts lines i e within =
    ap reverse (sym (take-append-drop (i + 1) lines)) ∙ reverse-append (take (i + 1) lines) (drop (i + 1) lines) ∙ ap (λ l. reverse (drop (i + 1) lines) ++ l) (reverse_more lines i e within)

-- it is one of the plan's lines
pub line_at : (plan : Plan) (lines : List Line) (i : ℕ) (e : Line) → i < length lines → list_all (is_line_of plan) (reverse lines) ≡ true → is_line_of plan (get_or lines i e) ≡ true
line_at plan lines i e within all =
    among (is_line_of plan) (reverse (drop (i + 1) lines)) (reverse (take i lines)) (get_or lines i e)
    (ap (list_all (is_line_of plan)) (sym (reverse_parts lines i e within)) ∙ all)
