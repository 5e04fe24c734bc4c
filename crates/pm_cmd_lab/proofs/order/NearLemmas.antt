-- Lines that come near one another.
use Rattle.std.proofs.Common.{ℕ, ◌≡◌, ◌∙◌, ◌+◌, ◌<◌, ◌≤◌, List, [], ◌∷◌, ◌++◌, ap, get_or, length, reverse, subst, sym, take}
use Rattle.std.proofs.lemmas.List.{reverse-append, take_all, take_more}
use Rattle.pm_model.specs.declared.event.Line.{Line}
use Rattle.pm_model.specs.History.{History}
use Rattle.pm_model.specs.Lawful.{last_time}
use Rattle.pm_outcomes.specs.witness.Going.{IsNear}

-- the newest of so many lines, and those before it
newest : (lines : List Line) (i : ℕ) (d : Line) → i < length lines → reverse (take (i + 1) lines) ≡ get_or lines i d ∷ reverse (take i lines)
newest lines i d lt = ap reverse (take_more lines i d lt) ∙ reverse-append (take i lines) (get_or lines i d ∷ [])

pub near_more : (lines : List Line) (i : ℕ) (d : Line) (last : ℕ) → i < length lines → last ≡ last_time (reverse (take i lines)) → (get_or lines i d).time ≤ last + 1000000 → IsNear (reverse (take i lines)) → IsNear (reverse (take (i + 1) lines))
near_more lines i d last lt is le near = subst IsNear (sym (newest lines i d lt)) (subst (λ n. (get_or lines i d).time ≤ n + 1000000) is le, near)

pub last_more : (lines : List Line) (i : ℕ) (d : Line) → i < length lines → (get_or lines i d).time ≡ last_time (reverse (take (i + 1) lines))
last_more lines i d lt = sym (ap last_time (newest lines i d lt))

pub near_all : (lines : List Line) (i : ℕ) → length lines ≤ i → IsNear (reverse (take i lines)) → IsNear (reverse lines)
near_all lines i le near = subst (λ (l : List Line). IsNear (reverse l)) (take_all i lines le) near
