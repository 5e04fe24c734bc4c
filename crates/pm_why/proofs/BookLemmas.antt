-- The lines of a book, by their numbers.
use Rattle.std.proofs.Common.{◌≡◌, ℕ, ◌<◌, ◌≤◌, List, [], ◌∷◌, length, reverse, take, ap, ◌∙◌, arith}
use Rattle.std.proofs.lemmas.List.{length-reverse, length-take-le}
use Rattle.pm_base.specs.declared.DevId.{DevId}
use Rattle.pm_model.specs.declared.event.Line.{Line}
use Rattle.pm_model.specs.declared.plan.Plan.{Plan}
use Rattle.pm_model.specs.History.{History}
use Rattle.pm_model.specs.Lawful.{IsLawful}

-- so many lines stand before a place
pub before : (lines : List Line) (i : ℕ) → i < length lines → length (reverse (take i lines)) ≡ i
before lines i within = length-reverse (take i lines) ∙ length-take-le i lines (omega arith)

-- a lawful list has no more lines than its plan allows
pub fits : (plan : Plan) (h : History) → IsLawful plan h → length h ≤ plan.lines
fits plan [] lawful = omega arith
fits plan (line ∷ h) lawful = lawful.1

pub dev_is : (d e : DevId) → d.0 ≡ e.0 → d ≡ e
dev_is d e same = ap (λ (n : ℕ). record { 0 = n }) same
