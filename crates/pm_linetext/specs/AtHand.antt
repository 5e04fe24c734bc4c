-- The texts of the actors of a plan, each with the space behind it, beside its names.
use Rattle.std.specs.Prelude.{ℕ, ◌≡◌, ◌++◌, List, [], codes, map}
use Rattle.pm_linetext.specs.NamesFit.{NamesFit}
use Rattle.pm_model.specs.Spelling.{Names, space}

-- of the actors of one sort, by what leads to their names
abbrev pub texts_of : List ℕ → List (List ℕ) → List (List ℕ)
texts_of lead names = map (λ name. lead ++ (name ++ space)) names

-- names that fit, and the texts of their callers, work items and timers
pub record AreAtHand (names : Names) (callers works timers : List (List ℕ)) : Type 0 where
  pub fit : NamesFit names
  pub callers_are : callers ≡ texts_of [] names.callers
  pub works_are : works ≡ texts_of (codes "work.") names.devices
  pub timers_are : timers ≡ texts_of (codes "timer.") names.devices
