-- The order of hints: they come out as they were put in, and each pass knows its own (this project's own).
use Rattle.std.specs.Prelude.{ℕ, ◌≡◌, ◌≤◌, List, [], ◌∷◌, ◌++◌, length, map, nat_eq}
use Rattle.std.specs.List.{filter}
use mathlib.Core.Option.{some}
use lib.ListN.{get_elem?}
use Rattle.pm_wq.specs.declared.rule.Log.{Log}

-- a pass that has told nothing and was answered nothing
abbrev pub nothing : Log
nothing = record { told = []; answered = [] }

-- one more hint told, and one more answered
abbrev pub with_told : Log → ℕ → Log
with_told v island = record { told = v.told ++ island ∷ []; answered = v.answered }

abbrev pub with_answer : Log → ℕ → Log
with_answer v island = record { told = v.told; answered = v.answered ++ island ∷ [] }

-- hints, each with the pass that told it or was answered it
abbrev pub Passed : Type 0
Passed = List (ℕ × ℕ)

abbrev pub islands : Passed → List ℕ
islands all = map (λ x. x.1) all

-- those of one pass
abbrev pub of_pass : ℕ → Passed → List ℕ
of_pass pass all = islands (filter (λ x. nat_eq x.0 pass) all)

-- the hints that were told are those that were answered and those that wait, in one order
abbrev pub Waiting : List ℕ → Passed → Passed → Type 0
Waiting items told answered = islands told ≡ islands answered ++ items

-- a pass knows its own
abbrev pub Knows : ℕ → Log → Passed → Passed → Type 0
Knows pass v told answered = (v.told ≡ of_pass pass told) × (v.answered ≡ of_pass pass answered)

-- hints come out in the order in which they were put in; each pass knows its own, and there are no others
pub record Orders (items : List ℕ) (views : List Log) : Type 0 where
  pub told : Passed
  pub answered : Passed
  pub waiting : Waiting items told answered
  pub each : (pass : ℕ) (v : Log) → get_elem? views pass ≡ some v → Knows pass v told answered
  pub others : (pass : ℕ) → length views ≤ pass → Knows pass nothing told answered

abbrev pub IsInOrder : List ℕ → List Log → Type 0
IsInOrder items views = Orders items views

-- these hints wait, where a pass has told and was answered what this one was
abbrev pub Fits : Log → List ℕ → Type 0
Fits v items = (pass : ℕ) × (told : Passed) × (answered : Passed) × Waiting items told answered × Knows pass v told answered
