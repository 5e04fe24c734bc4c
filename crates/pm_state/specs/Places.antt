-- The open stages of actors, and how many there is room for (this project's own).
use Rattle.std.specs.Prelude.{ℕ, ◌≡◌, ◌≤◌, Bool, List, [], ◌∷◌, Option, Some, None, is_none, length, slice_index_or}
use Rattle.std.specs.List.{list_all}
use Rattle.pm_model.specs.declared.stage.Stage.{Stage}

-- the open stages of some actors, and for how many each of their places has room
pub record Stacks : Type 0 where
  pub stages : List (List Stage)
  pub room : ℕ

-- there is room for the stages of each actor
abbrev pub HasRoom : ℕ → List (List Stage) → Type 0
HasRoom room stages = (i : ℕ) → length (slice_index_or stages i []) ≤ room

-- the stages of an actor: the one that writes next, if any is open, over those below it
abbrev pub stages_over : Option Stage → List Stage → List Stage
stages_over None below = []
stages_over (Some top) below = top ∷ below

-- where no stage is open there is none below
abbrev pub IsStack : Option Stage → List Stage → Type 0
IsStack None below = below ≡ []
IsStack (Some top) below = Unit {0}

-- the stages of each actor
abbrev pub all_over : List (Option Stage) → List (List Stage) → List (List Stage)
all_over [] below = []
all_over (t ∷ tops) [] = []
all_over (t ∷ tops) (b ∷ below) = stages_over t b ∷ all_over tops below

-- each actor has its stages, of which none is below where none writes next
pub record AreTopped (tops : List (Option Stage)) (below : List (List Stage)) : Type 0 where
  pub each : length below ≡ length tops
  pub stacks : (i : ℕ) → IsStack (slice_index_or tops i None) (slice_index_or below i [])

-- none writes next
abbrev pub are_none : List (Option Stage) → Bool
are_none tops = list_all is_none tops
