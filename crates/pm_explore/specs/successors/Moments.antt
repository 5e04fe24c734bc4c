-- Moments that are noted once (this project's own).
use Rattle.std.specs.Prelude.{ℕ, ◌<◌, ◌⊎◌, List}
use Rattle.std.specs.List.{Contains}

-- to the moments of a list those of others are added that are later than a time
pub record AreWith (from : ℕ) (old others new : List ℕ) : Type 0 where
  pub sound : (t : ℕ) → Contains new t → Contains old t ⊎ ((from < t) × Contains others t)
  pub keeps : (t : ℕ) → Contains old t → Contains new t
  pub adds : (t : ℕ) → from < t → Contains others t → Contains new t
