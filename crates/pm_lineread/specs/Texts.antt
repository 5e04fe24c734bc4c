-- How far bytes begin as the text of a line of a plan (this project's own).
use Rattle.std.specs.Prelude.{◌≡◌, ℕ, ◌≤◌, List, length, nat_eq, ◌⊎◌}
use Rattle.std.specs.List.{common_prefix_len}
use Rattle.pm_model.specs.declared.event.Line.{Line}

-- The first at bytes are the longest front that is also a front of some line's text: some line has a text that
-- begins with them, and no line's text has more in common with the bytes. Where no line has a text, it is 0.
pub record IsLongest (IsText : Line → List ℕ → Type 0) (bytes : List ℕ) (at : ℕ) : Type 0 where
  pub within : at ≤ length bytes
  pub reached : (at ≡ 0) ⊎ ((line : Line) × (text : List ℕ) × IsText line text × (at ≤ common_prefix_len nat_eq bytes text))
  pub most : (line : Line) (text : List ℕ) → IsText line text → common_prefix_len nat_eq bytes text ≤ at
