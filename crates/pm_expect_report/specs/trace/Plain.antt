-- Expectations that fail, each with the line of its table, and how many there are (this project's own).
use Rattle.std.specs.Prelude.{◌≡◌, ◌≤◌, ℕ, List, ◌++◌, All, length}
use Rattle.std.specs.List.{flat_map, zip}
use Rattle.pm_expect.specs.text.Texts.{counts_text, failed_line}
use Rattle.pm_expect.specs.declared.text.items.Item.{Item}
use Rattle.pm_spans.specs.source.Places.{line_of}

-- it is a line of the text
abbrev pub IsLineOf : List ℕ → ℕ → Type 0
IsLineOf text n = (at : ℕ) × (at ≤ length text) × (n ≡ line_of text at)

-- a line for each that fails, which stands at this line of its file
abbrev pub failed_lines : List ℕ → List ℕ → List ℕ → List Item → List ℕ
failed_lines file trace places items = flat_map (λ p. failed_line file trace p.0 p.1.name p.1.outcome) (zip places items)

-- The lines of those that fail, and the counts. Of each expectation a line of its file is named; that its table begins there is left
-- open.
pub record IsPlain (file bytes trace : List ℕ) (items : List Item) (text : List ℕ) : Type 0 where
  pub places : List ℕ
  pub entries : length places ≡ length items
  pub lines : All (IsLineOf bytes) places
  pub is : text ≡ failed_lines file trace places items ++ counts_text items
