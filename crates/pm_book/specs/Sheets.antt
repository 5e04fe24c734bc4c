-- The lines of a book, and the places for more (this project's own).
use Rattle.std.specs.Prelude.{◌≡◌, ◌+◌, ◌-◌, ◌/◌, ◌<◌, ◌≤◌, ◌^◌, ◌++◌, ◌∷◌, ℕ, Bool, true, false, List, [], Option, Some, None, min, nat_le, if◌then◌else◌}
use Rattle.pm_model.specs.declared.event.Event.{Event}
use Rattle.pm_model.specs.declared.event.Event.TheVariants as event
use Rattle.pm_model.specs.declared.event.Line.{Line}

-- lines in order, for how many end lines a place is kept, how many lines there may be, and how many more can be written
-- without taking memory
pub record Sheet : Type 0 where
  pub lines : List Line
  pub ends : ℕ
  pub limit : ℕ
  pub spare : ℕ

-- the line begins a callback
abbrev pub begins_callback : Event → Bool
begins_callback (event.Begin d k) = true
begins_callback _ = false

-- how many more lines can be written without taking memory, where there are places for so many: each may begin a callback,
-- and for its end line a place is kept too; where there is a place for each line that may be, as many as are left
abbrev pub spare_of : (limit places lines ends : ℕ) → ℕ
spare_of limit places lines ends = if nat_le limit places then limit - lines else (places - (lines + ends)) / 2

-- the places are enough for the lines and for the end lines for which one is kept, or for all lines that may be; no more
-- are kept than there are lines that began a callback
pub record AreEnough (limit places lines ends : ℕ) : Type 0 where
  pub small : limit < 2 ^ 32
  pub few : lines ≤ limit
  pub begun : ends ≤ lines
  pub kept : min (lines + ends) limit ≤ places

-- one line more, for whose callback, where it begins one, a place is kept
pub record HasLine (old new : Sheet) (line : Line) (begins : ℕ) : Type 0 where
  pub lines : new.lines ≡ old.lines ++ line ∷ []
  pub ends : new.ends ≡ old.ends + begins
  pub limit : new.limit ≡ old.limit

-- lines that are kept are so with one more, or they are no longer kept; those that aren't kept stay so
abbrev pub KeepsLine : Option Sheet → Option Sheet → Line → ℕ → Type 0
KeepsLine (Some old) (Some new) line begins = HasLine old new line begins
KeepsLine None (Some new) line begins = ⊥
KeepsLine _ None line begins = Unit {0}
