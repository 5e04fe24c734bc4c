-- What is shown while the lines of a run are read again (this project's own).
use Rattle.std.specs.Prelude.{ℕ, ◌≡◌, ◌+◌, ◌++◌, List, Some, slice_get}
use Rattle.pm_model.specs.declared.event.Line.{Line}
use Rattle.pm_model.specs.declared.plan.Plan.{Plan}
use Rattle.pm_lanes.specs.declared.shown.Piece.{Piece}
use Rattle.pm_book.specs.Replayed.{Replayed}
use Rattle.pm_lanes.specs.Pieces.{at_line, shown_by}

-- what is shown from the line at this place on is appended, by where the run stands before and behind it
abbrev pub IsStep : Plan → List Line → ℕ → Replayed → Replayed → List Piece → List Piece → Type 0
IsStep plan lines place before after old new =
    (line : Line) → slice_get lines place ≡ Some line → new ≡ old ++ at_line (place + 1) (shown_by plan before.standing.world line after.standing.world)
