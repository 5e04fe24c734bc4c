-- Which bytes may come next, as the text of a line behind a lawful list (this project's own).
use Rattle.std.specs.Prelude.{ℕ, ◌<◌, Bool, List, length}
use Rattle.pm_model.specs.declared.event.Line.{Line}
use Rattle.pm_model.specs.declared.plan.Plan.{Plan}
use Rattle.pm_model.specs.Lawful.{Permits, last_time}
use Rattle.pm_model.specs.Text.{IsTextBehind}

-- In format 2 where that is true, the bytes are the text of a line that may come next, and the plan has room for it.
pub record IsNext (format2 : Bool) (plan : Plan) (h : List Line) (piece : List ℕ) : Type 0 where
  pub line : Line
  pub spelled : IsTextBehind format2 plan (last_time h) line piece
  pub permits : Permits plan h line
  pub room : length h < plan.lines
