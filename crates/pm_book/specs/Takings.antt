-- What a taker shows, and for which lists it stands (this project's own). Lists have the newest line first.
use Rattle.std.specs.Prelude.{◌≡◌, ◌≤◌, List, Option, IfSome, reverse}
use Rattle.pm_model.specs.declared.event.Line.{Line}
use Rattle.pm_model.specs.Lawful.{IsLawful}
use Rattle.pm_book.specs.Judging.{JudgeStandsFor, Judged}
use Rattle.pm_book.specs.Pages.{running}
use Rattle.pm_book.specs.Sheets.{Sheet}

-- its judge, and the lines that were taken, where they are kept
pub record Takings : Type 0 where
  pub judge : Judged
  pub kept : Option (List Line)

-- it stands for these lines: its judge does, and where it keeps lines it keeps these
pub record TakerStandsFor (t : Takings) (h : List Line) : Type 0 where
  pub judged : JudgeStandsFor t.judge h
  pub kept : IfSome t.kept (λ lines. lines ≡ h)

-- the lines are lawful, and the judge stands for them; there may be as many as the plan allows, and for the end line of
-- each callback that runs a place is kept
pub record IsListOf (j : Judged) (sheet : Sheet) : Type 0 where
  pub lawful : IsLawful j.plan (reverse sheet.lines)
  pub judged : JudgeStandsFor j (reverse sheet.lines)
  pub limit_is : sheet.limit ≡ j.plan.lines
  pub each : running j.world ≤ sheet.ends
