-- What a judge keeps of a run, for which lists of lines it stands, and what it answers (this project's own). Lists have
-- the newest line first.
use Rattle.std.specs.Prelude.{ℕ, ◌≡◌, ◌<◌, ◌≤◌, ◌^◌, List, Result, Ok, Err, length}
use Rattle.pm_model.specs.declared.event.Line.{Line}
use Rattle.pm_model.specs.declared.plan.Plan.{Plan}
use Rattle.pm_model.specs.Lawful.{IsLawful, Permits, last_time}
use Rattle.pm_model.specs.NoWhy.{IsNeverPermitted, IsPermittedSometime}
use Rattle.pm_model.specs.World.{World, world}
use Rattle.pm_state.specs.Standing.{IsOf, Standing}
use Rattle.pm_book.specs.declared.judge.Bad.{Bad}
use Rattle.pm_book.specs.declared.judge.Bad.TheVariants as bad

-- a plan, where a run of it stands, when its last line was written, 0 where there is none, and how many lines it has
pub record Judged : Type 0 where
  pub plan : Plan
  pub world : World
  pub last : ℕ
  pub lines : ℕ

-- it stands for these lines: its counters, places and calls are those after them, its last time and its number of lines
-- theirs
pub record JudgeStandsFor (j : Judged) (h : List Line) : Type 0 where
  pub world_is : j.world ≡ world j.plan h
  pub last_is : j.last ≡ last_time h
  pub lines_are : j.lines ≡ length h

-- What is answered of a line behind a lawful list: the line is taken where it may come next and the plan has room for
-- it. Else the first of these is what is wrong: the plan has no room, at no time may the line come next, or it may at
-- another time.
abbrev pub IsAnswer : Plan → List Line → Line → Result (Unit {0}) Bad → Type 0
IsAnswer plan h line (Ok _) = (length h < plan.lines) × Permits plan h line
IsAnswer plan h line (Err bad.Limit) = plan.lines ≤ length h
IsAnswer plan h line (Err bad.Step) = (length h < plan.lines) × IsNeverPermitted plan h line
IsAnswer plan h line (Err bad.Time) = (length h < plan.lines) × IsPermittedSometime plan h line × (Permits plan h line → ⊥)

-- what each judge keeps: it stands for some lawful list of its plan
pub record StandsForSome (plan : Plan) (state : Standing) (last lines : ℕ) : Type 0 where
  pub list : List Line
  pub lawful : IsLawful plan list
  pub stands : JudgeStandsFor (record { plan = plan; world = state.world; last = last; lines = lines }) list
  pub is_of : IsOf plan state
  pub in_time : last < 2 ^ 63
