-- How a run goes on from a schedule (this project's own). Lists have the newest line first.
use Rattle.std.specs.Prelude.{◌≡◌, ◌≤◌, ◌+◌, false, List, [], ◌∷◌, ◌++◌, length}
use Rattle.pm_model.specs.declared.event.Line.{Line}
use Rattle.pm_model.specs.declared.plan.Plan.{Plan}
use Rattle.pm_model.specs.History.{History}
use Rattle.pm_model.specs.Lawful.{IsFinished, is_finished, last_time}
use Rattle.pm_model.specs.World.{world}
use Rattle.pm_serial.specs.declared.running.End.{End}
use Rattle.pm_serial.specs.declared.running.End.TheVariants as end
use Rattle.pm_serial.specs.Ends.{whole}

-- each line comes at most 1,000,000 milliseconds after the one before
abbrev pub IsNear : History → Type 0
IsNear [] = Unit {0}
IsNear (line ∷ h) = (line.time ≤ last_time h + 1000000) × IsNear h

-- the run is finished; or it isn't, and has all the lines that the plan allows
abbrev pub IsEndOf : Plan → History → End → Type 0
IsEndOf plan h end.Finished = IsFinished plan h
IsEndOf plan h end.AtLimit = (plan.lines ≤ length h) × (is_finished plan (world plan h) ≡ false)

-- the run begins with the lines of the order, and from there one thread goes on with it; where the order is finished it has no
-- line more
pub record GoesOnFrom (plan : Plan) (order h : History) (e : End) : Type 0 where
  pub more : List Line
  pub begins : h ≡ more ++ order
  pub goes_on : h ≡ whole plan order
  pub stays : IsFinished plan order → h ≡ order
  pub ends : IsEndOf plan h e
