-- How a run on one thread goes on and ends (this project's own).
use Rattle.std.specs.Prelude.{◌≡◌, ◌++◌, ◌-◌, ◌≤◌, false, true, List, length, reverse}
use Rattle.pm_model.specs.declared.event.Line.{Line}
use Rattle.pm_model.specs.declared.plan.Plan.{Plan}
use Rattle.pm_model.specs.History.{History}
use Rattle.pm_model.specs.Lawful.{IsFinished, is_finished}
use Rattle.pm_model.specs.Serial.{goes_on, serial}
use Rattle.pm_model.specs.World.{world}
use Rattle.pm_book.specs.Pages.{Pages, is_full, world_of}
use Rattle.pm_book.specs.Turn.{HasTime}
use Rattle.pm_serial.specs.declared.running.End.{End}
use Rattle.pm_serial.specs.declared.running.End.TheVariants as end

-- the lines of the whole run to which one thread goes on from these, the newest first
abbrev pub whole : Plan → History → History
whole plan h = goes_on plan (plan.lines - length h) h

-- all the lines that the plan still allows can be written without taking memory
abbrev pub HasMemory : Pages → Type 0
HasMemory p = p.plan.lines - length p.lines ≤ p.spare

-- some lines more, the newest first, on the way to the same whole run, and there is time for the rest of it
pub record GoesOn (old new : Pages) : Type 0 where
  pub plan_is : new.plan ≡ old.plan
  pub more : List Line
  pub lines_are : new.lines ≡ more ++ old.lines
  pub whole_is : whole new.plan new.lines ≡ whole old.plan old.lines
  pub in_time : HasTime new.plan new.lines

-- the run is finished; or it isn't, and the list has all the lines that its plan allows
abbrev pub IsEnd : Pages → End → Type 0
IsEnd p end.Finished = is_finished p.plan (world_of p) ≡ true
IsEnd p end.AtLimit = (is_full p ≡ true) × (is_finished p.plan (world_of p) ≡ false)

-- the run that one thread makes of the plan is finished; or it isn't, and has all the lines that the plan allows
abbrev pub IsSerialEnd : Plan → End → Type 0
IsSerialEnd plan end.Finished = IsFinished plan (reverse (serial plan))
IsSerialEnd plan end.AtLimit = (length (serial plan) ≡ plan.lines) × (is_finished plan (world plan (reverse (serial plan))) ≡ false)
