-- What only follows from something else that is reported (this project's own).
use Rattle.std.specs.Prelude.{ℕ, ◌≡◌, ◌&&◌, ⊤, Bool, true, false, List, [], ◌∷◌, Option, Some, None, filter, map, nat_eq, if◌then◌else◌}
use Rattle.pm_explore.specs.declared.schedule.Pace.{Pace}
use Rattle.pm_explore.specs.declared.schedule.Pace.TheVariants as pace
use Rattle.pm_driver_find.specs.Following.{IsBefore, ShowsBefore, ShowsNoneAt}
use Rattle.pm_driver_find.specs.declared.examined.ExaminedDriver.{ExaminedDriver}
use Rattle.pm_driver_find.specs.declared.firsts.DriverFinding.{DriverFinding}
use Rattle.pm_driver_read.specs.declared.driver.Driver.{Driver}
use Rattle.pm_driver_rules.specs.Nodes.{driver_snapshot_of}
use Rattle.pm_find.specs.declared.findings.Weight.{Weight}
use Rattle.pm_find.specs.declared.findings.Weight.TheVariants as weight
use Rattle.pm_driver_report.specs.Lines.{sight_weight}
use Rattle.pm_driver_report.specs.declared.lines.DriverLine.{DriverLine}
use Rattle.pm_driver_report.specs.declared.passes.DriverPass.{DriverPass}

abbrev pub is_same_pace : Pace → Pace → Bool
is_same_pace pace.Eager pace.Eager = true
is_same_pace pace.Late pace.Late = true
is_same_pace _ _ = false

-- what was gone through of a pace with at most so many failing callbacks
abbrev pub pass_of : List DriverPass → Pace → ℕ → Option DriverPass
pass_of [] p failures = None
pass_of (pass ∷ passes) p failures = if is_same_pace pass.pace p && nat_eq pass.failures failures then Some pass else pass_of passes p failures

-- those of what is told that are errors
abbrev pub is_error : Weight → Bool
is_error weight.Error = true
is_error _ = false

abbrev pub is_grave : Driver → DriverFinding → Bool
is_grave d finding = is_error (sight_weight d finding.sight)

abbrev pub graves : Driver → DriverPass → List DriverFinding
graves d pass = filter (is_grave d) pass.all.told.items

-- it is a note
abbrev pub as_note : DriverLine → DriverLine
as_note line = record line { weight = weight.Note }

-- On the way to where it shows first no error that is told of the pass shows before; or one does, and then it is a note.
pub data IsWeighed (d : Driver) (E : ExaminedDriver) (pass : DriverPass) (line made : DriverLine) : Type 0 where
  own : ((q : ℕ) → IsBefore pass.all.found.tree.parents.items line.place q → ShowsNoneAt E (map driver_snapshot_of pass.all.found.tree.nodes.keys) (graves d pass) q) → made ≡ line → IsWeighed d E pass line made
  follows : (number : ℕ) → ShowsBefore E (map driver_snapshot_of pass.all.found.tree.nodes.keys) pass.all.found.tree.parents.items (graves d pass) line.place number → made ≡ as_note line → IsWeighed d E pass line made

abbrev pub IsWeighedIn : Driver → ExaminedDriver → Option DriverPass → DriverLine → DriverLine → Type 0
IsWeighedIn d E (Some pass) line made = IsWeighed d E pass line made
IsWeighedIn d E None line made = made ≡ line

-- each of some lines
abbrev pub AreWeighed : Driver → ExaminedDriver → List DriverPass → List DriverLine → List DriverLine → Type 0
AreWeighed d E passes [] [] = ⊤
AreWeighed d E passes (line ∷ lines) (made ∷ weighed) = IsWeighedIn d E (pass_of passes line.pace line.allowed) line made × AreWeighed d E passes lines weighed
AreWeighed d E passes _ _ = ⊥
