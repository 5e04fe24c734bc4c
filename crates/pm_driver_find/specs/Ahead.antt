-- What may lie ahead of a place of a program (this project's own).
use Rattle.std.specs.Prelude.{ℕ, zero, suc, Bool, true, false, not, ◌&&◌, ◌||◌, List, [], ◌++◌, Option, length, map, nat_eq, slice_get, unwrap_or}
use Rattle.std.specs.List.{list_any}
use Rattle.std.specs.Option.{option_map_or}
use Rattle.pm_base.specs.declared.DevId.{DevId}
use Rattle.pm_model.specs.declared.event.Helper.{Helper}
use Rattle.pm_model.specs.declared.event.Helper.TheVariants as helper
use Rattle.pm_driver_rules.specs.Rules.{is_returned}
use Rattle.pm_driver_script.specs.declared.places.Standing.{Standing}
use Rattle.pm_driver_script.specs.declared.program.PlaceExit.{PlaceExit}
use Rattle.pm_driver_script.specs.declared.program.Program.{Program}
use Rattle.pm_driver_script.specs.declared.program.ProgramPlace.{ProgramPlace}
use Rattle.pm_driver_find.specs.declared.ahead.Aim.{Aim}
use Rattle.pm_driver_find.specs.declared.ahead.Aim.TheVariants as aim

-- a helper that gives a count back
abbrev pub is_put : Helper → Bool
is_put helper.Put = true
is_put helper.PutSync = true
is_put helper.PutNoidle = true
is_put helper.PutAutosuspend = true
is_put helper.PutSyncSuspend = true
is_put helper.PutSyncAutosuspend = true
is_put _ = false

abbrev pub is_of : Option DevId → DevId → Bool
is_of touched d = option_map_or (λ other. nat_eq other.0 d.0) touched false

-- a use of the device, or a return with no put of the device before it
abbrev pub meets : Aim → ProgramPlace → Bool
meets (aim.Touch d) place = is_of place.touches d
meets (aim.KeptReturn d) place = false

abbrev pub meets_end : Aim → Standing → Bool
meets_end (aim.Touch d) end = false
meets_end (aim.KeptReturn d) end = is_returned end.goal

abbrev pub bars : Aim → ProgramPlace → Bool
bars (aim.Touch d) place = false
bars (aim.KeptReturn d) place = is_put place.command.helper && nat_eq place.command.dev.0 d.0

-- one of those is marked at which a program may go on from a place
abbrev pub is_marked : List Bool → ℕ → Bool
is_marked marks k = unwrap_or (slice_get marks k) false

abbrev pub goes_to : List Bool → ProgramPlace → Bool
goes_to marks place = list_any (λ (x : PlaceExit). is_marked marks x.to) place.exits || list_any (is_marked marks) place.otherwise

-- it is looked for at the place, or behind it
abbrev pub comes_to : Aim → List Bool → ProgramPlace → Bool
comes_to a marks place = meets a place || (not (bars a place) && goes_to marks place)

abbrev pub marks_next : Program → Aim → List Bool → List Bool
marks_next program a marks = map (comes_to a marks) program.places ++ map (meets_end a) program.ends

-- for each place, and behind them for each end, whether a way of less than so many calls leads to what is looked for
abbrev pub marks_after : Program → Aim → ℕ → List Bool
marks_after program a zero = []
marks_after program a (suc n) = marks_next program a (marks_after program a n)

-- a way has each place once at most
abbrev pub ahead_of : Program → Aim → List Bool
ahead_of program a = marks_next program a (marks_after program a (length program.places))
