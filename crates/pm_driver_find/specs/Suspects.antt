-- What is looked for in the schedules of a driver (this project's own).
use Rattle.std.specs.Prelude.{ℕ, ◌+◌, ℤ, Bool, true, false, not, ◌&&◌, ◌||◌, List, [], ◌∷◌, ◌++◌, Option, Some, None, int_lt, pos, slice_get, if◌then◌else◌}
use Rattle.std.specs.List.{list_any}
use Rattle.std.specs.Option.{option_map_or}
use Rattle.std.specs.Ordering.{int_eq}
use Rattle.pm_base.specs.declared.codes.TheConstants.{EACCES, EAGAIN, EBUSY}
use Rattle.pm_base.specs.declared.DevId.{DevId}
use Rattle.pm_model.specs.declared.event.Helper.{Helper}
use Rattle.pm_model.specs.declared.event.Helper.TheVariants as helper
use Rattle.pm_driver_text.specs.declared.verbs.CodeTest.{CodeTest}
use Rattle.pm_driver_text.specs.declared.verbs.CodeTest.TheVariants as test
use Rattle.pm_driver_script.specs.declared.calls.Guard.{Guard}
use Rattle.pm_driver_script.specs.declared.calls.Guard.TheVariants as guard
use Rattle.pm_driver_script.specs.declared.program.PlaceExit.{PlaceExit}
use Rattle.pm_driver_script.specs.declared.program.Program.{Program}
use Rattle.pm_driver_script.specs.declared.program.ProgramPlace.{ProgramPlace}
use Rattle.pm_driver_rules.specs.declared.rules.CallerRules.{CallerRules}
use Rattle.pm_driver_find.specs.declared.ahead.Aim.TheVariants as aim
use Rattle.pm_driver_find.specs.declared.examined.CallerOrigin.{CallerOrigin}
use Rattle.pm_driver_find.specs.declared.examined.ExaminedDriver.{ExaminedDriver}
use Rattle.pm_driver_find.specs.declared.sights.DriverSight.{DriverSight}
use Rattle.pm_driver_find.specs.declared.sights.DriverSight.TheVariants as sight
use Rattle.pm_driver_find.specs.Ahead.{ahead_of, is_marked, is_put}
use Rattle.pm_driver_find.specs.Ends.{begins_turn, callers_of}
use Rattle.pm_driver_find.specs.Leftovers.{devices_from, is_own}

-- an exit is for this very code
abbrev pub is_test_for : ℤ → CodeTest → Bool
is_test_for code (test.Is own) = int_eq own code
is_test_for code _ = false

abbrev pub is_for : ℤ → PlaceExit → Bool
is_for code exit = is_test_for code exit.test

-- an exit is for a call that has failed
abbrev pub is_failure_test : CodeTest → Bool
is_failure_test (test.Is code) = int_lt code (pos 0) && not (int_eq code EACCES)
is_failure_test _ = true

abbrev pub is_for_failures : PlaceExit → Bool
is_for_failures exit = is_failure_test exit.test

-- a get or a resume, which answers -13 where its device is disabled (runtime_pm.rst, section 4)
abbrev pub resumes : Helper → Bool
resumes helper.GetSync = true
resumes helper.Get = true
resumes helper.Resume = true
resumes helper.RequestResume = true
resumes _ = false

-- one that returns when the device has resumed
abbrev pub resumes_now : Helper → Bool
resumes_now helper.GetSync = true
resumes_now helper.Resume = true
resumes_now _ = false

-- a change of status, which is refused with -11 or -16 (runtime_pm.rst, section 4): right where its step has an exit
abbrev pub sets_status : Helper → Bool
sets_status helper.SetActive = true
sets_status helper.SetSuspended = true
sets_status _ = false

abbrev pub is_open : Guard → Bool
is_open guard.Open = true
is_open _ = false

-- a step has an exit for a call that has failed
abbrev pub reads_failures : ProgramPlace → Bool
reads_failures place = place.reads && list_any is_for_failures place.exits

-- one of those is marked at which a program goes on from a call that has failed
abbrev pub fails_to : List Bool → ProgramPlace → Bool
fails_to marks place = list_any (λ (x : PlaceExit). is_for_failures x && is_marked marks x.to) place.exits || list_any (is_marked marks) place.otherwise

-- from such a call the device may come to be used
abbrev pub leads_to_touch : Program → ProgramPlace → Bool
leads_to_touch program place = fails_to (ahead_of program (aim.Touch place.command.dev)) place

abbrev pub unread_access : ℕ → ℕ → ProgramPlace → List DriverSight
unread_access c k place = if resumes place.command.helper && not (list_any (is_for EACCES) place.exits) then sight.Answers c k EACCES ∷ [] else []

abbrev pub unread_failure : ℕ → Program → ℕ → ProgramPlace → List DriverSight
unread_failure c program k place =
    if not (resumes_now place.command.helper) || reads_failures place then []
    else if leads_to_touch program place then sight.FailsUnread c k ∷ []
    else []

abbrev pub refused_status : ℕ → ℕ → ProgramPlace → List DriverSight
refused_status c k place = if sets_status place.command.helper && not place.reads then sight.Answers c k EAGAIN ∷ sight.Answers c k EBUSY ∷ [] else []

abbrev pub refused_put : ℕ → ℕ → ProgramPlace → List DriverSight
refused_put c k place = if is_put place.command.helper then sight.PutsNone c k place.command.dev ∷ [] else []

abbrev pub touched_off : ℕ → ℕ → Option DevId → List DriverSight
touched_off c k (Some d) = sight.MeetsOff c k d ∷ []
touched_off c k None = []

-- a call that waits, within a turn
abbrev pub hanging : ℕ → Program → ℕ → ProgramPlace → List DriverSight
hanging c program k place = if not (is_open place.guard) && not (begins_turn program place) then sight.Hangs c k ∷ [] else []

-- what is looked for at a place of a step of the file
abbrev pub own_suspects : ℕ → Program → ℕ → ProgramPlace → List DriverSight
own_suspects c program k place =
    unread_access c k place ++ unread_failure c program k place ++ refused_status c k place ++ refused_put c k place ++ touched_off c k place.touches
    ++ hanging c program k place

-- none where the driver core calls
abbrev pub place_suspects : ℕ → List (Option ℕ) → Program → ℕ → ProgramPlace → List DriverSight
place_suspects c lines program k place = if is_own lines place.standing.goal then own_suspects c program k place else []

-- at its places, counted on from a number, and at those of callers
abbrev pub program_suspects : ℕ → List (Option ℕ) → Program → ℕ → List ProgramPlace → List DriverSight
program_suspects c lines program k [] = []
program_suspects c lines program k (place ∷ places) = place_suspects c lines program k place ++ program_suspects c lines program (k + 1) places

-- the step of the file that each step of a caller's program is of
abbrev pub lines_at : List CallerOrigin → ℕ → List (Option ℕ)
lines_at origins c = option_map_or (λ (origin : CallerOrigin). origin.lines.now) (slice_get origins c) []

abbrev pub caller_suspects : List CallerOrigin → ℕ → CallerRules → List DriverSight
caller_suspects origins c caller = program_suspects c (lines_at origins c) caller.program.now 0 caller.program.now.places

abbrev pub suspects_from : List CallerOrigin → ℕ → List CallerRules → List DriverSight
suspects_from origins c [] = []
suspects_from origins c (caller ∷ callers) = caller_suspects origins c caller ++ suspects_from origins (c + 1) callers

-- all that is looked for
abbrev pub suspects_of : ExaminedDriver → List DriverSight
suspects_of E = suspects_from E.origins.now 0 (callers_of E) ++ devices_from E 0 E.rules.now.plan.now.devices
