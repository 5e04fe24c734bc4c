-- Where a schedule of a driver has come to its end (this project's own).
use Rattle.std.specs.Prelude.{ℕ, ◌+◌, ◌-◌, Bool, true, false, not, ◌&&◌, ◌||◌, List, [], ◌∷◌, Option, None, length, nat_lt, option_map, slice_get, if◌then◌else◌}
use Rattle.std.specs.Option.{option_and_then, option_map_or}
use Rattle.pm_driver_orders.specs.DriverObservations.{is_quiet}
use Rattle.pm_driver_orders.specs.DriverSnapshots.{DriverSnapshot}
use Rattle.pm_driver_orders.specs.declared.Position.{Position}
use Rattle.pm_driver_orders.specs.declared.Position.TheVariants.{At, In}
use Rattle.pm_driver_rules.specs.Rules.{is_begin_of, is_returned, may_call}
use Rattle.pm_driver_rules.specs.declared.rules.CallerRules.{CallerRules}
use Rattle.pm_driver_script.specs.declared.goals.Goal.{Goal}
use Rattle.pm_driver_script.specs.declared.goals.Goal.TheVariants as goal
use Rattle.pm_driver_script.specs.declared.places.Standing.{Standing}
use Rattle.pm_driver_script.specs.declared.program.Program.{Program}
use Rattle.pm_driver_script.specs.declared.program.ProgramPlace.{ProgramPlace}
use Rattle.pm_driver_find.specs.declared.ends.BindEvent.{BindEvent}
use Rattle.pm_driver_find.specs.declared.ends.BindEvent.TheVariants as event
use Rattle.pm_driver_find.specs.declared.examined.CallerOrigin.{CallerOrigin}
use Rattle.pm_driver_find.specs.declared.examined.ExaminedDriver.{ExaminedDriver}

-- the test holds of one of these, counted on from a number
abbrev pub any_at : {A : Type 0} → (ℕ → A → Bool) → ℕ → List A → Bool
any_at test i [] = false
any_at test i (x ∷ xs) = test i x || any_at test (i + 1) xs

abbrev pub callers_of : ExaminedDriver → List CallerRules
callers_of E = E.rules.now.callers.now

-- the caller of a number may call
abbrev pub may_call_on : List CallerRules → DriverSnapshot → ℕ → CallerRules → Bool
may_call_on callers s c caller = may_call callers s.positions s.snapshot.world.views.devices c

-- nothing more may come: nobody has anything to do, and no caller may call
abbrev pub is_over : ExaminedDriver → DriverSnapshot → Bool
is_over E s = is_quiet s.snapshot.world && not (any_at (may_call_on (callers_of E) s) 0 (callers_of E))

-- a turn of the program begins at the place
abbrev pub begins_turn : Program → ProgramPlace → Bool
begins_turn program place = is_begin_of program place.standing

-- a caller that stands there is within a turn of its program
abbrev pub is_within : Program → Position → Bool
is_within program (In k) = true
is_within program (At k) = option_map_or (λ place. not (begins_turn program place)) (slice_get program.places k) false

abbrev pub stands_within : List Position → ℕ → CallerRules → Bool
stands_within ps c caller = option_map_or (is_within caller.program.now) (slice_get ps c) false

-- nothing more may come, and each caller has ended or hasn't begun
abbrev pub is_at_rest : ExaminedDriver → DriverSnapshot → Bool
is_at_rest E s = is_over E s && not (any_at (stands_within s.positions) 0 (callers_of E))

-- the end of its program at which a caller stands there
abbrev pub end_at : Program → Position → Option Goal
end_at program (At k) = if nat_lt k (length program.places) then None else option_map (λ (s : Standing). s.goal) (slice_get program.ends (k - length program.places))
end_at program (In k) = None

abbrev pub is_failed : Goal → Bool
is_failed goal.Failed = true
is_failed _ = false

-- a probe has returned, or has failed, or a remove has ended
abbrev pub has_come : BindEvent → CallerOrigin → Goal → Bool
has_come event.Bound origin end = origin.is_probe && is_returned end
has_come event.ProbeFailed origin end = origin.is_probe && is_failed end
has_come event.Removed origin end = origin.is_remove

abbrev pub came_at : BindEvent → CallerOrigin → CallerRules → Option Position → Bool
came_at event origin caller p = option_map_or (has_come event origin) (option_and_then (end_at caller.program.now) p) false

abbrev pub came_by : BindEvent → List CallerOrigin → List Position → ℕ → CallerRules → Bool
came_by event origins ps c caller = option_map_or (λ origin. came_at event origin caller (slice_get ps c)) (slice_get origins c) false

abbrev pub has_happened : ExaminedDriver → DriverSnapshot → BindEvent → Bool
has_happened E s event = any_at (came_by event E.origins.now s.positions) 0 (callers_of E)

-- what a probe holds is to be given back: none has returned, or a remove has ended
abbrev pub is_unbound : ExaminedDriver → DriverSnapshot → Bool
is_unbound E s = not (has_happened E s event.Bound) || has_happened E s event.Removed

-- what a probe set up is to be undone: one has failed and none has returned, or a remove has ended
abbrev pub is_undone : ExaminedDriver → DriverSnapshot → Bool
is_undone E s = is_unbound E s && (has_happened E s event.ProbeFailed || has_happened E s event.Removed)
