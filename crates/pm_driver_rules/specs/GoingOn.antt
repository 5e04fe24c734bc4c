-- The driver of some rules: where its programs go on (this project's own).
use Rattle.std.specs.Prelude.{ℕ, ℤ, ◌≡◌, Bool, true, false, not, ◌&&◌, ◌||◌, List, Option, count_by, length, map, nat_eq, nat_lt, pos, slice_index_or, if◌then◌else◌}
use Rattle.std.specs.List.{list_all, zip}
use Rattle.std.specs.Option.{option_map_or}
use Rattle.pm_base.specs.declared.DevId.{DevId}
use Rattle.pm_base.specs.declared.Status.{Status}
use Rattle.pm_base.specs.declared.Status.TheVariants as status
use Rattle.pm_model.specs.Derived.{is_counted_child}
use Rattle.pm_model.specs.Views.{fresh_device}
use Rattle.pm_model.specs.declared.plan.Plan.{Plan}
use Rattle.pm_model.specs.declared.rows.DeviceRow.{DeviceRow}
use Rattle.pm_model.specs.declared.views.Device.{Device}
use Rattle.pm_driver_text.specs.declared.verbs.CodeTest.{CodeTest}
use Rattle.pm_driver_text.specs.declared.verbs.CodeTest.TheVariants as test
use Rattle.pm_driver_text.specs.declared.verbs.Question.{Question}
use Rattle.pm_driver_text.specs.declared.verbs.Question.TheVariants as question
use Rattle.pm_driver_script.specs.declared.calls.Asked.{Asked}
use Rattle.pm_driver_script.specs.declared.program.PlaceExit.{PlaceExit}
use Rattle.pm_driver_script.specs.declared.program.ProgramPlace.{ProgramPlace}
use Rattle.pm_driver_orders.specs.Drivers.{Driver}
use Rattle.pm_driver_orders.specs.Programs.{Exit, Test, Ways}
use Rattle.pm_driver_orders.specs.Programs.Test.{Negative, Nonzero, Is}
use Rattle.pm_driver_rules.specs.declared.rules.CallerRules.{CallerRules}
use Rattle.pm_driver_rules.specs.declared.rules.DriverRules.{DriverRules}
use Rattle.pm_driver_rules.specs.Rules.{depth_at, is_active_status, may_call, status_at}

abbrev pub test_of : CodeTest → Test
test_of test.Negative = Negative
test_of test.Nonzero = Nonzero
test_of (test.Is code) = Is code

abbrev pub exit_of : PlaceExit → Exit
exit_of e = record { test = test_of e.test; to = e.to }

abbrev pub is_suspended_status : Status → Bool
is_suspended_status status.Suspended = true
is_suspended_status _ = false

abbrev pub usage_at : List Device → DevId → ℕ
usage_at devices d = (slice_index_or devices d.0 fresh_device).usage

abbrev pub ignores_at : List Device → DevId → Bool
ignores_at devices d = (slice_index_or devices d.0 fresh_device).ignores

-- children of d that count, as `children` of pm_model counts them
abbrev pub has_child_in : List DeviceRow → List Device → DevId → Bool
has_child_in rows devices d = nat_lt 0 (count_by (λ p. is_counted_child d p.0 p.1) (zip rows devices))

-- d has to come up again where it is forced down: it has more than one count, or children that it doesn't ignore
-- (pm_runtime_need_not_resume in drivers/base/power/runtime.c)
abbrev pub needs_resume : List DeviceRow → List Device → DevId → Bool
needs_resume rows devices d = nat_lt 1 (usage_at devices d) || has_child_in rows devices d && not (ignores_at devices d)

-- what a question of a device is answered (runtime_pm.rst, section 6)
abbrev pub is_so : List DeviceRow → List Device → DevId → Question → Bool
is_so rows devices d question.Suspended = is_suspended_status (status_at devices d) && nat_eq (depth_at devices d) 0
is_so rows devices d question.StatusSuspended = is_suspended_status (status_at devices d)
is_so rows devices d question.Active = is_active_status (status_at devices d) || not (nat_eq (depth_at devices d) 0)
is_so rows devices d question.Enabled = nat_eq (depth_at devices d) 0
is_so rows devices d question.StillActive = is_active_status (status_at devices d)
is_so rows devices d question.NeedsResume = needs_resume rows devices d

abbrev pub said : Bool → ℤ
said b = if b then pos 1 else pos 0

-- what answers a call: the code that it returned, or what its step asks
abbrev pub answer_of : Option Asked → List DeviceRow → List Device → ℤ → ℤ
answer_of asks rows devices code = option_map_or (λ a. said (is_so rows devices a.dev a.question)) asks code

abbrev pub ways_of : Plan → ProgramPlace → Ways
ways_of plan place = record { answers = λ v code. answer_of place.asks plan.devices v.devices code; exits = map exit_of place.exits; otherwise = place.otherwise }

abbrev pub ways_of_callers : Plan → List CallerRules → List (List Ways)
ways_of_callers plan callers = map (λ caller. map (ways_of plan) caller.program.now.places) callers

-- no idle callback of the plan has codes
abbrev pub IsIdle : Plan → Type 0
IsIdle plan = list_all (λ row. option_map_or (λ codes. nat_eq (length codes) 0) row.idle true) plan.devices ≡ true

abbrev pub driver_of : DriverRules → Driver
driver_of rules = record {
  plan = rules.plan.now;
  ways = ways_of_callers rules.plan.now rules.callers.now;
  may_call = λ ps v c. may_call rules.callers.now ps v.devices c;
  idle = rules.idle;
}
