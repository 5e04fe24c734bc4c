-- The changes that a row of the call table names beside those that its event makes of itself (runtime_pm.rst, sections
-- 2, 3, 4 and 9; the changes of links and of ignore_children are this project's own).
use Rattle.std.specs.Prelude.{ℕ, ◌+◌, ◌-◌, Bool, false, List, None, ℤ, map, nat_eq, if◌then◌else◌}
use Rattle.std.specs.List.{zip}
use Rattle.std.specs.Option.{option_map_or}
use Rattle.pm_base.specs.declared.DevId.{DevId}
use Rattle.pm_base.specs.declared.Req.{Req}
use Rattle.pm_base.specs.declared.Req.TheVariants.{Nothing}
use Rattle.pm_model.specs.declared.plan.Plan.{Plan}
use Rattle.pm_model.specs.PlanRows.{marks_busy, is_of_pair}
use Rattle.pm_model.specs.Derived.{is_active}
use Rattle.pm_model.specs.Views.{Views, device, pending_of, timer, with_device, with_pending, with_timer}

abbrev pub set_request : Req → DevId → Views → Views
set_request r d v = with_pending v d (record (pending_of v d) { request = r })

abbrev pub set_queued : Bool → DevId → Views → Views
set_queued b d v = with_pending v d (record (pending_of v d) { queued = b })

abbrev pub set_deferred : Bool → DevId → Views → Views
set_deferred b d v = with_pending v d (record (pending_of v d) { deferred = b })

abbrev pub disarm : DevId → Views → Views
disarm d v = with_timer v d None

-- no request and no timer
abbrev pub cancel : DevId → Views → Views
cancel d v = disarm d (set_request Nothing d v)

-- no request, no timer and nothing queued
abbrev pub cancel_all : DevId → Views → Views
cancel_all d v = set_queued false d (cancel d v)

-- an autosuspend has armed the timer
unfoldable pub has_auto_timer : Views → DevId → Bool
has_auto_timer v d = option_map_or (λ armed. armed.autosuspends) (timer v d) false

-- what a resume cancels: the request, and the timer unless an autosuspend armed it (runtime_pm.rst, section 2)
unfoldable pub rcancel : DevId → Views → Views
rcancel d v = if has_auto_timer v d then set_request Nothing d v else cancel d v

abbrev pub set_last_busy : ℕ → DevId → Views → Views
set_last_busy t d v = with_device v d (record (device v d) { last_busy = t })

-- a callback that ends at t marks a device that the plan calls busy
unfoldable pub callback_marks : Plan → DevId → ℕ → Views → Views
callback_marks plan d t v = if marks_busy plan d then set_last_busy t d v else v

abbrev pub set_depth : ℕ → DevId → Views → Views
set_depth n d v = with_device v d (record (device v d) { depth = n })

abbrev pub set_last : Bool → DevId → Views → Views
set_last b d v = with_device v d (record (device v d) { last_active = b })

abbrev pub disables : DevId → Views → Views
disables d v = set_depth ((device v d).depth + 1) d v

-- the depth rises, and all is cancelled
abbrev pub disables_busy : DevId → Views → Views
disables_busy d v = cancel_all d (disables d v)

-- of the last status it is kept whether it was Active
abbrev pub keeps_status : DevId → Views → Views
keeps_status d v = set_last (is_active v d) d v

-- the depth rises, all is cancelled, and the last status is kept
abbrev pub disabled_at_once : DevId → Views → Views
disabled_at_once d v = set_last (is_active v d) d (disables_busy d v)

-- the depth falls by one; at 0 the last status is forgotten
unfoldable pub enables : DevId → Views → Views
enables d v =
    if nat_eq (device v d).depth 1 then set_last false d (set_depth 0 d v) else set_depth ((device v d).depth - 1) d v

-- whether autosuspend is in use, and its delay
abbrev pub set_setting : Bool → ℤ → DevId → Views → Views
set_setting use_auto delay d v = with_device v d (record (device v d) { use_auto = use_auto; delay = delay })

abbrev pub set_ignores : Bool → DevId → Views → Views
set_ignores b d v = with_device v d (record (device v d) { ignores = b })

-- each link of the pair gets the value, every other keeps its own
abbrev pub at_pair : Plan → DevId → DevId → Bool → List Bool → List Bool
at_pair plan consumer supplier b old =
    map (λ p. if is_of_pair consumer supplier p.0 then b else p.1) (zip plan.links old)

unfoldable pub set_held : Plan → DevId → DevId → Bool → Views → Views
set_held plan consumer supplier b v = record v { held = at_pair plan consumer supplier b v.held }

unfoldable pub set_present : Plan → DevId → DevId → Bool → Views → Views
set_present plan consumer supplier b v = record v { present = at_pair plan consumer supplier b v.present }
