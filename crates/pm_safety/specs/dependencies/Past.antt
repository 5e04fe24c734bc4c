-- What the lines tell of a device that may be an excuse (this project's own). Lists of lines have the newest line first; lines are
-- counted from 1.
use Rattle.std.specs.Prelude.{ℕ, ◌≡◌, ◌+◌, ◌<◌, Bool, false, not, ◌&&◌, List, ◌∷◌, length, nat_le, slice_index_or, if◌then◌else◌}
use Rattle.pm_base.specs.declared.DevId.{DevId}
use Rattle.pm_model.specs.declared.event.Event.{Event}
use Rattle.pm_model.specs.declared.plan.Plan.{Plan}
use Rattle.pm_model.specs.Counted.{only_if}
use Rattle.pm_model.specs.Derived.{is_active, is_disabled, is_suspended}
use Rattle.pm_model.specs.Excuse.{forces, is_entry, was_disabled_at_entry}
use Rattle.pm_model.specs.History.{History, last_said}
use Rattle.pm_model.specs.PlanRows.{parent_of}
use Rattle.pm_model.specs.Views.{Views, device}
use Rattle.pm_model.specs.World.{world}
use Rattle.pm_safety.specs.declared.dependencies.bond.Excuse.{Excuse}
use Rattle.pm_safety.specs.declared.dependencies.bond.Excuse.TheVariants as excuse
use Rattle.pm_safety.specs.declared.dependencies.past.Before.{Before}
use Rattle.pm_safety.specs.declared.dependencies.past.Past.{Past}
use Rattle.pm_safety.specs.dependencies.Excuses.{forced_line}

-- the last line at which d left Suspended, or 0
abbrev pub woke_line : Plan → History → DevId → ℕ
woke_line plan h d =
    last_said (λ g line. only_if (is_suspended (world plan g).views d && not (is_suspended (world plan (line ∷ g)).views d)) (length g + 1)) 0 h

-- what these lines tell of d
abbrev pub past_of : Plan → History → DevId → Past
past_of plan h d = record { forced = forced_line h d; woke = woke_line plan h d; disabled = was_disabled_at_entry plan h d (parent_of plan d) }

abbrev pub no_past : Past
no_past = record { forced = 0; woke = 0; disabled = false }

abbrev pub past_at : List Past → DevId → Past
past_at pasts d = slice_index_or pasts d.0 no_past

-- of each device of the plan
pub record ArePasts (plan : Plan) (h : History) (pasts : List Past) : Type 0 where
  pub entries : length pasts ≡ length plan.devices
  pub each : (d : DevId) → d.0 < length plan.devices → past_at pasts d ≡ past_of plan h d

-- how d stands on these views, before a line of this event
abbrev pub before_of : Plan → Views → DevId → Event → Before
before_of plan v d e = record {
  active = is_active v d;
  suspended = is_suspended v d;
  ignores = (device v d).ignores;
  enters = is_entry plan v d e;
  disabled = is_disabled v (parent_of plan d);
}

-- what a line of this number makes of the past of the device that it turns, which is Suspended after it or isn't
abbrev pub past_after : DevId → ℕ → Event → Before → Bool → Past → Past
past_after d number e before suspended x = record {
  forced = if forces d e then number else x.forced;
  woke = if before.suspended && not suspended then number else x.woke;
  disabled = if before.enters then before.disabled else x.disabled;
}

-- the excuse of a device with this past from another with that one
abbrev pub parent_excuse_by : Past → Past → Excuse
parent_excuse_by x y = if nat_le x.woke y.forced then excuse.Forced y.forced else if x.disabled then excuse.Disabled else excuse.Ignored

abbrev pub supplier_excuse_by : Past → Past → Excuse
supplier_excuse_by x y = if nat_le x.woke y.forced then excuse.Forced y.forced else excuse.Disabled
