-- Which device a line may turn (this project's own).
use Rattle.std.specs.Prelude.{◌≡◌, Bool, true, not, Option, Some, None}
use Rattle.pm_base.specs.declared.DevId.{DevId}
use Rattle.pm_model.specs.declared.event.Event.{Event}
use Rattle.pm_model.specs.declared.event.Event.TheVariants as event
use Rattle.pm_model.specs.declared.event.Helper.TheVariants as helper
use Rattle.pm_model.specs.Counted.{is_same}

-- the device whose status, or whose ignoring of its children, a line of this event may turn
abbrev pub turned_by : Event → Option DevId
turned_by (event.State d w) = Some d
turned_by (event.Begin d k) = Some d
turned_by (event.End d k c) = Some d
turned_by (event.Ret helper.IgnoreChildren d c) = Some d
turned_by _ = None

-- x is another device, if there is one
abbrev pub is_apart : DevId → Option DevId → Bool
is_apart x None = true
is_apart x (Some d) = not (is_same x d)

abbrev pub IsApart : DevId → Option DevId → Type 0
IsApart x turned = is_apart x turned ≡ true
