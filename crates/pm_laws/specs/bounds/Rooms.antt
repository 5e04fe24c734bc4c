-- The counts of a device that have room for one more, and the lines that tell of callbacks (this project's own).
use Rattle.std.specs.Prelude.{ℕ, ◌≡◌, Bool, true, false, ◌&&◌, count_by}
use Rattle.pm_base.specs.declared.Cb.{Cb}
use Rattle.pm_base.specs.declared.DevId.{DevId}
use Rattle.pm_model.specs.declared.event.Event.{Event}
use Rattle.pm_model.specs.declared.event.Event.TheVariants as event
use Rattle.pm_model.specs.CanTake.{has_room}
use Rattle.pm_model.specs.Counted.{is_cb, is_same}
use Rattle.pm_model.specs.Derived.{begun}
use Rattle.pm_model.specs.History.{History}
use Rattle.pm_model.specs.Views.{Views, device}

-- the event begins this callback of d
abbrev pub begins : Cb → DevId → Event → Bool
begins k d (event.Begin e j) = is_cb k j && is_same d e
begins k d _ = false

abbrev pub begin_lines : Cb → History → DevId → ℕ
begin_lines k h d = count_by (λ line. begins k d line.event) h

-- one more can be counted of each count of a device
pub record HasRooms (v : Views) (d : DevId) : Type 0 where
  pub depth : has_room (device v d).depth ≡ true
  pub usage : has_room (device v d).usage ≡ true
  pub share : has_room (device v d).share ≡ true
  pub begun : (k : Cb) → has_room (begun v k d) ≡ true
