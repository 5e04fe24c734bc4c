-- The device that a line may turn.
use Rattle.std.proofs.Common.{◌≡◌, ◌<◌, true, Some, length, subst}
use Rattle.std.proofs.lemmas.Bool.{and_parts, ltb-true}
use Rattle.pm_base.specs.declared.DevId.{DevId}
use Rattle.pm_model.specs.declared.event.Event.{Event}
use Rattle.pm_model.specs.declared.event.Event.TheVariants as event
use Rattle.pm_model.specs.declared.event.Helper.TheVariants as helper
use Rattle.pm_model.specs.declared.event.Line.{Line}
use Rattle.pm_model.specs.declared.plan.Plan.{Plan}
use Rattle.pm_model.specs.LineOf.{is_event_of, is_line_of}
use Rattle.pm_safety.specs.dependencies.Turning.{turned_by}

-- it is one of the plan's
pub device_of : (plan : Plan) (line : Line) (d : DevId) → is_line_of plan line ≡ true → turned_by line.event ≡ Some d → d.0 < length plan.devices
device_of plan line d is turned =
    go line.event (and_parts _ _ is).1 turned
  where
    same : (x : DevId) → Some x ≡ Some d → x.0 < length plan.devices → d.0 < length plan.devices
    same x e lt = let k : x ≡ d = cc in subst (λ (y : DevId). y.0 < length plan.devices) k lt

    go : (e : Event) → is_event_of (length plan.devices) e ≡ true → turned_by e ≡ Some d → d.0 < length plan.devices
    go (event.State x w) i t = same x t (ltb-true x.0 (length plan.devices) i)
    go (event.Begin x k) i t = same x t (ltb-true x.0 (length plan.devices) i)
    go (event.End x k c) i t = same x t (ltb-true x.0 (length plan.devices) (and_parts _ _ i).0)
    go (event.Ret helper.IgnoreChildren x c) i t = same x t (ltb-true x.0 (length plan.devices) (and_parts _ _ i).0)
    go _ i t = cc
