-- Rows that stay in a region, row by row.
use Rattle.std.proofs.Common.{◌≡◌, Bool, true, false, Some, None, if◌then◌else◌, refl}
use Rattle.pm_base.specs.declared.DevId.{DevId}
use Rattle.pm_model.specs.declared.event.Event.{Event}
use Rattle.pm_model.specs.declared.event.Helper.{Helper}
use Rattle.pm_model.specs.declared.plan.Plan.{Plan}
use Rattle.pm_model.specs.declared.stage.Then.{Then}
use Rattle.pm_model.specs.Spelling.{takes_device}
use Rattle.pm_model.specs.WellFormed.{called_for}
use Rattle.pm_model.specs.Row.{Row, writes, waits}
use Rattle.pm_model.specs.declared.stage.Change.{Change}
use Rattle.pm_laws.proofs.islands.Region.{Region, ChangeIn, DeviceIn, EventIn, StagesIn, StaysIn}

pub ok : {plan : Plan} {k : Region plan} {e : Event} {change : Change} {next : Then} → EventIn k e → ChangeIn k change → StagesIn k next.push
    → StaysIn plan k (writes e change next)
ok e c s = record { paid = (e, c, s) }

pub waiting : {plan : Plan} {k : Region plan} {d : DevId} → k.inside d.0 ≡ true → StaysIn plan k (waits d)
waiting i = record { paid = i }

pub either : {plan : Plan} {k : Region plan} {x y : Row} (b : Bool) → (b ≡ true → StaysIn plan k x) → (b ≡ false → StaysIn plan k y)
    → StaysIn plan k (if b then x else y)
either {plan} {k} {x} {y} b f g = go b f g
  where
    go : (b : Bool) → (b ≡ true → StaysIn plan k x) → (b ≡ false → StaysIn plan k y) → StaysIn plan k (if b then x else y)
    go true f g = f refl
    go false f g = g refl

pub both : {plan : Plan} {k : Region plan} {x y : Row} (b : Bool) → StaysIn plan k x → StaysIn plan k y → StaysIn plan k (if b then x else y)
both b f g = either b (λ _. f) (λ _. g)

pub both_next : {plan : Plan} {k : Region plan} {e : Event} {change : Change} {x y : Then} (b : Bool) → StaysIn plan k (writes e change x)
    → StaysIn plan k (writes e change y) → StaysIn plan k (writes e change (if b then x else y))
both_next true p q = p
both_next false p q = q

-- a helper that is called for a device of the region
pub called_in : {plan : Plan} (k : Region plan) (h : Helper) (d : DevId) → k.inside d.0 ≡ true → DeviceIn k (called_for h d)
called_in {plan} k h d i = go (takes_device h)
  where
    go : (b : Bool) → DeviceIn k (if b then Some d else None)
    go true = i
    go false = tt
