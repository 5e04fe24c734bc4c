-- No count passes the lines that raise it, so one more can be counted.
use Rattle.std.proofs.Common.{ℕ, suc, ◌≡◌, ◌+◌, ◌^◌, ◌≤◌, true, List, length, ap, arith, inl, inr}
use Rattle.std.proofs.lemmas.Bool.{cases_lt, lt-ltb}
use Rattle.std.proofs.lemmas.List.{get_or_past}
use Rattle.std.proofs.lemmas.List.Sums.{count_by-le-length}
use Rattle.pm_base.specs.declared.Cb.{Cb}
use Rattle.pm_base.specs.declared.Cb.TheVariants as cb
use Rattle.pm_base.specs.declared.DevId.{DevId}
use Rattle.pm_model.specs.declared.event.Line.{Line}
use Rattle.pm_model.specs.declared.plan.Plan.{Plan}
use Rattle.pm_model.specs.declared.views.Device.{Device}
use Rattle.pm_model.specs.CanTake.{has_room}
use Rattle.pm_model.specs.Counted.{gets, is_callers, takes}
use Rattle.pm_model.specs.Derived.{begun}
use Rattle.pm_model.specs.Lawful.{IsLawful}
use Rattle.pm_model.specs.Views.{Views, device, fresh_device}
use Rattle.pm_model.specs.World.{world}
use Rattle.pm_laws.proofs.counts.Runs.{lawful_holds}
use Rattle.pm_laws.proofs.counts.Said.{share_counted, usage_counted}
use Rattle.pm_laws.specs.bounds.Rooms.{HasRooms, begins, begin_lines}
use Rattle.pm_laws.proofs.bounds.Begun.{begins_counted}
use Rattle.pm_laws.proofs.bounds.Limits.{lines_bounded}
use Rattle.pm_laws.proofs.bounds.Rising.{within_lines}

-- beyond the plan's devices every count is that of a fresh device
beyond : (plan : Plan) (h : List Line) (d : DevId) → IsLawful plan h → length plan.devices ≤ d.0 → device (world plan h).views d ≡ fresh_device
beyond plan h d lawful past =
    let all = lawful_holds plan h lawful in get_or_past (world plan h).views.devices d.0 fresh_device (omega (arith, all.entries.devices))

pub depth_bounded : (plan : Plan) (h : List Line) (d : DevId) → IsLawful plan h → (device (world plan h).views d).depth ≤ suc (length h)
depth_bounded plan h d lawful = (within_lines plan h lawful d).0

pub usage_bounded : (plan : Plan) (h : List Line) (d : DevId) → IsLawful plan h → (device (world plan h).views d).usage ≤ gets (λ w. true) h d
usage_bounded plan h d lawful = elim (cases_lt d.0 (length plan.devices)) [
  | inl within ↦ omega (arith, usage_counted plan h d lawful within)
  | inr past ↦ rw (beyond plan h d lawful past) (omega arith)
]

pub share_bounded : (plan : Plan) (h : List Line) (d : DevId) → IsLawful plan h → (device (world plan h).views d).share ≤ gets is_callers h d
share_bounded plan h d lawful = elim (cases_lt d.0 (length plan.devices)) [
  | inl within ↦ omega (arith, share_counted plan h d lawful within)
  | inr past ↦ rw (beyond plan h d lawful past) (omega arith)
]

fresh_begun : (k : Cb) (v : Views) (d : DevId) → device v d ≡ fresh_device → begun v k d ≡ 0
fresh_begun cb.Idle v d is = ap (λ (x : Device). x.begun_idle) is
fresh_begun cb.Suspend v d is = ap (λ (x : Device). x.begun_suspend) is
fresh_begun cb.Resume v d is = ap (λ (x : Device). x.begun_resume) is

pub begun_bounded : (plan : Plan) (h : List Line) (k : Cb) (d : DevId) → IsLawful plan h → begun (world plan h).views k d ≤ begin_lines k h d
begun_bounded plan h k d lawful = elim (cases_lt d.0 (length plan.devices)) [
  | inl within ↦ omega (arith, begins_counted plan h k d lawful within)
  | inr past ↦ omega (arith, fresh_begun k (world plan h).views d (beyond plan h d lawful past))
]

pub room : (n : ℕ) → n ≤ 200001 → has_room n ≡ true
room n few = lt-ltb (n + 1) (2 ^ 32) (omega (arith, few))

pub rooms : (plan : Plan) (h : List Line) (d : DevId) → IsLawful plan h → HasRooms (world plan h).views d
rooms plan h d lawful =
    let few = lines_bounded plan h lawful in
    record {
      depth = room _ (omega (arith, few, depth_bounded plan h d lawful));
      usage = room _ (omega (arith, few, usage_bounded plan h d lawful, count_by-le-length (λ (l : Line). takes (λ w. true) d l.event) h));
      share = room _ (omega (arith, few, share_bounded plan h d lawful, count_by-le-length (λ (l : Line). takes is_callers d l.event) h));
      begun = λ k. room _ (omega (arith, few, begun_bounded plan h k d lawful, count_by-le-length (λ (l : Line). begins k d l.event) h));
    }
