-- How often a callback has begun is the number of its begin lines.
use Rattle.std.proofs.Common.{ℕ, zero, suc, ◌≡◌, ◌+◌, ◌<◌, cond, ◌&&◌, List, [], ◌∷◌, length, map, slice_index_or, ap, refl, arith}
use Rattle.std.proofs.lemmas.List.Sums.{sum_by-cons}
use Rattle.pm_base.specs.declared.Cb.{Cb}
use Rattle.pm_base.specs.declared.Cb.TheVariants as cb
use Rattle.pm_base.specs.declared.DevId.{DevId}
use Rattle.pm_model.specs.declared.event.Event.{Event}
use Rattle.pm_model.specs.declared.event.Event.TheVariants as event
use Rattle.pm_model.specs.declared.event.Line.{Line}
use Rattle.pm_model.specs.declared.plan.Plan.{Plan}
use Rattle.pm_model.specs.declared.rows.DeviceRow.{DeviceRow}
use Rattle.pm_model.specs.declared.stage.Change.{Change}
use Rattle.pm_model.specs.declared.stage.Change.TheVariants as change
use Rattle.pm_model.specs.ChangeViews.{change_views}
use Rattle.pm_model.specs.Counted.{is_cb, is_same}
use Rattle.pm_model.specs.Derived.{begun}
use Rattle.pm_model.specs.Events.{by_begin, by_event}
use Rattle.pm_model.specs.Lawful.{IsLawful}
use Rattle.pm_model.specs.Views.{Views, device, fresh_device}
use Rattle.pm_model.specs.World.{start_views, world}
use Rattle.pm_laws.specs.counts.Sums.{one}
use Rattle.pm_laws.proofs.counts.Givings.{raised}
use Rattle.pm_laws.proofs.counts.Runs.{lawful_holds, permitted}
use Rattle.pm_laws.proofs.counts.Said.{views_next}
use Rattle.pm_laws.proofs.counts.Turns.{entry_kept}
use Rattle.pm_laws.proofs.stacks.Steady.{Steady, change_steady, event_steady, steady_of}
use Rattle.pm_laws.specs.bounds.Rooms.{begins, begin_lines}

unmoved : (x y : ℕ) → x ≡ y → x ≡ y + 0
unmoved x y e = omega arith

same_begun : (k : Cb) (v v' : Views) (d : DevId) → steady_of (device v' d) ≡ steady_of (device v d) → begun v' k d ≡ begun v k d
same_begun cb.Idle v v' d same = ap (λ (x : Steady). x.idle) same
same_begun cb.Suspend v v' d same = ap (λ (x : Steady). x.suspend) same
same_begun cb.Resume v v' d same = ap (λ (x : Steady). x.resume) same

begin_counted : (j k : Cb) (v : Views) (e d : DevId) → d.0 < length v.devices → begun (by_begin e j v) k d ≡ begun v k d + one (is_cb k j && is_same d e)
begin_counted cb.Idle cb.Idle v e d within = raised (λ x. x.begun_idle) v e d _ within (λ _. refl)
begin_counted cb.Suspend cb.Suspend v e d within = raised (λ x. x.begun_suspend) v e d _ within (λ _. refl)
begin_counted cb.Resume cb.Resume v e d within = raised (λ x. x.begun_resume) v e d _ within (λ _. refl)
begin_counted cb.Idle cb.Suspend v e d within = unmoved _ _ (entry_kept (λ x. x.begun_suspend) v e d _ refl)
begin_counted cb.Idle cb.Resume v e d within = unmoved _ _ (entry_kept (λ x. x.begun_resume) v e d _ refl)
begin_counted cb.Suspend cb.Idle v e d within = unmoved _ _ (entry_kept (λ x. x.begun_idle) v e d _ refl)
begin_counted cb.Suspend cb.Resume v e d within = unmoved _ _ (entry_kept (λ x. x.begun_resume) v e d _ refl)
begin_counted cb.Resume cb.Idle v e d within = unmoved _ _ (entry_kept (λ x. x.begun_idle) v e d _ refl)
begin_counted cb.Resume cb.Suspend v e d within = unmoved _ _ (entry_kept (λ x. x.begun_suspend) v e d _ refl)

event_counted : (plan : Plan) (t : ℕ) (e : Event) (v : Views) (k : Cb) (d : DevId) → d.0 < length v.devices
    → begun (by_event plan t e v) k d ≡ begun v k d + one (begins k d e)
unfolding by_event
event_counted plan t (event.Begin x j) v k d within = begin_counted j k v x d within
event_counted plan t e v k d within = unmoved _ _ (same_begun k v (by_event plan t e v) d (event_steady plan t e v d tt))

change_counted : (plan : Plan) (t : ℕ) (c : Change) (v : Views) (k : Cb) (d : DevId) → begun (change_views plan t c v) k d ≡ begun v k d
change_counted plan t (change.Set e use_auto delay) v cb.Idle d = entry_kept (λ x. x.begun_idle) v e d _ refl
change_counted plan t (change.Set e use_auto delay) v cb.Suspend d = entry_kept (λ x. x.begun_suspend) v e d _ refl
change_counted plan t (change.Set e use_auto delay) v cb.Resume d = entry_kept (λ x. x.begun_resume) v e d _ refl
change_counted plan t c v k d = same_begun k v (change_views plan t c v) d (change_steady plan t c v d tt)

-- before any line
start_steady : (l : List DeviceRow) (i : ℕ)
    → steady_of (slice_index_or (map (λ row. record fresh_device { ignores = row.ignore_children }) l) i fresh_device) ≡ steady_of fresh_device
start_steady [] i = refl
start_steady (x ∷ l) zero = refl
start_steady (x ∷ l) (suc i) = start_steady l i

start_begun : (plan : Plan) (k : Cb) (d : DevId) → begun (start_views plan) k d ≡ 0
start_begun plan cb.Idle d = ap (λ (x : Steady). x.idle) (start_steady plan.devices d.0)
start_begun plan cb.Suspend d = ap (λ (x : Steady). x.suspend) (start_steady plan.devices d.0)
start_begun plan cb.Resume d = ap (λ (x : Steady). x.resume) (start_steady plan.devices d.0)

pub begins_counted : (plan : Plan) (h : List Line) (k : Cb) (d : DevId) → IsLawful plan h → d.0 < length plan.devices
    → begun (world plan h).views k d ≡ begin_lines k h d
begins_counted plan [] k d lawful within = start_begun plan k d
begins_counted plan (line ∷ h) k d lawful within =
    let w = world plan h in
    let p = permitted plan h line lawful.0 (lawful_holds plan h lawful.2) in
    let v' = change_views plan line.time p.change w.views in
    let now : begun (world plan (line ∷ h)).views k d ≡ begun (by_event plan line.time line.event v') k d = ap (λ v. begun v k d) (views_next plan w line p) in
    let moves = event_counted plan line.time line.event v' k d (omega (arith, p.beside.entries.devices)) in
    let same : begun v' k d ≡ begun w.views k d = change_counted plan line.time p.change w.views k d in
    let was = begins_counted plan h k d lawful.2 within in
    let more : begin_lines k (line ∷ h) d ≡ one (begins k d line.event) + begin_lines k h d = sum_by-cons (λ (l : Line). cond (begins k d l.event) 1 0) line h in
    omega arith
