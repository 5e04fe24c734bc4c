-- An idle callback runs where one stage runs it.
use Rattle.std.proofs.Common.{◌≡◌, ◌<◌, ◌+◌, ℕ, zero, suc, Bool, true, false, List, [], ◌∷◌, Some, ℤ, length, map, slice_index_or, if◌then◌else◌, ap, refl, sym, ◌∙◌, arith}
use Rattle.std.specs.Option.{option_and_then, unwrap_or}
use Rattle.pm_base.specs.declared.Cb.TheVariants as cb
use Rattle.pm_base.specs.declared.DevId.{DevId}
use Rattle.pm_model.specs.declared.event.Line.{Line}
use Rattle.pm_model.specs.declared.plan.Plan.{Plan}
use Rattle.pm_model.specs.declared.rows.DeviceRow.{DeviceRow}
use Rattle.pm_model.specs.declared.stage.Await.{Await}
use Rattle.pm_model.specs.declared.stage.Await.TheVariants as await
use Rattle.pm_model.specs.declared.stage.ControlStage.TheVariants as control
use Rattle.pm_model.specs.declared.stage.Handed.TheVariants as handed
use Rattle.pm_model.specs.declared.stage.Stage.TheVariants as stage
use Rattle.pm_model.specs.ChangeViews.{change_views}
use Rattle.pm_model.specs.Counted.{says_runs, runs}
use Rattle.pm_model.specs.Handing.{take_code}
use Rattle.pm_model.specs.History.{History}
use Rattle.pm_model.specs.Lawful.{IsLawful}
use Rattle.pm_model.specs.ResumeTable.{is_supplied}
use Rattle.pm_model.specs.Row.{writes}
use Rattle.pm_model.specs.Views.{device, fresh_device}
use Rattle.pm_model.specs.World.{World, after_line, row, row_at, world}
use Rattle.pm_laws.specs.counts.Sums.{one, tally, weigh}
use Rattle.pm_laws.specs.counts.Owners.{places}
use Rattle.pm_laws.proofs.counts.Asides.{idle_after}
use Rattle.pm_laws.proofs.counts.Places.{IsHanded, IsWeight, is_placed, shown}
use Rattle.pm_laws.proofs.counts.Runs.{Holds, Paid, permitted, lawful_holds, others, with_top, with_next, places_moved, start_tally}
use Rattle.pm_laws.proofs.counts.Said.{idle_said, views_next}
use Rattle.pm_laws.proofs.counts.Seen.{Aside}
use Rattle.pm_laws.specs.turns.Idles.{runs_idle, HasOneIdle}
use Rattle.pm_laws.proofs.turns.Acting.{row_acts}

-- no stage that awaits a call runs an idle callback, nor does one at which it goes on
idles_weigh : (d : DevId) → IsWeight (runs_idle d)
unfolding take_code
idles_weigh d = record { call = λ _. refl; work = λ _. refl; timer = λ _. refl; handed = go }
  where
    supplied : (e : DevId) (c : ℤ) (b : Bool) (a : Await)
        → IsHanded (runs_idle d) a (if b then handed.Goes (stage.Control (control.ActiveLinks e)) else handed.Goes (stage.Control (control.ActiveUnwind e c)))
    supplied e c true a = refl
    supplied e c false a = refl

    go : (a : Await) (c : ℤ) → IsHanded (runs_idle d) a (take_code a c)
    go (await.ActiveSupplier e l) c = supplied e c (is_supplied c) (await.ActiveSupplier e l)
    go _ c = refl

-- what a line says of idle callbacks
idle_next : (plan : Plan) (w : World) (line : Line) (p : Paid plan w line) (d : DevId) → d.0 < length plan.devices
    → (device (after_line plan w line (row_at plan w line.actor line.time)).views d).idle_running ≡ unwrap_or (says_runs cb.Idle d line.event) (device w.views d).idle_running
idle_next plan w line p d within =
    ap (λ v. let x : Bool = (device v d).idle_running in x) (views_next plan w line p)
    ∙ idle_after plan line.time line.event (change_views plan line.time p.change w.views) d (omega (arith, p.beside.entries.devices))
    ∙ ap (unwrap_or (says_runs cb.Idle d line.event)) (ap (λ (a : Aside). a.idle_running) (p.beside.untouched.asides d))

-- the stages that run the idle callback of d after a line
tally_next : (plan : Plan) (w : World) (line : Line) (p : Paid plan w line) (d : DevId) → Holds plan w
    → tally (runs_idle d) (places (after_line plan w line (row_at plan w line.actor line.time))) ≡ weigh (runs_idle d) (shown p.next) + others (runs_idle d) w line.actor
tally_next plan w line p d holds =
    let placed = is_placed plan w line.actor p.stage holds.entries holds.places p.stands in
    ap (λ r. tally (runs_idle d) (places (after_line plan w line r))) p.leads
    ∙ ap (tally (runs_idle d)) (places_moved w _ _ line.actor _)
    ∙ with_next (runs_idle d) (idles_weigh d) plan w line.actor p.stage p.next placed p.stands

idle_kept : (plan : Plan) (w : World) (line : Line) → Paid plan w line → Holds plan w → HasOneIdle plan w
    → HasOneIdle plan (after_line plan w line (row_at plan w line.actor line.time))
idle_kept plan w line p holds before d within =
    let placed = is_placed plan w line.actor p.stage holds.entries holds.places p.stands in
    let leads : row plan w.views p.stage line.time ≡ Some (writes line.event p.change p.next) = ap (option_and_then (λ s. row plan w.views s line.time)) (sym p.stands) ∙ p.leads in
    let acts = row_acts plan w.views line.time p.stage (writes line.event p.change p.next) leads in
    let was = sym (before d within) ∙ with_top (runs_idle d) (idles_weigh d) plan w line.actor p.stage placed p.stands in
    tally_next plan w line p d holds ∙ sym (acts.paid.1 d (others (runs_idle d) w line.actor) was) ∙ ap one (sym (idle_next plan w line p d within))

start_rests : (l : List DeviceRow) (i : ℕ) → (slice_index_or (map (λ row. record fresh_device { ignores = row.ignore_children }) l) i fresh_device).idle_running ≡ false
start_rests [] i = refl
start_rests (x ∷ l) zero = refl
start_rests (x ∷ l) (suc i) = start_rests l i

pub one_idle : (plan : Plan) (h : History) → IsLawful plan h → HasOneIdle plan (world plan h)
one_idle plan [] lawful d within = start_tally plan (runs_idle d) ∙ ap one (sym (start_rests plan.devices d.0))
one_idle plan (line ∷ h) lawful d within =
    let holds = lawful_holds plan h lawful.2 in
    idle_kept plan (world plan h) line (permitted plan h line lawful.0 holds) holds (one_idle plan h lawful.2) d within

pub one_begun : (plan : Plan) (h : History) (d : DevId) → IsLawful plan h → d.0 < length plan.devices
    → tally (runs_idle d) (places (world plan h)) ≡ one (runs cb.Idle d h)
one_begun plan h d lawful within = one_idle plan h lawful d within ∙ ap one (idle_said plan h d lawful within)
