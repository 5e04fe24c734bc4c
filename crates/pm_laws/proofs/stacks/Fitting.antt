-- Every open stage, and every stage at which an actor stands, is fit and well formed; every setting and change is the plan's.
use Rattle.std.proofs.Common.{ℕ, zero, suc, ◌≡◌, ◌+◌, ◌<◌, ◌≤◌, ◌^◌, true, ◌&&◌, List, [], ◌∷◌, Option, Some, None, ℤ, pos, neg_ℤ, int_le, length, nat_abs, nat_le, slice_get, ap, refl, sym, ◌∙◌, subst, arith}
use Rattle.std.specs.List.{All}
use Rattle.std.specs.Option.{option_and_then, option_map_or}
use Rattle.std.proofs.lemmas.Bool.{and_from, leb-true, lt-ltb}
use Rattle.std.proofs.lemmas.Grind.{common_steps}
use Rattle.pm_base.specs.declared.ActorId.{ActorId}
use Rattle.pm_base.specs.declared.Cb.{Cb}
use Rattle.pm_base.specs.declared.Cb.TheVariants as cb
use Rattle.pm_base.specs.declared.DevId.{DevId}
use Rattle.pm_base.specs.declared.limits.TheConstants.{MAX_MS}
use Rattle.pm_model.specs.declared.event.Line.{Line}
use Rattle.pm_model.specs.declared.plan.Plan.{Plan}
use Rattle.pm_model.specs.declared.rows.DeviceRow.{DeviceRow}
use Rattle.pm_model.specs.declared.stage.Change.{Change}
use Rattle.pm_model.specs.declared.stage.Change.TheVariants as change
use Rattle.pm_model.specs.declared.stage.ControlStage.TheVariants as control
use Rattle.pm_model.specs.declared.stage.HelperStage.TheVariants as at
use Rattle.pm_model.specs.declared.stage.IdleStage.TheVariants as idle
use Rattle.pm_model.specs.declared.stage.ResumeStage.TheVariants as resume
use Rattle.pm_model.specs.declared.stage.Stage.{Stage}
use Rattle.pm_model.specs.declared.stage.Stage.TheVariants as stage
use Rattle.pm_model.specs.declared.stage.SuspendStage.TheVariants as suspend
use Rattle.pm_model.specs.CanTake.{can_change, has_room}
use Rattle.pm_model.specs.IsPlan.{is_device}
use Rattle.pm_model.specs.Lawful.{IsLawful, Permits, last_time}
use Rattle.pm_model.specs.PlanRows.{ms_of, ms_of_row}
use Rattle.pm_model.specs.Row.{writes}
use Rattle.pm_model.specs.Views.{Views, device}
use Rattle.pm_model.specs.WellFormed.{can_tell, is_moment, is_well_formed}
use Rattle.pm_model.specs.World.{due, place, row, row_at, stage_at, world}
use Rattle.pm_laws.proofs.counts.Places.{is_placed}
use Rattle.pm_laws.proofs.counts.Runs.{permitted, lawful_holds, written}
use Rattle.pm_laws.specs.stacks.Fit.{IsFit, HasDelays}
use Rattle.pm_laws.specs.stacks.Shape.{Call, Fits, IsNested, Nested, call_of}
use Rattle.pm_laws.proofs.stacks.Nesting.{stands_nested}
use Rattle.pm_laws.proofs.stacks.PlanLaw.{device_lawful}
use Rattle.pm_laws.proofs.stacks.Sounding.{AreSound, stands_sound}
use Rattle.pm_laws.proofs.stacks.Stacks.{stacked, told}
use Rattle.pm_laws.proofs.stacks.Standing.{stands}
use Rattle.pm_laws.proofs.stacks.Telling.{IsChanging, IsSound, IsTelling}
use Rattle.pm_laws.proofs.stacks.Tests.{front, rear}

sound_fits : (plan : Plan) (v : Views) (last : ℕ) (s : Stage) → IsSound plan v last s → Fits plan s → IsFit plan v last s
sound_fits plan v last s sound fits = record { device = sound.0; flags = sound.1; code = sound.2; since = sound.3; told = sound.4; fits = fits }

all_cons : {A : Type 0} (P : A → Type 0) (x : A) (xs : List A) → P x → All P xs → All P (x ∷ xs)
all_cons P x xs here below zero d within = here
all_cons P x xs here below (suc k) d within = below k d (omega (arith, within))

below_fit : (plan : Plan) (v : Views) (last : ℕ) (k : Call) (stack : List Stage) → AreSound plan v last stack → Nested plan k stack → All (IsFit plan v last) stack
below_fit plan v last k [] sound nested = λ i d within. absurd (omega (arith, within))
below_fit plan v last k (s ∷ rest) sound nested =
    all_cons (IsFit plan v last) s rest (sound_fits plan v last s sound.0 nested.1) (below_fit plan v last (call_of s) rest sound.1 nested.2)

all_fit : (plan : Plan) (v : Views) (last : ℕ) (stack : List Stage) → AreSound plan v last stack → IsNested plan stack → All (IsFit plan v last) stack
all_fit plan v last [] sound nested = λ i d within. absurd (omega (arith, within))
all_fit plan v last (s ∷ rest) sound nested =
    all_cons (IsFit plan v last) s rest (sound_fits plan v last s sound.0 nested.1) (below_fit plan v last (call_of s) rest sound.1 nested.2)

pub stages_fit : (plan : Plan) (h : List Line) (a : ActorId) → IsLawful plan h → All (IsFit plan (world plan h).views (last_time h)) (place (world plan h) a)
stages_fit plan h a lawful = let k = stacked plan h lawful in all_fit plan (world plan h).views (last_time h) (place (world plan h) a) (k.sound a) (k.nested a)

pub stands_fit : (plan : Plan) (h : List Line) (a : ActorId) (s : Stage) → IsLawful plan h → stage_at plan (world plan h) a ≡ Some s
    → IsFit plan (world plan h).views (last_time h) s
stands_fit plan h a s lawful at =
    let w = world plan h in
    let holds = lawful_holds plan h lawful in
    let k = stacked plan h lawful in
    let placed = is_placed plan w a s holds.entries holds.places at in
    let st = stands plan w a s at in
    sound_fits plan w.views (last_time h) s (stands_sound plan w (last_time h) a s holds.places placed at st (k.sound a)) (stands_nested plan s (place w a) st (k.nested a)).1

-- a callback takes at most 1,000,000 milliseconds, as a delay does
row_times : (k : Cb) (domains i : ℕ) (row : DeviceRow) → is_device domains i row ≡ true → nat_le (ms_of_row k row) MAX_MS ≡ true
row_times cb.Idle domains i row is = rear _ _ (front _ _ (front _ _ (front _ _ (front _ _ (front _ _ is)))))
row_times cb.Suspend domains i row is = rear _ _ (front _ _ (front _ _ (front _ _ (front _ _ is))))
row_times cb.Resume domains i row is = rear _ _ (front _ _ (front _ _ (front _ _ is)))

callback_takes : (plan : Plan) (k : Cb) (d : DevId) → ms_of plan k d ≤ MAX_MS
unfolding ms_of
callback_takes plan k d = go (slice_get plan.devices d.0) (λ row is. leb-true _ _ (row_times k (length plan.domains) d.0 row (device_lawful plan d.0 row is)))
  where
    go : (o : Option DeviceRow) → ((row : DeviceRow) → o ≡ Some row → ms_of_row k row ≤ MAX_MS) → option_map_or (ms_of_row k) o 0 ≤ MAX_MS
    go None all = omega arith
    go (Some row) all = all row refl

ends_moment : (plan : Plan) (k : Cb) (d : DevId) (since last : ℕ) → since ≤ last → last + 1000000 < 2 ^ 64 → is_moment (since + ms_of plan k d) ≡ true
ends_moment plan k d since last le room = lt-ltb _ _ (omega (arith, callback_takes plan k d))

delay_moment : (ms : ℤ) (since last : ℕ) → int_le (pos 0) ms && int_le ms (pos MAX_MS) ≡ true → since ≤ last → last + 1000000 < 2 ^ 64 → is_moment (since + nat_abs ms) ≡ true
delay_moment ms since last within le room = lt-ltb _ _ (omega (arith, short ms within))
  where
    short : (ms : ℤ) → int_le (pos 0) ms && int_le ms (pos MAX_MS) ≡ true → nat_abs ms ≤ 1000000
    short ms within = grind (arith, common_steps)

-- a fit stage is well formed where a moment fits that is 1,000,000 later than the last line
fit_told : (plan : Plan) (v : Views) (last : ℕ) (s : Stage) → last + 1000000 < 2 ^ 64 → IsFit plan v last s → can_tell plan v s ≡ true
fit_told plan v last (stage.Idle (idle.Running d f since)) room fit = and_from _ _ (lt-ltb _ _ fit.told) (ends_moment plan cb.Idle d since last fit.since room)
fit_told plan v last (stage.Suspend (suspend.Running d f since)) room fit = and_from _ _ (lt-ltb _ _ fit.told) (ends_moment plan cb.Suspend d since last fit.since room)
fit_told plan v last (stage.Resume (resume.Running r since)) room fit = and_from _ _ (lt-ltb _ _ fit.told) (ends_moment plan cb.Resume r.dev since last fit.since room)
fit_told plan v last (stage.Resume (resume.Parent r c)) room fit = fit.fits
fit_told plan v last (stage.Helper (at.Call c)) room fit = fit.told
fit_told plan v last (stage.Helper (at.Start c)) room fit = fit.told
fit_told plan v last (stage.Helper (at.PutSuspends c)) room fit = fit.told
fit_told plan v last (stage.Helper (at.Delay ms since)) room fit =
    and_from _ _ (front _ (int_le ms (pos MAX_MS)) fit.told) (delay_moment ms since last fit.told fit.since room)
fit_told plan v last (stage.Control (control.Start c)) room fit = fit.told
fit_told plan v last s room fit = refl

pub fit_well_formed : (plan : Plan) (v : Views) (last : ℕ) (s : Stage) → last + 1000000 < 2 ^ 64 → IsFit plan v last s → is_well_formed plan v s ≡ true
fit_well_formed plan v last s room fit = and_from _ _ fit.device (fit_told plan v last s room fit)

pub delays_kept : (plan : Plan) (h : List Line) → IsLawful plan h → HasDelays (world plan h).views
delays_kept plan h lawful = (stacked plan h lawful).delays

-- the counters can take a change once its depth can rise
changing_can : (plan : Plan) (v : Views) (c : Change) → ((d : DevId) → has_room (device v d).depth ≡ true) → IsChanging plan c → can_change (length plan.devices) v c ≡ true
changing_can plan v change.Same room is = refl
changing_can plan v (change.Link consumer supplier present) room is = refl
changing_can plan v (change.Set d use_auto delay) room is =
    and_from _ _ (and_from _ _ is.0 (front _ (int_le delay (pos MAX_MS)) is.1)) (rear (int_le (neg_ℤ (pos MAX_MS)) delay) _ is.1)
changing_can plan v (change.Disable d) room is = and_from _ _ is (room d)
changing_can plan v (change.DisableBusy d) room is = and_from _ _ is (room d)
changing_can plan v (change.DisableAtOnce d) room is = and_from _ _ is (room d)
changing_can plan v _ room is = is

-- what the row of a permitted line tells
pub line_told : (plan : Plan) (h : List Line) (line : Line) → IsLawful plan h → (p : Permits plan h line) → IsTelling plan line.event × IsChanging plan p.change
line_told plan h line lawful p =
    let w = world plan h in
    let holds = lawful_holds plan h lawful in
    let paid = permitted plan h line p holds in
    let it = told plan w (last_time h) line paid holds (stacked plan h lawful) p.in_time in
    let leads : row_at plan w line.actor line.time ≡ Some (writes line.event p.change p.next) = ap (option_and_then (λ s. row plan w.views s line.time)) p.stands ∙ written (due plan w.views p.stage) line.time (row plan w.views p.stage line.time) line.event p.change p.next p.gives in
    let both : Some (writes line.event paid.change paid.next) ≡ Some (writes line.event p.change p.next) = sym paid.leads ∙ leads in
    let same : paid.change ≡ p.change = cc in
    (it.tells.0, subst (IsChanging plan) same it.tells.1)

pub lines_change : (plan : Plan) (h : List Line) (line : Line) → IsLawful plan h → (p : Permits plan h line)
    → ((d : DevId) → has_room (device (world plan h).views d).depth ≡ true) → can_change (length plan.devices) (world plan h).views p.change ≡ true
lines_change plan h line lawful p room = changing_can plan (world plan h).views p.change room (line_told plan h line lawful p).1
