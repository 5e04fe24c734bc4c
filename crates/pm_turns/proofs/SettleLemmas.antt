-- An index that is right, and that takes note of a line and asks anew those whom the line touches, is right after it.
use Rattle.std.proofs.Common.{◌≡◌, ◌<◌, ◌||◌, ◌⊎◌, ℕ, Bool, true, false, List, [], ◌∷◌, Option, Some, None, length, nat_eq, nat_lt, slice_index_or, if◌then◌else◌, ap, refl, sym, ◌∙◌, subst, arith, inl, inr}
use Rattle.std.specs.Option.{option_map_or}
use Rattle.std.proofs.lemmas.Bool.{false≢true}
use Rattle.std.proofs.lemmas.Bool.Decides.{nat_tests}
use Rattle.std.proofs.lemmas.Option.{none-some, same_Some}
use Rattle.pm_base.specs.declared.ActorId.{ActorId}
use Rattle.pm_base.specs.declared.ActorId.TheVariants.{Work, Timer}
use Rattle.pm_base.specs.declared.DevId.{DevId}
use Rattle.pm_index.specs.Marks.{is_marked}
use Rattle.pm_model.specs.declared.event.Line.{Line}
use Rattle.pm_model.specs.declared.plan.Plan.{Plan}
use Rattle.pm_model.specs.declared.stage.Change.{Change}
use Rattle.pm_model.specs.declared.stage.ControlStage.TheVariants as control
use Rattle.pm_model.specs.declared.stage.HelperStage.TheVariants as at
use Rattle.pm_model.specs.declared.stage.ResumeStage.TheVariants as resume
use Rattle.pm_model.specs.declared.stage.Stage.{Stage}
use Rattle.pm_model.specs.declared.stage.Stage.TheVariants as stage
use Rattle.pm_model.specs.declared.stage.SuspendStage.TheVariants as suspend
use Rattle.pm_model.specs.History.{History}
use Rattle.pm_model.specs.Lawful.{IsLawful}
use Rattle.pm_model.specs.WellFormed.{device_of, is_in}
use Rattle.pm_model.specs.World.{World, place, ready, top, world}
use Rattle.pm_laws.specs.turns.Looks.{device_at, device_in, looks, stirs}
use Rattle.pm_laws.specs.turns.Told.{IsShown, is_actor, reaches, reaches_any, told_wait, touches, wait_in, waits_for}
use Rattle.pm_laws.proofs.turns.Telling.{all_shown, same_actor}
use Rattle.pm_laws.proofs.turns.Touching.{only_reached}
use Rattle.pm_laws.proofs.stacks.Fitting.{stands_fit}
use Rattle.pm_laws.specs.turns.Wakes.{wakes}
use Rattle.pm_turns.specs.Seats.{Asks, IsSeated, Seating, moment_by, place_of}
use Rattle.pm_turns.specs.Turning.{Index, IsIndex, Leads, Noted, TouchedAny, is_listed, is_near, is_reached, queue}
use Rattle.pm_turns.proofs.QueueLemmas.{place_kept}
use Rattle.pm_turns.proofs.AfterLemmas.{seat_is}
use Rattle.pm_turns.proofs.IndexLemmas.{asks_then, seated_kept, stays_right}

-- a device that is waited for is one of the plan's
looks_in : (n : ℕ) (s : Stage) (d : DevId) → looks s ≡ Some d → option_map_or (is_in n) (device_of s) true ≡ true → nat_lt d.0 n ≡ true
looks_in n (stage.Suspend (suspend.Waiting e f)) d is fit = ap (is_in n) (sym (same_Some e d is)) ∙ fit
looks_in n (stage.Resume (resume.Waiting r tried)) d is fit = ap (is_in n) (sym (same_Some r.dev d is)) ∙ fit
looks_in n (stage.Control (control.Disabled e)) d is fit = ap (is_in n) (sym (same_Some e d is)) ∙ fit
looks_in n (stage.Control (control.BarrierWait e c)) d is fit = ap (is_in n) (sym (same_Some e d is)) ∙ fit
looks_in n (stage.Helper (at.Timer e)) d is fit = ap (is_in n) (sym (same_Some e d is)) ∙ fit
looks_in n _ d is fit = absurd (none-some d is)

waited_in : (plan : Plan) (h : History) (a : ActorId) (d : DevId) → IsLawful plan h → told_wait a h ≡ Some d → d.0 < length plan.devices
waited_in plan h a d lawful told = go (place (world plan h) a) refl (all_shown plan h lawful a)
  where
    go : (l : List Stage) → place (world plan h) a ≡ l → IsShown (told_wait a h) l → d.0 < length plan.devices
    go [] is shown = absurd (none-some d (shown.0 ∙ told))
    go (s ∷ rest) is shown =
        let fit = stands_fit plan h a s lawful (ap (top (ready plan (world plan h) a)) is) in
        let test : nat_lt d.0 (length plan.devices) ≡ true = looks_in (length plan.devices) s d (shown.0 ∙ told) fit.device in
        grind (arith, nat_tests)

-- who waits for a device is listed for it, where those who wait are listed
waiter_of : (x : Index) (h : History) (a : ActorId) (d : DevId) → ((e : DevId) → told_wait a h ≡ Some e → is_listed x e a ≡ true) → waits_for d.0 h a ≡ true
    → is_listed x d a ≡ true
waiter_of x h a d waiting hit = listed (told_wait a h) refl hit
  where
    listed : (o : Option DevId) → told_wait a h ≡ o → option_map_or (λ y. nat_eq y.0 d.0) o false ≡ true → is_listed x d a ≡ true
    listed None is hit = absurd (false≢true hit)
    listed (Some e) is hit =
        let same : e.0 ≡ d.0 = grind (arith, nat_tests) in
        ap (λ n. is_marked (slice_index_or x.queues n []) (place_of x.rows a)) (sym same) ∙ waiting e is

-- who is touched by a device is near it, where those who wait for it are listed
near_of : (x : Index) (h : History) (a : ActorId) (d : DevId) → ((e : DevId) → told_wait a h ≡ Some e → is_listed x e a ≡ true) → touches d.0 h a ≡ true
    → is_near x d a ≡ true
near_of x h a d waiting touched = go (is_actor a (Work d.0)) (is_actor a (Timer d.0)) touched (waiter_of x h a d waiting)
  where
    go : (p q : Bool) → p || q || option_map_or (λ y. nat_eq y.0 d.0) (told_wait a h) false ≡ true
        → (option_map_or (λ y. nat_eq y.0 d.0) (told_wait a h) false ≡ true → is_listed x d a ≡ true) → p || q || is_listed x d a ≡ true
    go true q hit rest = refl
    go false true hit rest = refl
    go false false hit rest = rest hit

-- the same of whom a line of a device may reach
reached_of : (stirred : Bool) (x : Index) (h : History) (a : ActorId) (d : DevId) → ((e : DevId) → told_wait a h ≡ Some e → is_listed x e a ≡ true) → reaches stirred d.0 h a ≡ true
    → is_reached stirred x d a ≡ true
reached_of true x h a d waiting hit = near_of x h a d waiting hit
reached_of false x h a d waiting hit = waiter_of x h a d waiting hit

-- what was done to an index x after a line: noted, its writer asked anew, and all others whom it may reach through the
-- device of its stage and through the device of its event
pub record Done (wake : ActorId → Option ℕ) (line : Line) (stirred : Bool) (dev : Option DevId) (x x1 x2 x3 x4 : Index) (of : Option DevId) : Type 0 where
  pub noted : Noted x x1 line
  pub asks : Asks wake x1.rows x2.rows
  pub right : moment_by x2.rows line.actor ≡ wake line.actor
  pub queues : x2.queues ≡ x1.queues
  pub at : TouchedAny wake stirred x2 x3 dev line.actor
  pub after : TouchedAny wake stirred x3 x4 of line.actor
  pub other : (of ≡ device_in line.event) ⊎ (device_in line.event ≡ dev)

module _ (plan : Plan) (h : History) (line : Line) (lawful : IsLawful plan (line ∷ h)) (x x1 x2 x3 x4 : Index) (of : Option DevId)
    (is : IsIndex plan h x) (done : Done (wakes plan (world plan (line ∷ h))) line (stirs line.event lawful.0.change) (device_at lawful.0.stage) x x1 x2 x3 x4 of) where
  abbrev wake : ActorId → Option ℕ
  wake = wakes plan (world plan (line ∷ h))

  abbrev stirred : Bool
  stirred = stirs line.event lawful.0.change

  all_asks : Asks wake x1.rows x4.rows
  all_asks = asks_then wake x1.rows x2.rows x4.rows done.asks (asks_then wake x2.rows x3.rows x4.rows done.at.asks done.after.asks)

  callers_1 : x1.rows.callers ≡ x.rows.callers
  callers_1 = ap (λ (s : Seating). s.callers) done.noted.rows

  devices_1 : x1.rows.devices ≡ x.rows.devices
  devices_1 = ap (λ (s : Seating). s.devices) done.noted.rows

  in_1 : (a : ActorId) → IsSeated x4.rows a → IsSeated x1.rows a
  in_1 a seated = seated_kept x4.rows x1.rows a (sym all_asks.callers) (sym all_asks.devices) seated

  in_2 : (a : ActorId) → IsSeated x4.rows a → IsSeated x2.rows a
  in_2 a seated = seated_kept x1.rows x2.rows a done.asks.callers done.asks.devices (in_1 a seated)

  in_3 : (a : ActorId) → IsSeated x4.rows a → IsSeated x3.rows a
  in_3 a seated = seated_kept x2.rows x3.rows a done.at.asks.callers done.at.asks.devices (in_2 a seated)

  in_0 : (a : ActorId) → IsSeated x1.rows a → IsSeated x.rows a
  in_0 a seated = seated_kept x1.rows x.rows a (sym callers_1) (sym devices_1) seated

  listed_1 : (a : ActorId) → IsSeated x1.rows a → is_actor a line.actor ≡ false → (d : DevId) → told_wait a h ≡ Some d → is_listed x1 d a ≡ true
  listed_1 a seated other d told =
      done.noted.others a d (in_0 a seated) other (is.waiting a d (in_0 a seated) (omega (arith, waited_in plan h a d lawful.2 told, is.of_plan.devices)) told)

  from_1 : (y : Index) (a : ActorId) → y.queues ≡ x1.queues → y.rows.callers ≡ x1.rows.callers → y.rows.devices ≡ x1.rows.devices → (d : DevId) → is_listed x1 d a ≡ true → is_listed y d a ≡ true
  from_1 y a same callers devices d listed =
      ap (λ (qs : List (List Bool)). is_marked (slice_index_or qs d.0 []) (place_of y.rows a)) same ∙ ap (is_marked (queue x1 d)) (place_kept x1.rows y.rows a callers devices) ∙ listed

  queues_3 : x3.queues ≡ x1.queues
  queues_3 = done.at.queues ∙ done.queues

  of_writer : (a : ActorId) → IsSeated x4.rows a → is_actor a line.actor ≡ true → moment_by x4.rows a ≡ wake a
  of_writer a seated same =
      let here = subst (λ b. moment_by x2.rows b ≡ wake b) (sym (same_actor a line.actor same)) done.right in
      stays_right wake x3.rows x4.rows a done.after.asks (in_3 a seated) (stays_right wake x2.rows x3.rows a done.at.asks (in_2 a seated) here)

  of_stage : (a : ActorId) → IsSeated x4.rows a → is_actor a line.actor ≡ false → (o : Option DevId) → device_at lawful.0.stage ≡ o → reaches_any stirred o h a ≡ true → moment_by x4.rows a ≡ wake a
  of_stage a seated other None at hit = absurd (false≢true hit)
  of_stage a seated other (Some d) at hit =
      let near = reached_of stirred x2 h a d (λ e told. from_1 x2 a done.queues done.asks.callers done.asks.devices e (listed_1 a (in_1 a seated) other e told)) hit in
      stays_right wake x3.rows x4.rows a done.after.asks (in_3 a seated) (done.at.right d at a (in_2 a seated) other near)

  of_event : (a : ActorId) → IsSeated x4.rows a → is_actor a line.actor ≡ false → (o : Option DevId) → of ≡ o → reaches_any stirred o h a ≡ true → moment_by x4.rows a ≡ wake a
  of_event a seated other None at hit = absurd (false≢true hit)
  of_event a seated other (Some d) at hit =
      let near = reached_of stirred x3 h a d (λ e told. from_1 x3 a queues_3 (done.at.asks.callers ∙ done.asks.callers) (done.at.asks.devices ∙ done.asks.devices) e (listed_1 a (in_1 a seated) other e told)) hit in
      done.after.right d at a (in_3 a seated) other near

  untouched : (a : ActorId) → IsSeated x4.rows a → is_actor a line.actor ≡ false → reaches_any stirred (device_at lawful.0.stage) h a ≡ false → reaches_any stirred (device_in line.event) h a ≡ false
      → moment_by x4.rows a ≡ wake a
  untouched a seated other p q =
      elim (all_asks.each a (in_1 a seated)) [
        | inl right ↦ right
        | inr same ↦
            let before = is.moments a (in_0 a (in_1 a seated)) in
            same ∙ ap (λ s. moment_by s a) done.noted.rows ∙ before ∙ sym (only_reached plan h line lawful a stirred refl other p q)
      ]

  each : (a : ActorId) → IsSeated x4.rows a → moment_by x4.rows a ≡ wake a
  each a seated = go (is_actor a line.actor) (reaches_any stirred (device_at lawful.0.stage) h a) (reaches_any stirred (device_in line.event) h a) refl refl refl
    where
      by_event : is_actor a line.actor ≡ false → reaches_any stirred (device_at lawful.0.stage) h a ≡ false → reaches_any stirred (device_in line.event) h a ≡ true → moment_by x4.rows a ≡ wake a
      by_event other miss hit =
          elim done.other [
            | inl it ↦ of_event a seated other of refl (ap (λ o. reaches_any stirred o h a) it ∙ hit)
            | inr same ↦ absurd (false≢true (sym miss ∙ ap (λ o. reaches_any stirred o h a) (sym same) ∙ hit))
          ]

      go : (p q r : Bool) → is_actor a line.actor ≡ p → reaches_any stirred (device_at lawful.0.stage) h a ≡ q → reaches_any stirred (device_in line.event) h a ≡ r → moment_by x4.rows a ≡ wake a
      go true q r e f g = of_writer a seated e
      go false true r e f g = of_stage a seated e (device_at lawful.0.stage) refl f
      go false false true e f g = by_event e f g
      go false false false e f g = untouched a seated e f g

  waits : (a : ActorId) (d : DevId) → IsSeated x4.rows a → d.0 < x4.rows.devices → told_wait a (line ∷ h) ≡ Some d → is_listed x4 d a ≡ true
  waits a d seated within told = from_1 x4 a (done.after.queues ∙ queues_3) all_asks.callers all_asks.devices d (go (is_actor a line.actor) refl told)
    where
      go : (p : Bool) → is_actor a line.actor ≡ p → (if p then wait_in line.event else told_wait a h) ≡ Some d → is_listed x1 d a ≡ true
      go true e told = subst (λ b. is_listed x1 d b ≡ true) (sym (same_actor a line.actor e)) (done.noted.joined d told (omega (arith, within, all_asks.devices, devices_1)))
      go false e told = listed_1 a (in_1 a seated) e d told

  pub settled_index : IsIndex plan (line ∷ h) x4
  settled_index = record {
    of_plan = record { callers = all_asks.callers ∙ callers_1 ∙ is.of_plan.callers; devices = all_asks.devices ∙ devices_1 ∙ is.of_plan.devices };
    seat = all_asks.seat ∙ ap (λ (s : Seating). s.seat) done.noted.rows ∙ seat_is plan h x.rows line is.of_plan.callers;
    time = all_asks.time ∙ ap (λ (s : Seating). s.time) done.noted.rows;
    moments = each;
    waiting = waits;
  }

pub settles_by : (plan : Plan) (h : History) (line : Line) (at : Option DevId) (c : Change) (w : World) (x x1 x2 x3 x4 : Index) (of : Option DevId) → Done (wakes plan w) line (stirs line.event c) at x x1 x2 x3 x4 of
    → Leads plan h line at c w → IsIndex plan h x → IsIndex plan (line ∷ h) x4
settles_by plan h line at c w x x1 x2 x3 x4 of done leads is =
    settled_index plan h line leads.lawful x x1 x2 x3 x4 of is
    (subst (λ y. Done (wakes plan (world plan (line ∷ h))) line (stirs line.event y) (device_at leads.lawful.0.stage) x x1 x2 x3 x4 of) (sym leads.change_is)
    (subst (λ y. Done (wakes plan (world plan (line ∷ h))) line (stirs line.event c) y x x1 x2 x3 x4 of) (sym leads.at_is)
    (subst (λ (u : World). Done (wakes plan u) line (stirs line.event c) at x x1 x2 x3 x4 of) leads.world_is done)))
