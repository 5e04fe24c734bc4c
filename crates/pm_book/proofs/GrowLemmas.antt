-- What a book keeps, with a longer script.
use Rattle.std.proofs.Common.{ℕ, zero, suc, ◌≡◌, ◌≢◌, ◌+◌, ◌<◌, ◌≤◌, ◌∙◌, ◌&&◌, Bool, true, false, List, [], ◌∷◌, Option, Some, None, length, nat_eq, if◌then◌else◌, ap, inl, inr, refl, subst, sym}
use Rattle.std.specs.Option.{option_and_then, option_map_or}
use Rattle.std.proofs.lemmas.Bool.{eqb-true, false≢true}
use Rattle.pm_base.specs.declared.ActorId.{ActorId}
use Rattle.pm_base.specs.declared.ActorId.TheVariants.{Caller, Work, Timer}
use Rattle.pm_base.specs.declared.DevId.{DevId}
use Rattle.pm_model.specs.declared.event.Command.{Command}
use Rattle.pm_model.specs.declared.plan.Plan.{Plan}
use Rattle.pm_model.specs.declared.rows.CallerRow.{CallerRow}
use Rattle.pm_model.specs.declared.rows.LinkRow.{LinkRow}
use Rattle.pm_model.specs.declared.stage.Stage.{Stage}
use Rattle.pm_model.specs.declared.stage.Stage.TheVariants as stage
use Rattle.pm_model.specs.History.{History}
use Rattle.pm_model.specs.Lawful.{IsLawful}
use Rattle.pm_model.specs.PlanRows.{parent}
use Rattle.pm_model.specs.Serial.{seat}
use Rattle.pm_model.specs.Views.{Views}
use Rattle.pm_model.specs.World.{World, stage_at, world}
use Rattle.pm_laws.specs.stacks.Depth.{greatest, longest_chain, longest_of, of_supplier}
use Rattle.pm_laws.proofs.stacks.Tests.{same_self}
use Rattle.pm_state.specs.Standing.{IsOf, Standing}
use Rattle.pm_laws.specs.turns.Wakes.{wakes, wakes_at}
use Rattle.pm_turns.specs.Seats.{Asks, IsSeated, Seating, moment_by}
use Rattle.pm_turns.specs.Turning.{AreOf, Index, IsIndex, is_listed}
use Rattle.pm_model.specs.Scripts.{with_command}
use Rattle.pm_book.specs.Growing.{HasCallers, IsPlanWith, with_callers}
use Rattle.pm_book.specs.Pages.{IsKept}
use Rattle.pm_book.proofs.ScriptLemmas.{as_many, grown, other_row, same_due, stays}

-- the chains of parents and suppliers don't read the callers
greatest_alike : {A : Type 0} (f g : A → ℕ) (xs : List A) → ((x : A) → f x ≡ g x) → greatest f xs ≡ greatest g xs
greatest_alike f g [] same = refl
greatest_alike f g (x ∷ xs) same = rw (same x, greatest_alike f g xs same) refl

mapped_alike : (f g : DevId → ℕ) (o : Option DevId) → ((d : DevId) → f d ≡ g d) → option_map_or f o 0 ≡ option_map_or g o 0
mapped_alike f g None same = refl
mapped_alike f g (Some d) same = same d

same_parent : (plan : Plan) (callers : List CallerRow) (law : IsPlanWith plan callers) (d : DevId) → parent (with_callers plan callers law) d ≡ parent plan d
unfolding parent
same_parent plan callers law d = refl

same_longest : (plan : Plan) (callers : List CallerRow) (law : IsPlanWith plan callers) (n : ℕ) (d : DevId) → longest_of (with_callers plan callers law) n d ≡ longest_of plan n d
same_longest plan callers law zero d = refl
same_longest plan callers law (suc n) d =
    let here : (x : DevId) → longest_of (with_callers plan callers law) n x ≡ longest_of plan n x = λ x. same_longest plan callers law n x in
    let of : (row : LinkRow) → of_supplier d (longest_of (with_callers plan callers law) n) row ≡ of_supplier d (longest_of plan n) row =
    λ row. ap (λ k. if nat_eq row.consumer.0 d.0 && row.pm_runtime then k else 0) (here row.supplier) in
    rw (same_parent plan callers law d, mapped_alike _ _ (parent plan d) here, greatest_alike _ _ plan.links of) refl

same_chain : (plan : Plan) (callers : List CallerRow) (law : IsPlanWith plan callers) (d : DevId) → longest_chain plan d ≡ longest_chain (with_callers plan callers law) d
unfolding longest_chain
same_chain plan callers law d = sym (same_longest plan callers law (length plan.devices) d)

-- the state is one of the plan with the longer script
pub still_of : (plan : Plan) (command : Command) (c : ℕ) (law : IsPlanWith plan (with_command command c plan.callers)) (s : Standing) → IsOf plan s → IsOf (grown plan command c law) s
still_of plan command c law s is =
    let many = as_many command c plan.callers in
    record {
      made_for = record {
        parents_are = is.made_for.parents_are;
        devices_len = is.made_for.devices_len;
        links_are = is.made_for.links_are;
        homes_are = is.made_for.homes_are;
        above_are = is.made_for.above_are;
        domains_len = is.made_for.domains_len;
      };
      callers = is.callers ∙ sym many;
      works = is.works;
      timers = is.timers;
      called = is.called ∙ sym many;
      roomy = record { each = λ d. subst (λ n. n + 3 ≤ s.room) (same_chain plan (with_command command c plan.callers) law d) (is.roomy.each d) };
    }

pub still_seated : (plan : Plan) (command : Command) (c : ℕ) (law : IsPlanWith plan (with_command command c plan.callers)) (rows : Seating) → AreOf plan rows → AreOf (grown plan command c law) rows
still_seated plan command c law rows are = record { callers = are.callers ∙ sym (as_many command c plan.callers); devices = are.devices }

-- whoever isn't the caller may write from when it might
same_wakes_at : (plan : Plan) (callers : List CallerRow) (law : IsPlanWith plan callers) (v : Views) (s : Stage) → wakes_at (with_callers plan callers law) v s ≡ wakes_at plan v s
same_wakes_at plan callers law v (stage.Await a) = refl
same_wakes_at plan callers law v (stage.Idle s) = rw (same_due plan callers law v (stage.Idle s)) refl
same_wakes_at plan callers law v (stage.Suspend s) = rw (same_due plan callers law v (stage.Suspend s)) refl
same_wakes_at plan callers law v (stage.Resume s) = rw (same_due plan callers law v (stage.Resume s)) refl
same_wakes_at plan callers law v (stage.Helper s) = rw (same_due plan callers law v (stage.Helper s)) refl
same_wakes_at plan callers law v (stage.Control s) = rw (same_due plan callers law v (stage.Control s)) refl

mapped_wakes : (plan : Plan) (callers : List CallerRow) (law : IsPlanWith plan callers) (v : Views) (o : Option Stage)
    → option_and_then (wakes_at plan v) o ≡ option_and_then (wakes_at (with_callers plan callers law) v) o
mapped_wakes plan callers law v None = refl
mapped_wakes plan callers law v (Some s) = sym (same_wakes_at plan callers law v s)

same_wakes : (plan : Plan) (command : Command) (c : ℕ) (law : IsPlanWith plan (with_command command c plan.callers)) (w : World) (a : ActorId) → a ≢ Caller c
    → wakes plan w a ≡ wakes (grown plan command c law) w a
same_wakes plan command c law w (Caller k) other =
    rw (other_row command c plan.callers k (λ e. other (ap Caller e))) (mapped_wakes plan (with_command command c plan.callers) law w.views (stage_at plan w (Caller k)))
same_wakes plan command c law w (Work d) other = mapped_wakes plan (with_command command c plan.callers) law w.views (stage_at plan w (Work d))
same_wakes plan command c law w (Timer d) other = mapped_wakes plan (with_command command c plan.callers) law w.views (stage_at plan w (Timer d))

-- the search for the next actor begins where it began
same_seat : (plan : Plan) (command : Command) (c : ℕ) (law : IsPlanWith plan (with_command command c plan.callers)) (h : History) → seat plan h ≡ seat (grown plan command c law) h
same_seat plan command c law [] = refl
same_seat plan command c law (line ∷ h) =
    ap (λ n. let at : ℕ = elim line.actor [ Caller k ↦ k + 1 | Work d ↦ n + d + 1 | Timer d ↦ 0 ] in at) (sym (as_many command c plan.callers))

-- the seats stay as they are
seated_still : (s s' : Seating) (a : ActorId) → s'.callers ≡ s.callers → s'.devices ≡ s.devices → IsSeated s' a → IsSeated s a
seated_still s s' (Caller k) callers devices seated = subst (λ n. k < n) callers seated
seated_still s s' (Work d) callers devices seated = subst (λ n. d < n) devices seated
seated_still s s' (Timer d) callers devices seated = subst (λ n. d < n) devices seated

listed_still : (x x' : Index) (d : DevId) (a : ActorId) → x'.queues ≡ x.queues → x'.rows.callers ≡ x.rows.callers → x'.rows.devices ≡ x.rows.devices → is_listed x d a ≡ true → is_listed x' d a ≡ true
listed_still x x' d (Caller k) queues callers devices is = rw queues is
listed_still x x' d (Work j) queues callers devices is = rw (queues, callers) is
listed_still x x' d (Timer j) queues callers devices is = rw (queues, callers, devices) is

apart : (k c : ℕ) → nat_eq k c ≡ false → Caller k ≢ Caller c
apart k c is same = let e : k ≡ c = cc same in false≢true (sym is ∙ subst (λ n. nat_eq k n ≡ true) e (same_self k))

-- the caller is asked anew, and the others have the moments that they had, or are asked anew too
moments_still : (plan plan' : Plan) (c : ℕ) (w : World) (x x' : Index) → ((a : ActorId) → IsSeated x.rows a → moment_by x.rows a ≡ wakes plan w a)
    → Asks (wakes plan' w) x.rows x'.rows → moment_by x'.rows (Caller c) ≡ wakes plan' w (Caller c) → ((a : ActorId) → a ≢ Caller c → wakes plan w a ≡ wakes plan' w a)
    → (a : ActorId) → IsSeated x.rows a → moment_by x'.rows a ≡ wakes plan' w a
moments_still plan plan' c w x x' are asks right same a seated = go a seated
  where
    one : (a : ActorId) → IsSeated x.rows a → a ≢ Caller c → moment_by x'.rows a ≡ wakes plan' w a
    one a seated other = elim (asks.each a seated) [ inl asked ↦ asked | inr was ↦ was ∙ are a seated ∙ same a other ]

    by : (k : ℕ) → IsSeated x.rows (Caller k) → (b : Bool) → nat_eq k c ≡ b → moment_by x'.rows (Caller k) ≡ wakes plan' w (Caller k)
    by k seated true is = subst (λ n. moment_by x'.rows (Caller n) ≡ wakes plan' w (Caller n)) (sym (eqb-true k c is)) right
    by k seated false is = one (Caller k) seated (apart k c is)

    go : (a : ActorId) → IsSeated x.rows a → moment_by x'.rows a ≡ wakes plan' w a
    go (Caller k) seated = by k seated (nat_eq k c) refl
    go (Work d) seated = one (Work d) seated (λ e. cc e)
    go (Timer d) seated = one (Timer d) seated (λ e. cc e)

-- so the index is that of the plan with the longer script, once the caller is asked anew
still_index : (plan : Plan) (command : Command) (c : ℕ) (law : IsPlanWith plan (with_command command c plan.callers)) (h : History) (x x' : Index) → IsLawful plan h
    → IsIndex plan h x → Asks (wakes (grown plan command c law) (world plan h)) x.rows x'.rows
    → moment_by x'.rows (Caller c) ≡ wakes (grown plan command c law) (world plan h) (Caller c) → x'.queues ≡ x.queues → IsIndex (grown plan command c law) h x'
still_index plan command c law h x x' lawful is asks right queues =
    let plan' = grown plan command c law in
    let w = world plan h in
    let same : w ≡ world plan' h = sym (stays plan command c law h lawful).same in
    let moments = moments_still plan plan' c w x x' is.moments asks right (same_wakes plan command c law w) in
    let back = λ (a : ActorId) (seated : IsSeated x'.rows a). seated_still x.rows x'.rows a asks.callers asks.devices seated in
    record {
      of_plan = record { callers = asks.callers ∙ is.of_plan.callers ∙ sym (as_many command c plan.callers); devices = asks.devices ∙ is.of_plan.devices };
      seat = asks.seat ∙ is.seat ∙ same_seat plan command c law h;
      time = asks.time ∙ is.time;
      moments = λ a seated. subst (λ (y : World). moment_by x'.rows a ≡ wakes plan' y a) same (moments a (back a seated));
      waiting = λ a d seated within told. listed_still x x' d a queues asks.callers asks.devices (is.waiting a d (back a seated) (subst (λ n. d.0 < n) asks.devices within) told);
    }

-- before the caller is asked anew: the state and the seats are those of the plan with the longer script, and the list is
-- lawful for it
pub record IsReady (plan : Plan) (state : Standing) (turns : Index) (h : History) : Type 0 where
  pub is_of : IsOf plan state
  pub seats : AreOf plan turns.rows
  pub lawful : IsLawful plan h
  pub world_is : state.world ≡ world plan h

pub ready_with : (plan new : Plan) (command : Command) (c : ℕ) (state : Standing) (turns : Index) (ends limit : ℕ) (h : History) → IsKept plan state turns ends limit h
    → HasCallers plan new (with_command command c plan.callers) → IsReady new state turns h
ready_with plan new command c state turns ends limit h kept has =
    let still = stays plan command c has.law h kept.lawful in
    subst (λ (p : Plan). IsReady p state turns h) (sym has.is)
    (record {
      is_of = still_of plan command c has.law state kept.is_of;
      seats = still_seated plan command c has.law turns.rows kept.turns_are.of_plan;
      lawful = still.lawful;
      world_is = kept.world_is ∙ sym still.same;
    })

-- what a book keeps with the longer script
kept_grown : (plan : Plan) (command : Command) (c : ℕ) (law : IsPlanWith plan (with_command command c plan.callers)) (state : Standing) (turns turns' : Index) (ends limit : ℕ) (h : History)
    → IsKept plan state turns ends limit h → IsIndex (grown plan command c law) h turns' → IsKept (grown plan command c law) state turns' ends limit h
kept_grown plan command c law state turns turns' ends limit h kept are =
    let still = stays plan command c law h kept.lawful in
    record {
      lawful = still.lawful;
      world_is = kept.world_is ∙ sym still.same;
      is_of = still_of plan command c law state kept.is_of;
      turns_are = are;
      in_time = kept.in_time;
      limit_is = kept.limit_is;
      each = kept.each;
    }

-- the caller is asked anew
pub record Asked (plan : Plan) (w : World) (c : ℕ) (x x' : Index) : Type 0 where
  pub asks : Asks (wakes plan w) x.rows x'.rows
  pub right : moment_by x'.rows (Caller c) ≡ wakes plan w (Caller c)
  pub queues : x'.queues ≡ x.queues

pub kept_with : (plan new : Plan) (command : Command) (c : ℕ) (state : Standing) (turns turns' : Index) (ends limit : ℕ) (h : History) → IsKept plan state turns ends limit h
    → HasCallers plan new (with_command command c plan.callers) → Asked new state.world c turns turns' → IsKept new state turns' ends limit h
kept_with plan new command c state turns turns' ends limit h kept has asked =
    let plan' = grown plan command c has.law in
    let here = subst (λ (w : World). Asked plan' w c turns turns') kept.world_is (subst (λ (p : Plan). Asked p state.world c turns turns') has.is asked) in
    let index = still_index plan command c has.law h turns turns' kept.lawful kept.turns_are here.asks here.right here.queues in
    subst (λ (p : Plan). IsKept p state turns' ends limit h) (sym has.is) (kept_grown plan command c has.law state turns turns' ends limit h kept index)
