-- The index of turns, as actors are asked anew.
use Rattle.std.proofs.Common.{◌≡◌, ◌≢◌, ◌+◌, ◌*◌, ◌<◌, ◌≤◌, ◌||◌, ◌⊎◌, ℕ, Bool, true, false, List, [], Option, Some, None, length, option_map, slice_index_or, ap, refl, sym, ◌∙◌, subst, arith, inl, inr}
use Rattle.std.proofs.lemmas.Bool.{cases_lt, false≢true}
use Rattle.std.proofs.lemmas.Option.{none-some, same_Some}
use Rattle.pm_base.specs.declared.ActorId.{ActorId}
use Rattle.pm_base.specs.declared.ActorId.TheVariants.{Caller, Work, Timer}
use Rattle.pm_base.specs.declared.DevId.{DevId}
use Rattle.pm_index.specs.Marks.{NoneMarked, is_marked}
use Rattle.pm_model.specs.declared.event.Line.{Line}
use Rattle.pm_model.specs.declared.plan.Plan.{Plan}
use Rattle.pm_model.specs.History.{History}
use Rattle.pm_model.specs.Serial.{next_turn}
use Rattle.pm_model.specs.World.{world}
use Rattle.pm_index.specs.Moments.{moment_of}
use Rattle.pm_laws.specs.turns.Told.{is_actor, wait_in}
use Rattle.pm_laws.proofs.turns.Telling.{other_actor, same_actor}
use Rattle.pm_laws.specs.turns.Wakes.{turn_by, wakes}
use Rattle.pm_state.specs.Seats.{actor_at, actor_in, seats}
use Rattle.pm_turns.specs.Seats.{AreMoments, Asks, IsSeated, Seating, Sets, moment_by, place_of, round_of, seat_after, writer_at, writer_in}
use Rattle.pm_turns.specs.Turning.{AreOf, Index, IsIndex, Looked, Noted, Touched, TouchedAny, is_listed, is_reached, queue}
use Rattle.pm_turns.proofs.QueueLemmas.{at_place, at_seat, place_below, place_kept, places_apart}
use Rattle.pm_turns.proofs.RoundLemmas.{turn_is_next}

are_moments : (wake : ActorId → Option ℕ) (s : Seating) → ((a : ActorId) → IsSeated s a → moment_by s a ≡ wake a) → AreMoments wake s
are_moments wake s each i below = let it = at_seat s i below in ap (moment_of s.moments) (sym it.1) ∙ each (actor_at s.callers s.devices i) it.0

-- the seats of a plan, and who sits there
pub in_plan : (plan : Plan) (s : Seating) (i : ℕ) → AreOf plan s → actor_at s.callers s.devices i ≡ actor_in plan i
in_plan plan s i of_plan = ap (λ n. actor_at n s.devices i) of_plan.callers ∙ ap (λ n. actor_at (length plan.callers) n i) of_plan.devices

pub seat_here : (plan : Plan) (s : Seating) (i : ℕ) → AreOf plan s → i < seats plan → i ≡ place_of s (actor_in plan i)
seat_here plan s i of_plan below =
    let it = at_seat s i (omega (arith, below, of_plan.callers, of_plan.devices)) in
    sym (ap (place_of s) (sym (in_plan plan s i of_plan)) ∙ it.1)

pub sits_here : (plan : Plan) (s : Seating) (i : ℕ) (a : ActorId) → AreOf plan s → IsSeated s a → i ≡ place_of s a → actor_in plan i ≡ a
sits_here plan s i a of_plan seated here = sym (in_plan plan s i of_plan) ∙ ap (actor_at s.callers s.devices) here ∙ at_place s a seated

abbrev pub NextIs : Option (ℕ × ℕ) → Index → Type 0
NextIs r x = (plan : Plan) (h : History) → IsIndex plan h x → option_map (writer_in plan) r ≡ next_turn plan h

pub next_by : (r : Option (ℕ × ℕ)) (x : Index) → x.rows.seat ≤ x.rows.callers + x.rows.devices
    → ((wake : ActorId → Option ℕ) → AreMoments wake x.rows → option_map (writer_at x.rows) r ≡ turn_by wake (round_of x.rows) x.rows.time) → NextIs r x
next_by r x begins turn plan h is =
    named r ∙ turn_is_next plan h x.rows (option_map (writer_at x.rows) r) (record { callers = is.of_plan.callers; devices = is.of_plan.devices; seat = is.seat; begins = begins; time = is.time })
    (turn (wakes plan (world plan h)) (are_moments (wakes plan (world plan h)) x.rows is.moments))
  where
    named : (o : Option (ℕ × ℕ)) → option_map (writer_in plan) o ≡ option_map (writer_at x.rows) o
    named None = refl
    named (Some turn) = ap (λ (a : ActorId). let t : ActorId × ℕ = (a, turn.1) in Some t) (sym (in_plan plan x.rows turn.0 is.of_plan))

-- actors that are asked anew
pub seated_kept : (s s' : Seating) (a : ActorId) → s'.callers ≡ s.callers → s'.devices ≡ s.devices → IsSeated s a → IsSeated s' a
seated_kept s s' (Caller c) callers devices is = omega (arith, callers, is)
seated_kept s s' (Work d) callers devices is = omega (arith, devices, is)
seated_kept s s' (Timer d) callers devices is = omega (arith, devices, is)

pub asks_none : (wake : ActorId → Option ℕ) (s : Seating) → Asks wake s s
asks_none wake s = record { callers = refl; devices = refl; seat = refl; time = refl; each = λ a is. inr refl }

pub asks_one : (wake : ActorId → Option ℕ) (s s' : Seating) (a : ActorId) (m : Option ℕ) → Sets s s' a m → m ≡ wake a → Asks wake s s'
asks_one wake s s' a m sets is = record { callers = sets.callers; devices = sets.devices; seat = sets.seat; time = sets.time; each = λ b seated. go b seated (is_actor b a) refl }
  where
    go : (b : ActorId) → IsSeated s b → (same : Bool) → is_actor b a ≡ same → (moment_by s' b ≡ wake b) ⊎ (moment_by s' b ≡ moment_by s b)
    go b seated true e = inl (subst (λ x. moment_by s' x ≡ wake x) (sym (same_actor b a e)) (sets.set ∙ is))
    go b seated false e = inr (sets.others b seated (other_actor b a e))

-- the moment of who sits here is set by the plan's name for it
pub asks_seat : (wake : ActorId → Option ℕ) (plan : Plan) (s s' : Seating) (i : ℕ) (m : Option ℕ) → AreOf plan s → Sets s s' (actor_at s.callers s.devices i) m → m ≡ wake (actor_in plan i) → Asks wake s s'
asks_seat wake plan s s' i m of_plan sets is = asks_one wake s s' (actor_at s.callers s.devices i) m sets (is ∙ ap wake (sym (in_plan plan s i of_plan)))

pub asks_then : (wake : ActorId → Option ℕ) (s s' s'' : Seating) → Asks wake s s' → Asks wake s' s'' → Asks wake s s''
asks_then wake s s' s'' p q = record {
  callers = q.callers ∙ p.callers;
  devices = q.devices ∙ p.devices;
  seat = q.seat ∙ p.seat;
  time = q.time ∙ p.time;
  each = λ a seated. elim (q.each a (seated_kept s s' a p.callers p.devices seated)) [
    | inl right ↦ inl right
    | inr same ↦ elim (p.each a seated) [ inl right ↦ inl (same ∙ right) | inr was ↦ inr (same ∙ was) ]
  ];
}

pub stays_right : (wake : ActorId → Option ℕ) (s s' : Seating) (a : ActorId) → Asks wake s s' → IsSeated s a → moment_by s a ≡ wake a → moment_by s' a ≡ wake a
stays_right wake s s' a p seated right = elim (p.each a seated) [ inl anew ↦ anew | inr same ↦ same ∙ right ]

-- the moment of an actor that is itself asked anew
pub right_at : (wake : ActorId → Option ℕ) (s : Seating) (a b : ActorId) → a ≡ b → moment_by s a ≡ wake a → moment_by s b ≡ wake b
right_at wake s a b same right = subst (λ c. moment_by s c ≡ wake c) same right

-- those who are listed for a device, one by one
pub looked_none : (wake : ActorId → Option ℕ) (x : Index) (d : DevId) → Looked wake x x d 0
looked_none wake x d = record { asks = asks_none wake x.rows; queues = refl; right = λ a seated less. absurd (omega (arith, less)) }

-- who is listed sits at no seat that isn't marked
unmarked : (x x' : Index) (d : DevId) (a : ActorId) (low high : ℕ) → x'.queues ≡ x.queues → NoneMarked (queue x' d) low high → low ≤ place_of x.rows a → place_of x.rows a < high
    → is_listed x d a ≡ true → ⊥
unmarked x x' d a low high same none over under listed =
    false≢true (sym (none (place_of x.rows a) over under) ∙ ap (λ (qs : List (List Bool)). is_marked (slice_index_or qs d.0 []) (place_of x.rows a)) same ∙ listed)

pub looked_more : (wake : ActorId → Option ℕ) (x x' x'' : Index) (d : DevId) (from i : ℕ) → Looked wake x x' d from → NoneMarked (queue x' d) from i
    → Asks wake x'.rows x''.rows → x''.queues ≡ x'.queues
    → moment_by x''.rows (actor_at x'.rows.callers x'.rows.devices i) ≡ wake (actor_at x'.rows.callers x'.rows.devices i) → Looked wake x x'' d (i + 1)
looked_more wake x x' x'' d from i before none asks same last = record {
  asks = asks_then wake x.rows x'.rows x''.rows before.asks asks;
  queues = same ∙ before.queues;
  right = λ a seated less listed. elim (cases_lt (place_of x.rows a) from) [
    | inl earlier ↦ stays_right wake x'.rows x''.rows a asks (kept a seated) (before.right a seated earlier listed)
    | inr over ↦
        elim (cases_lt (place_of x.rows a) i) [
          | inl under ↦ absurd (unmarked x x' d a from i before.queues none over under listed)
          | inr past ↦ let it : place_of x.rows a ≡ i = omega (arith, less, past) in right_at wake x''.rows (actor_at x'.rows.callers x'.rows.devices i) a (sits a seated it) last
        ]
  ];
}
  where
    kept : (a : ActorId) → IsSeated x.rows a → IsSeated x'.rows a
    kept a seated = seated_kept x.rows x'.rows a before.asks.callers before.asks.devices seated

    sits : (a : ActorId) → IsSeated x.rows a → place_of x.rows a ≡ i → actor_at x'.rows.callers x'.rows.devices i ≡ a
    sits a seated it =
        ap (actor_at x'.rows.callers x'.rows.devices) (sym it ∙ sym (place_kept x.rows x'.rows a before.asks.callers before.asks.devices)) ∙ at_place x'.rows a (kept a seated)

-- and all of them, once none is left
pub looked_all : (wake : ActorId → Option ℕ) (x x' : Index) (d : DevId) (from : ℕ) → Looked wake x x' d from → NoneMarked (queue x' d) from (x'.rows.callers + 2 * x'.rows.devices)
    → Looked wake x x' d (x.rows.callers + 2 * x.rows.devices)
looked_all wake x x' d from before none = record {
  asks = before.asks;
  queues = before.queues;
  right = λ a seated less listed. elim (cases_lt (place_of x.rows a) from) [
    | inl earlier ↦ before.right a seated earlier listed
    | inr over ↦
        let under : place_of x.rows a < x'.rows.callers + 2 * x'.rows.devices = omega (arith, less, before.asks.callers, before.asks.devices) in
        absurd (unmarked x x' d a from (x'.rows.callers + 2 * x'.rows.devices) before.queues none over under listed)
  ];
}

-- all whom a line of a device may reach, but for one
pub touched_all : (wake : ActorId → Option ℕ) (stirred : Bool) (x x' x'' : Index) (d : DevId) (but : ActorId) → Asks wake x.rows x'.rows → x'.queues ≡ x.queues
    → (stirred ≡ true → IsSeated x.rows (Work d.0) → is_actor (Work d.0) but ≡ false → moment_by x'.rows (Work d.0) ≡ wake (Work d.0))
    → (stirred ≡ true → IsSeated x.rows (Timer d.0) → is_actor (Timer d.0) but ≡ false → moment_by x'.rows (Timer d.0) ≡ wake (Timer d.0))
    → Looked wake x' x'' d (x'.rows.callers + 2 * x'.rows.devices) → Touched wake stirred x x'' d but
touched_all wake stirred x x' x'' d but asks same work timer looked = record {
  asks = asks_then wake x.rows x'.rows x''.rows asks looked.asks;
  queues = looked.queues ∙ same;
  right = λ a seated other reached. by stirred refl a seated other reached;
}
  where
    kept : (a : ActorId) → IsSeated x.rows a → IsSeated x'.rows a
    kept a seated = seated_kept x.rows x'.rows a asks.callers asks.devices seated

    on : (a b : ActorId) → a ≡ b → IsSeated x.rows a → is_actor a but ≡ false → (IsSeated x.rows b → is_actor b but ≡ false → moment_by x'.rows b ≡ wake b) → moment_by x''.rows a ≡ wake a
    on a b is seated other right =
        stays_right wake x'.rows x''.rows a looked.asks (kept a seated)
        (right_at wake x'.rows b a (sym is) (right (subst (IsSeated x.rows) is seated) (subst (λ c. is_actor c but ≡ false) is other)))

    by_list : (a : ActorId) → IsSeated x.rows a → is_listed x d a ≡ true → moment_by x''.rows a ≡ wake a
    by_list a seated near =
        let listed : is_listed x' d a ≡ true =
        ap (λ (qs : List (List Bool)). is_marked (slice_index_or qs d.0 []) (place_of x'.rows a)) same
        ∙ ap (is_marked (queue x d)) (place_kept x.rows x'.rows a asks.callers asks.devices) ∙ near in
        looked.right a (kept a seated) (place_below x'.rows a (kept a seated)) listed

    go : stirred ≡ true → (a : ActorId) → IsSeated x.rows a → is_actor a but ≡ false → (p q : Bool) → is_actor a (Work d.0) ≡ p → is_actor a (Timer d.0) ≡ q → p || q || is_listed x d a ≡ true
        → moment_by x''.rows a ≡ wake a
    go is a seated other true q e f near = on a (Work d.0) (same_actor a (Work d.0) e) seated other (work is)
    go is a seated other false true e f near = on a (Timer d.0) (same_actor a (Timer d.0) f) seated other (timer is)
    go is a seated other false false e f near = by_list a seated near

    by : (b : Bool) → stirred ≡ b → (a : ActorId) → IsSeated x.rows a → is_actor a but ≡ false → is_reached b x d a ≡ true → moment_by x''.rows a ≡ wake a
    by true is a seated other near = go is a seated other (is_actor a (Work d.0)) (is_actor a (Timer d.0)) refl refl near
    by false is a seated other near = by_list a seated near

-- a line is noted: its writer is listed no longer, and is listed anew where it waits, and then its seat and its time are
-- written down
module _ (x x1 x2 x3 : Index) (line : Line) (seat : ℕ) (here : seat ≡ place_of x.rows line.actor) (seated : IsSeated x.rows line.actor)
    (rows_1 : x1.rows ≡ x.rows) (rows_2 : x2.rows ≡ x1.rows)
    (is : x3 ≡ record x2 { rows = record x2.rows { seat = seat_after x2.rows line.actor; time = line.time } }) where
  abbrev row : Seating
  row = record x2.rows { seat = seat_after x2.rows line.actor; time = line.time }

  rows : x2.rows ≡ x.rows
  rows = rows_2 ∙ rows_1

  listed_3 : (a : ActorId) (d : DevId) → is_marked (queue x2 d) (place_of x.rows a) ≡ true → is_listed x3 d a ≡ true
  listed_3 a d marked =
      subst (λ (y : Index). is_listed y d a ≡ true) (sym is)
      (ap (is_marked (queue x2 d)) (place_kept x.rows row a (ap (λ (s : Seating). s.callers) rows) (ap (λ (s : Seating). s.devices) rows)) ∙ marked)

  pub noted_by : ((d : DevId) (i : ℕ) → i ≢ seat → is_marked (queue x d) i ≡ true → is_marked (queue x1 d) i ≡ true)
      → ((d : DevId) (i : ℕ) → is_marked (queue x1 d) i ≡ true → is_marked (queue x2 d) i ≡ true)
      → ((d : DevId) → wait_in line.event ≡ Some d → d.0 < x1.rows.devices → is_marked (queue x2 d) seat ≡ true) → Noted x x3 line
  noted_by left kept joined = record {
    rows = ap (λ (y : Index). y.rows) is ∙ ap (λ (s : Seating). let t : Seating = record s { seat = seat_after s line.actor; time = line.time } in t) rows;
    others = λ a d sits other listed.
        listed_3 a d (kept d (place_of x.rows a) (left d (place_of x.rows a) (λ same. places_apart x.rows a line.actor sits seated other (same ∙ here)) listed));
    joined = λ d waits within.
        listed_3 line.actor d (subst (λ i. is_marked (queue x2 d) i ≡ true) here (joined d waits (omega (arith, within, ap (λ (s : Seating). s.devices) rows_1))));
  }

pub same_device : (d e : DevId) → d.0 ≡ e.0 → Some d ≡ Some e
same_device d e same = ap (λ (n : ℕ). let x : DevId = record { 0 = n } in Some x) same

pub touched_none : (wake : ActorId → Option ℕ) (stirred : Bool) (x : Index) (but : ActorId) → TouchedAny wake stirred x x None but
touched_none wake stirred x but = record { asks = asks_none wake x.rows; queues = refl; right = λ d is. absurd (none-some d is) }

pub touched_some : (wake : ActorId → Option ℕ) (stirred : Bool) (x x' : Index) (d : DevId) (but : ActorId) → Touched wake stirred x x' d but → TouchedAny wake stirred x x' (Some d) but
touched_some wake stirred x x' d but touched = record {
  asks = touched.asks;
  queues = touched.queues;
  right = λ e is a seated other near. touched.right a seated other (subst (λ y. is_reached stirred x y a ≡ true) (sym (same_Some d e is)) near);
}
