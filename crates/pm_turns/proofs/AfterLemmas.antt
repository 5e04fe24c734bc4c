-- The turns after the lines of a run, once all actors are looked at.
use Rattle.std.proofs.Common.{◌≡◌, ◌+◌, ◌-◌, ◌*◌, ◌<◌, ◌++◌, ℕ, zero, suc, true, List, [], ◌∷◌, Some, None, length, reverse, slice_get, ap, refl, sym, ◌∙◌, subst, arith, inl, inr}
use Rattle.std.proofs.lemmas.Bool.{cases_lt}
use Rattle.std.proofs.lemmas.List.{length-append, reverse-append, reverse-reverse}
use Rattle.std.proofs.lemmas.Option.{none-some, same_Some}
use Rattle.pm_base.specs.declared.ActorId.{ActorId}
use Rattle.pm_base.specs.declared.ActorId.TheVariants.{Caller, Work, Timer}
use Rattle.pm_base.specs.declared.DevId.{DevId}
use Rattle.pm_index.specs.Marks.{is_marked}
use Rattle.pm_laws.proofs.counts.Places.{IsPlaced, is_placed}
use Rattle.pm_laws.proofs.counts.Runs.{lawful_holds}
use Rattle.pm_laws.specs.counts.Sizes.{HasPlaces}
use Rattle.pm_model.specs.declared.event.Line.{Line}
use Rattle.pm_model.specs.declared.plan.Plan.{Plan}
use Rattle.pm_model.specs.declared.stage.Stage.{Stage}
use Rattle.pm_model.specs.History.{History}
use Rattle.pm_model.specs.Lawful.{IsLawful, last_time}
use Rattle.pm_model.specs.Serial.{seat}
use Rattle.pm_model.specs.World.{World, place, top, world}
use Rattle.pm_laws.specs.turns.Looks.{looks}
use Rattle.pm_laws.specs.turns.Told.{top_looks}
use Rattle.pm_laws.proofs.turns.Telling.{all_shown}
use Rattle.pm_laws.specs.turns.Wakes.{wakes}
use Rattle.pm_state.specs.Seats.{actor_at}
use Rattle.pm_turns.specs.Seats.{Asks, IsSeated, Seating, moment_by, place_of, seat_after}
use Rattle.pm_turns.specs.Turning.{AreOf, Index, IsIndex, Seen, is_listed, queue}
use Rattle.pm_turns.proofs.IndexLemmas.{asks_none, asks_then, right_at, seated_kept, stays_right}
use Rattle.pm_turns.proofs.QueueLemmas.{at_place, place_below, place_kept}

-- whoever wrote the last line is one of the plan's actors
pub last_seated : (plan : Plan) (h : History) (line : Line) (s : Seating) → AreOf plan s → IsLawful plan (line ∷ h) → IsSeated s line.actor
last_seated plan h line s of_plan lawful =
    let holds = lawful_holds plan h lawful.2 in
    go line.actor (is_placed plan (world plan h) line.actor lawful.0.stage holds.entries holds.places lawful.0.stands)
  where
    places : HasPlaces plan (world plan h)
    places = (lawful_holds plan h lawful.2).places

    go : (a : ActorId) → IsPlaced (world plan h) a → IsSeated s a
    go (Caller c) is = omega (arith, is, places.callers, of_plan.callers)
    go (Work d) is = omega (arith, is, places.works, of_plan.devices)
    go (Timer d) is = omega (arith, is, places.timers, of_plan.devices)

-- the search begins behind it
pub seat_is : (plan : Plan) (h : History) (s : Seating) (line : Line) → s.callers ≡ length plan.callers → seat_after s line.actor ≡ seat plan (line ∷ h)
seat_is plan h s line callers = go line.actor
  where
    go : (a : ActorId) → seat_after s a ≡ elim a [ Caller c ↦ c + 1 | Work d ↦ length plan.callers + d + 1 | Timer d ↦ 0 ]
    go (Caller c) = refl
    go (Work d) = ap (λ n. n + d + 1) callers
    go (Timer d) = refl

-- the newest of lines in order is the last of them
at_end : (l : List Line) (x : Line) (i : ℕ) → i ≡ length l → slice_get (l ++ x ∷ []) i ≡ Some x
at_end [] x zero is = refl
at_end [] x (suc i) is = absurd (omega (arith, is))
at_end (y ∷ l) x zero is = absurd (omega (arith, is))
at_end (y ∷ l) x (suc i) is = at_end l x i (omega (arith, is))

newest_of : (h : History) → slice_get (reverse h) (length (reverse h) - 1) ≡ slice_get h 0
newest_of [] = refl
newest_of (x ∷ h) =
    let split : reverse (x ∷ h) ≡ reverse h ++ x ∷ [] = reverse-append (x ∷ []) h in
    subst (λ (l : List Line). slice_get l (length l - 1) ≡ Some x) (sym split)
    (at_end (reverse h) x (length (reverse h ++ x ∷ []) - 1) (omega (arith, length-append (reverse h) (x ∷ []))))

pub last_is_newest : (lines : List Line) → slice_get lines (length lines - 1) ≡ slice_get (reverse lines) 0
last_is_newest lines = subst (λ (l : List Line). slice_get l (length l - 1) ≡ slice_get (reverse lines) 0) (reverse-reverse lines) (newest_of (reverse lines))

-- and what the newest line, if there is one, says of the run
pub newest_seated : (plan : Plan) (h : History) (line : Line) (s : Seating) → Some line ≡ slice_get h 0 → AreOf plan s → IsLawful plan h → IsSeated s line.actor
newest_seated plan [] line s is of_plan lawful = absurd (none-some line (sym is))
newest_seated plan (x ∷ h) line s is of_plan lawful = subst (λ (l : Line). IsSeated s l.actor) (sym (same_Some line x is)) (last_seated plan h x s of_plan lawful)

pub newest_seat : (plan : Plan) (h : History) (line : Line) (s : Seating) → Some line ≡ slice_get h 0 → s.callers ≡ length plan.callers → seat_after s line.actor ≡ seat plan h
newest_seat plan [] line s is callers = absurd (none-some line (sym is))
newest_seat plan (x ∷ h) line s is callers = ap (λ (l : Line). seat_after s l.actor) (same_Some line x is) ∙ seat_is plan h s x callers

pub newest_time : (h : History) (line : Line) → Some line ≡ slice_get h 0 → line.time ≡ last_time h
newest_time [] line is = absurd (none-some line (sym is))
newest_time (x ∷ h) line is = ap (λ (l : Line). l.time) (same_Some line x is)

pub no_seat : (plan : Plan) (h : History) → None ≡ slice_get h 0 → 0 ≡ seat plan h
no_seat plan [] is = refl
no_seat plan (x ∷ h) is = absurd (none-some x is)

pub no_time : (h : History) → None ≡ slice_get h 0 → 0 ≡ last_time h
no_time [] is = refl
no_time (x ∷ h) is = absurd (none-some x is)

-- the stage on top of a place looks at what the place looks at
pub looks_some : (l : List Stage) (s : Stage) → Some s ≡ top None l → looks s ≡ top_looks l
looks_some [] s is = absurd (none-some s (sym is))
looks_some (x ∷ l) s is = ap looks (same_Some s x is)

pub looks_none : (l : List Stage) → None ≡ top None l → None ≡ top_looks l
looks_none [] is = refl
looks_none (x ∷ l) is = absurd (none-some x is)

-- who looks at a device is listed once its seat is marked
pub listed_at : (x x1 x2 : Index) (a : ActorId) (d : DevId) (n : ℕ) → n ≡ place_of x.rows a → x1.rows.callers ≡ x.rows.callers → x1.rows.devices ≡ x.rows.devices → x2.rows ≡ x1.rows
    → is_marked (queue x2 d) n ≡ true → is_listed x2 d a ≡ true
listed_at x x1 x2 a d n here callers devices same marked =
    ap (is_marked (queue x2 d)) (ap (λ (s : Seating). place_of s a) same ∙ place_kept x.rows x1.rows a callers devices ∙ sym here) ∙ marked

-- the actors, one by one
pub seen_none : (plan : Plan) (w : World) (x : Index) → Seen plan w x x 0
seen_none plan w x = record {
  asks = asks_none (wakes plan w) x.rows;
  right = λ a seated less. absurd (omega (arith, less));
  listed = λ a d seated less within looks. absurd (omega (arith, less));
}

pub seen_more : (plan : Plan) (w : World) (x x' x'' : Index) (n : ℕ) (b : ActorId) → Seen plan w x x' n → b ≡ actor_at x'.rows.callers x'.rows.devices n
    → Asks (wakes plan w) x'.rows x''.rows → moment_by x''.rows b ≡ wakes plan w b
    → ((d : DevId) (i : ℕ) → is_marked (queue x' d) i ≡ true → is_marked (queue x'' d) i ≡ true)
    → ((d : DevId) → top_looks (place w b) ≡ Some d → d.0 < x'.rows.devices → is_listed x'' d b ≡ true) → Seen plan w x x'' (n + 1)
seen_more plan w x x' x'' n b before here asks last others listed = record {
  asks = asks_then (wakes plan w) x.rows x'.rows x''.rows before.asks asks;
  right = λ a seated less. elim (cases_lt (place_of x.rows a) n) [
    | inl earlier ↦ stays_right (wakes plan w) x'.rows x''.rows a asks (kept a seated) (before.right a seated earlier)
    | inr over ↦ let it : place_of x.rows a ≡ n = omega (arith, less, over) in right_at (wakes plan w) x''.rows b a (sits a seated it) last
  ];
  listed = λ a d seated less within looks. elim (cases_lt (place_of x.rows a) n) [
    | inl earlier ↦ still a d (before.listed a d seated earlier within looks)
    | inr over ↦ let it : place_of x.rows a ≡ n = omega (arith, less, over) in now a d (sits a seated it) within looks
  ];
}
  where
    kept : (a : ActorId) → IsSeated x.rows a → IsSeated x'.rows a
    kept a seated = seated_kept x.rows x'.rows a before.asks.callers before.asks.devices seated

    sits : (a : ActorId) → IsSeated x.rows a → place_of x.rows a ≡ n → b ≡ a
    sits a seated it =
        here ∙ ap (actor_at x'.rows.callers x'.rows.devices) (sym it ∙ sym (place_kept x.rows x'.rows a before.asks.callers before.asks.devices)) ∙ at_place x'.rows a (kept a seated)

    still : (a : ActorId) (d : DevId) → is_listed x' d a ≡ true → is_listed x'' d a ≡ true
    still a d was = ap (is_marked (queue x'' d)) (place_kept x'.rows x''.rows a asks.callers asks.devices) ∙ others d (place_of x'.rows a) was

    now : (a : ActorId) (d : DevId) → b ≡ a → d.0 < x.rows.devices → top_looks (place w a) ≡ Some d → is_listed x'' d a ≡ true
    now a d same within looks =
        subst (λ y. is_listed x'' d y ≡ true) same
        (listed d (subst (λ y. top_looks (place w y) ≡ Some d) (sym same) looks) (omega (arith, within, before.asks.devices)))

-- and all of them: whoever waits for a device looks at it
pub index_after : (plan : Plan) (h : History) (x x' : Index) (w : World) → w ≡ world plan h → IsLawful plan h → AreOf plan x.rows → x.rows.seat ≡ seat plan h → x.rows.time ≡ last_time h
    → Seen plan w x x' (x.rows.callers + 2 * x.rows.devices) → IsIndex plan h x'
index_after plan h x x' w same lawful seats begins time seen = record {
  of_plan = record { callers = seen.asks.callers ∙ seats.callers; devices = seen.asks.devices ∙ seats.devices };
  seat = seen.asks.seat ∙ begins;
  time = seen.asks.time ∙ time;
  moments = λ a is. seen.right a (before a is) (place_below x.rows a (before a is)) ∙ ap (λ (u : World). wakes plan u a) same;
  waiting = λ a d is within told.
      let looks : top_looks (place w a) ≡ Some d = ap (λ (u : World). top_looks (place u a)) same ∙ (all_shown plan h lawful a).0 ∙ told in
      seen.listed a d (before a is) (place_below x.rows a (before a is)) (omega (arith, within, seen.asks.devices)) looks;
}
  where
    before : (a : ActorId) → IsSeated x'.rows a → IsSeated x.rows a
    before a is = seated_kept x'.rows x.rows a (sym seen.asks.callers) (sym seen.asks.devices) is
