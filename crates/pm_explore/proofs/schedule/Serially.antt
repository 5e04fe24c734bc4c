-- What one thread writes is a schedule at an eager pace.
use Rattle.std.proofs.Common.{ℕ, zero, suc, ◌≡◌, ◌≤◌, ◌<◌, ◌||◌, Bool, true, false, List, [], ◌∷◌, Option, Some, None, find, nat_lt, option_map, reverse, if◌then◌else◌, refl, sym, subst, ap, ◌∙◌, arith}
use Rattle.std.proofs.lemmas.Bool.{ltb-true}
use Rattle.std.proofs.lemmas.List.{reverse-reverse}
use Rattle.std.specs.List.{filter_map, list_any}
use Rattle.std.specs.Option.{option_and_then, option_map_or}
use Rattle.pm_base.specs.declared.ActorId.{ActorId}
use Rattle.pm_model.specs.declared.event.Event.{Event}
use Rattle.pm_model.specs.declared.event.Line.{Line}
use Rattle.pm_model.specs.declared.plan.Plan.{Plan}
use Rattle.pm_model.specs.declared.stage.Change.{Change}
use Rattle.pm_model.specs.declared.stage.Move.{Move}
use Rattle.pm_model.specs.declared.stage.Move.TheVariants.{Write, Late, Wait}
use Rattle.pm_model.specs.declared.stage.Stage.{Stage}
use Rattle.pm_model.specs.declared.stage.Then.{Then}
use Rattle.pm_model.specs.History.{History}
use Rattle.pm_model.specs.Lawful.{Permits, last_time}
use Rattle.pm_model.specs.Row.{Row, writes, waits, timed}
use Rattle.pm_model.specs.Serial.{callers_and_works, goes_on, late_moment, least, least_due, may_write, move_at, next_line, next_turn, or_later, round, seat, serial, timer_actors, turn_at, written}
use Rattle.pm_model.specs.World.{World, due, move, row, stage_at, world}
use Rattle.pm_explore.specs.schedule.Schedules.{IsSchedule, snapshot}
use Rattle.pm_explore.specs.schedule.Snapshots.{anyone_may, due_moment, due_moments, prompt_time}
use Rattle.pm_explore.specs.declared.schedule.Pace.TheVariants.{Eager}
use Rattle.pm_explore.proofs.schedule.Rounds.{any_found, any_round, least_passes, least_round, none_found}

some_is : {A : Type 0} (x y : A) → Some x ≡ Some y → x ≡ y
some_is x y is = cc is

-- a line that is only awaited is due later
awaited_later : (d t : ℕ) (r : Option Row) (n : ℕ) → option_and_then late_moment (option_map (timed d t) r) ≡ Some n → t < n
awaited_later d t None n is = cc is
awaited_later d t (Some (waits dev)) n is = go (nat_lt t d) refl is
  where
    go : (b : Bool) → nat_lt t d ≡ b → late_moment (if b then Late d else Wait dev) ≡ Some n → t < n
    go true later e = subst (λ m. t < m) (some_is d n e) (ltb-true t d later)
    go false later e = cc e
awaited_later d t (Some (writes ev change next)) n is = go (nat_lt t d) refl is
  where
    go : (b : Bool) → nat_lt t d ≡ b → late_moment (if b then Late d else Write ev change next) ≡ Some n → t < n
    go true later e = subst (λ m. t < m) (some_is d n e) (ltb-true t d later)
    go false later e = cc e

moment_later : (plan : Plan) (w : World) (t : ℕ) (o : Option Stage) (n : ℕ) → option_and_then late_moment (option_and_then (λ s. move plan w.views s t) o) ≡ Some n → t < n
moment_later plan w t None n is = cc is
moment_later plan w t (Some s) n is = awaited_later (due plan w.views s) t (row plan w.views s t) n is

-- whose turn it is, and when
record IsTurn (plan : Plan) (h : History) (turn : ActorId × ℕ) : Type 0 where
  pub in_time : last_time h ≤ turn.1
  pub eager : prompt_time plan (snapshot plan h) ≡ Some turn.1

any_is : (plan : Plan) (h : History) → list_any (may_write plan (world plan h) (last_time h)) (round plan h) ≡ anyone_may plan (snapshot plan h)
any_is plan h = any_round (may_write plan (world plan h) (last_time h)) (seat plan h) (callers_and_works plan) (timer_actors plan)

due_is : (plan : Plan) (h : History) → least_due plan h ≡ least (due_moments plan (snapshot plan h))
due_is plan h = least_round (due_moment plan (snapshot plan h)) (seat plan h) (callers_and_works plan) (timer_actors plan)

due_later : (plan : Plan) (h : History) (n : ℕ) → least_due plan h ≡ Some n → last_time h < n
due_later plan h n is =
    least_passes (λ m. last_time h < m) (due_moment plan (snapshot plan h)) (λ actor m. moment_later plan (world plan h) (last_time h) (stage_at plan (world plan h) actor) m) (round plan h) n is

turn_is : (plan : Plan) (h : History) (turn : ActorId × ℕ) → next_turn plan h ≡ Some turn → IsTurn plan h turn
turn_is plan h turn is = now (turn_at plan h (last_time h)) refl is
  where
    at : (n : ℕ) (o : Option ActorId) → least_due plan h ≡ Some n → anyone_may plan (snapshot plan h) ≡ false → option_map (λ actor. (actor, n)) o ≡ Some turn → IsTurn plan h turn
    at n None due none e = cc e
    at n (Some actor) due none e =
        let same : n ≡ turn.1 = ap (λ (x : ActorId × ℕ). x.1) (some_is (actor, n) turn e) in
        subst (λ m. (last_time h ≤ m) × (prompt_time plan (snapshot plan h) ≡ Some m) → IsTurn plan h turn) (sym same)
        (λ both. record { in_time = both.0; eager = both.1 })
        (let later = due_later plan h n due in omega (arith, later), ap (λ (b : Bool). if b then Some (last_time h) else least (due_moments plan (snapshot plan h))) none ∙ sym (due_is plan h) ∙ due)

    later : (o : Option ℕ) → least_due plan h ≡ o → anyone_may plan (snapshot plan h) ≡ false → option_and_then (λ n. option_map (λ actor. (actor, n)) (turn_at plan h n)) o ≡ Some turn → IsTurn plan h turn
    later None due none e = cc e
    later (Some n) due none e = at n (turn_at plan h n) due none e

    now : (o : Option ActorId) → turn_at plan h (last_time h) ≡ o → or_later plan h o ≡ Some turn → IsTurn plan h turn
    now None found e = later (least_due plan h) refl (sym (any_is plan h) ∙ none_found (may_write plan (world plan h) (last_time h)) (round plan h) found) e
    now (Some actor) found e =
        let same : last_time h ≡ turn.1 = ap (λ (x : ActorId × ℕ). x.1) (some_is (actor, last_time h) turn e) in
        let anyone : anyone_may plan (snapshot plan h) ≡ true = sym (any_is plan h) ∙ any_found (may_write plan (world plan h) (last_time h)) (round plan h) actor found in
        record {
          in_time = omega (arith, same);
          eager = ap (λ (b : Bool). if b then Some (last_time h) else least (due_moments plan (snapshot plan h))) anyone ∙ ap Some same;
        }

-- the next line is one that may come, when it may
abbrev Comes : Plan → History → Line → Type 0
Comes plan h line = Permits plan h line × (prompt_time plan (snapshot plan h) ≡ Some line.time)

line_is : (plan : Plan) (h : History) (actor : ActorId) (t : ℕ) (s : Stage) (o : Option Move) (line : Line) → IsTurn plan h (actor, t) → stage_at plan (world plan h) actor ≡ Some s → move plan (world plan h).views s t ≡ o
    → option_and_then (written actor t) o ≡ Some line → Comes plan h line
line_is plan h actor t s None line turn stands gives is = cc is
line_is plan h actor t s (Some (Late n)) line turn stands gives is = cc is
line_is plan h actor t s (Some (Wait d)) line turn stands gives is = cc is
line_is plan h actor t s (Some (Write e change next)) line turn stands gives is =
    let made : Line = record { time = t; actor = actor; event = e } in
    subst (Comes plan h) (some_is made line is) (record { stage = s; stands = stands; change = change; next = next; gives = gives; in_time = turn.in_time }, turn.eager)

next_is : (plan : Plan) (h : History) (line : Line) → next_line plan h ≡ Some line → Comes plan h line
next_is plan h line is = go (next_turn plan h) refl is
  where
    at : (turn : ActorId × ℕ) (o : Option Stage) → IsTurn plan h turn → stage_at plan (world plan h) turn.0 ≡ o
        → option_and_then (written turn.0 turn.1) (option_and_then (λ s. move plan (world plan h).views s turn.1) o) ≡ Some line → Comes plan h line
    at turn None t stands e = cc e
    at turn (Some s) t stands e = line_is plan h turn.0 turn.1 s (move plan (world plan h).views s turn.1) line t stands refl e

    go : (o : Option (ActorId × ℕ)) → next_turn plan h ≡ o → option_and_then (λ turn. option_and_then (written turn.0 turn.1) (move_at plan (world plan h) turn.1 turn.0)) o ≡ Some line → Comes plan h line
    go None found e = cc e
    go (Some turn) found e = at turn (stage_at plan (world plan h) turn.0) (turn_is plan h turn found) refl e

goes_on_is : (plan : Plan) (n : ℕ) (h : History) → IsSchedule Eager plan h → IsSchedule Eager plan (goes_on plan n h)
goes_on_is plan zero h o = o
goes_on_is plan (suc n) h o = go (next_line plan h) refl (λ line more. goes_on_is plan n (line ∷ h) more)
  where
    go : (next : Option Line) → next_line plan h ≡ next → ((line : Line) → IsSchedule Eager plan (line ∷ h) → IsSchedule Eager plan (goes_on plan n (line ∷ h)))
        → IsSchedule Eager plan (option_map_or (λ line. goes_on plan n (line ∷ h)) next h)
    go None is rest = o
    go (Some line) is rest = let comes = next_is plan h line is in rest line (comes.0, comes.1, o)

pub serial_is : (plan : Plan) → IsSchedule Eager plan (reverse (serial plan))
serial_is plan = subst (IsSchedule Eager plan) (sym (reverse-reverse (goes_on plan plan.lines []))) (goes_on_is plan plan.lines [] tt)
