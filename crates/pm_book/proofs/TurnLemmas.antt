-- Whose turn it is writes its line, at the moment of its turn.
use Rattle.std.proofs.Common.{◌≡◌, ◌∙◌, ◌+◌, ◌*◌, ◌-◌, ◌<◌, ◌≤◌, ◌^◌, ℕ, Bool, true, false, List, [], ◌∷◌, Option, Some, None, is_some, length, max, min, nat_le, nat_lt, option_map, unwrap_or, if◌then◌else◌, ap, arith, refl, subst, sym}
use Rattle.std.specs.Prelude.{IfSome}
use Rattle.std.specs.List.{cons_option, filter_map}
use Rattle.std.specs.Option.{option_and_then, option_map_or}
use Rattle.std.proofs.lemmas.Bool.{false_from_ne_true, false≢true}
use Rattle.std.proofs.lemmas.Bool.Decides.{nat_tests}
use Rattle.std.proofs.lemmas.Option.{same_Some}
use Rattle.pm_base.specs.declared.ActorId.{ActorId}
use Rattle.pm_model.specs.declared.event.Event.{Event}
use Rattle.pm_model.specs.declared.event.Event.TheVariants as event
use Rattle.pm_model.specs.declared.plan.Plan.{Plan}
use Rattle.pm_model.specs.declared.stage.Change.{Change}
use Rattle.pm_model.specs.declared.stage.IdleStage.TheVariants as idle
use Rattle.pm_model.specs.declared.stage.Move.{Move}
use Rattle.pm_model.specs.declared.stage.Move.TheVariants.{Write, Late, Wait}
use Rattle.pm_model.specs.declared.stage.ResumeStage.TheVariants as resume
use Rattle.pm_model.specs.declared.stage.Stage.{Stage}
use Rattle.pm_model.specs.declared.stage.Stage.TheVariants as stage
use Rattle.pm_model.specs.declared.stage.SuspendStage.TheVariants as suspend
use Rattle.pm_model.specs.declared.stage.Then.{Then}
use Rattle.pm_model.specs.History.{History}
use Rattle.pm_model.specs.Lawful.{IsFinished, last_time}
use Rattle.pm_model.specs.Serial.{least, move_at, next_line, next_turn, round, writes_line, written}
use Rattle.pm_model.specs.Views.{Views}
use Rattle.pm_model.specs.World.{due, move, stage_at, world}
use Rattle.pm_laws.specs.turns.Blocks.{blocks}
use Rattle.pm_model.proofs.SerialLemmas.{permits_next}
use Rattle.pm_state.specs.Standing.{IsActor}
use Rattle.pm_state.specs.Turns.{end_due, is_running, running_due, runs_at}
use Rattle.pm_laws.specs.turns.Wakes.{first_awake, is_within, or_least, turn_by, wakes, wakes_at}
use Rattle.pm_laws.proofs.turns.Turning.{next_is, turn_awake}
use Rattle.pm_laws.proofs.turns.Waking.{actor_timed}
use Rattle.pm_book.specs.declared.steps.EndStep.{EndStep}
use Rattle.pm_book.specs.declared.steps.EndStep.TheVariants as end
use Rattle.pm_book.specs.declared.steps.Step.{Step}
use Rattle.pm_book.specs.declared.steps.Step.TheVariants as step
use Rattle.pm_book.specs.Pages.{Adds, Pages, by_move, by_running, by_stage, end_answer, end_by, has_written, is_full, moment_from, step_answer, world_of, written as answer_to}
use Rattle.pm_book.specs.Turn.{HasTime, IsTurn, Writes, says_running}

-- a list that isn't full has room for a line
pub has_room : (p : Pages) → is_full p ≡ false → length p.lines < p.plan.lines
has_room p free = grind (arith, nat_tests)

-- a turn comes no later than the last line or the latest moment that is awaited
least_below : {A : Type 0} (wake : A → Option ℕ) (b : ℕ) → ((x : A) (m : ℕ) → wake x ≡ Some m → m ≤ b) → (xs : List A) (m : ℕ) → least (filter_map wake xs) ≡ Some m → m ≤ b
least_below wake b each [] m is = cc is
least_below {A} wake b each (x ∷ xs) m is = go (wake x) refl is (least_below wake b each xs)
  where
    of_two : (k : ℕ) (o : Option ℕ) → k ≤ b → Some (option_map_or (min k) o k) ≡ Some m → m ≤ b
    of_two k None le e = let same = same_Some k m e in omega (arith, le, same)
    of_two k (Some q) le e = let same = same_Some (min k q) m e in omega (arith, le, same)

    go : (o : Option ℕ) → wake x ≡ o → least (cons_option o (filter_map wake xs)) ≡ Some m → ((m : ℕ) → least (filter_map wake xs) ≡ Some m → m ≤ b) → m ≤ b
    go None e is rest = rest m is
    go (Some k) e is rest = of_two k (least (filter_map wake xs)) (each x k e) is

turn_below : {A : Type 0} (wake : A → Option ℕ) (b : ℕ) → ((x : A) (m : ℕ) → wake x ≡ Some m → m ≤ b) → (xs : List A) (t : ℕ) (turn : A × ℕ) → t ≤ b → turn_by wake xs t ≡ Some turn → turn.1 ≤ b
turn_below {A} wake b each xs t turn le is = now (first_awake wake xs t) is
  where
    at : (m : ℕ) → m ≤ b → (o : Option A) → option_map (λ a. (a, m)) o ≡ Some turn → turn.1 ≤ b
    at m le None e = cc e
    at m le (Some a) e = let same : m ≡ turn.1 = ap (λ (x : A × ℕ). x.1) (same_Some (a, m) turn e) in omega (arith, le, same)

    later : (o : Option ℕ) → least (filter_map wake xs) ≡ o → option_and_then (λ m. option_map (λ a. (a, m)) (first_awake wake xs m)) o ≡ Some turn → turn.1 ≤ b
    later None is e = cc e
    later (Some m) is e = at m (least_below wake b each xs m is) (first_awake wake xs m) e

    now : (o : Option A) → or_least wake xs t o ≡ Some turn → turn.1 ≤ b
    now (Some a) e = at t le (Some a) e
    now None e = later (least (filter_map wake xs)) refl e

-- the moment that is awaited at a stage is when its line is due
of_test : (b : Bool) (k m : ℕ) → (if b then None else Some k) ≡ Some m → k ≡ m
of_test true k m is = cc is
of_test false k m is = same_Some k m is

wake_is_due : (plan : Plan) (v : Views) (s : Stage) (m : ℕ) → wakes_at plan v s ≡ Some m → due plan v s ≡ m
wake_is_due plan v (stage.Idle s) m is = of_test (blocks v (stage.Idle s)) (due plan v (stage.Idle s)) m is
wake_is_due plan v (stage.Suspend s) m is = of_test (blocks v (stage.Suspend s)) (due plan v (stage.Suspend s)) m is
wake_is_due plan v (stage.Resume s) m is = of_test (blocks v (stage.Resume s)) (due plan v (stage.Resume s)) m is
wake_is_due plan v (stage.Helper s) m is = of_test (blocks v (stage.Helper s)) (due plan v (stage.Helper s)) m is
wake_is_due plan v (stage.Control s) m is = of_test (blocks v (stage.Control s)) (due plan v (stage.Control s)) m is
wake_is_due plan v (stage.Await a) m is = cc is

abbrev pub AreDue : Plan → History → Type 0
AreDue plan h = (a : ActorId) (s : Stage) → stage_at plan (world plan h) a ≡ Some s → due plan (world plan h).views s ≤ last_time h + 1000000

wake_early : (plan : Plan) (h : History) → AreDue plan h → (a : ActorId) (m : ℕ) → wakes plan (world plan h) a ≡ Some m → m ≤ last_time h + 1000000
wake_early plan h are a m is = go (stage_at plan (world plan h) a) refl is
  where
    go : (o : Option Stage) → stage_at plan (world plan h) a ≡ o → option_and_then (wakes_at plan (world plan h).views) o ≡ Some m → m ≤ last_time h + 1000000
    go None at e = cc e
    go (Some s) at e = let same = wake_is_due plan (world plan h).views s m e in let early = are a s at in omega (arith, early, same)

-- whose turn it is writes a line
pub record IsNext (plan : Plan) (h : History) (turn : ActorId × ℕ) : Type 0 where
  pub event : Event
  pub change : Change
  pub next : Then
  pub gives : move_at plan (world plan h) turn.1 turn.0 ≡ Some (Write event change next)

awake : (plan : Plan) (h : History) (turn : ActorId × ℕ) → next_turn plan h ≡ Some turn → is_within turn.1 (wakes plan (world plan h) turn.0) ≡ true
awake plan h turn is = turn_awake (wakes plan (world plan h)) (round plan h) (last_time h) turn (sym (next_is plan h) ∙ is)

pub turn_writes : (plan : Plan) (h : History) (turn : ActorId × ℕ) → next_turn plan h ≡ Some turn → IsNext plan h turn
turn_writes plan h turn is = go (move_at plan (world plan h) turn.1 turn.0) refl ((actor_timed plan (world plan h) turn.1 turn.0).0 ∙ awake plan h turn is)
  where
    go : (o : Option Move) → move_at plan (world plan h) turn.1 turn.0 ≡ o → option_map_or writes_line o false ≡ true → IsNext plan h turn
    go None e may = absurd (false≢true may)
    go (Some (Late at)) e may = absurd (false≢true may)
    go (Some (Wait d)) e may = absurd (false≢true may)
    go (Some (Write event change next)) e may = record { event = event; change = change; next = next; gives = e }

pub line_next : (plan : Plan) (h : History) (turn : ActorId × ℕ) → next_turn plan h ≡ Some turn → (n : IsNext plan h turn)
    → next_line plan h ≡ Some (record { time = turn.1; actor = turn.0; event = n.event })
line_next plan h turn is n =
    ap (option_and_then (λ (x : ActorId × ℕ). option_and_then (written x.0 x.1) (move_at plan (world plan h) x.1 x.0))) is ∙ ap (option_and_then (written turn.0 turn.1)) n.gives

-- it comes soon after the last line, so while there is time for it no clock counts as less
pub turn_soon : (plan : Plan) (h : History) (turn : ActorId × ℕ) → AreDue plan h → next_turn plan h ≡ Some turn → turn.1 ≤ last_time h + 1000000
turn_soon plan h turn are is =
    turn_below (wakes plan (world plan h)) (last_time h + 1000000) (wake_early plan h are) (round plan h) (last_time h) turn (omega arith) (sym (next_is plan h) ∙ is)

as_it_is : (last now len most : ℕ) → last ≤ now → now ≤ last + 1000000 → len < most → last + 1000000 * (most - len) ≤ 2 ^ 62 → max last (min now (2 ^ 62)) ≡ now
as_it_is last now len most later soon room in_time = omega arith

turn_in_time : (p : Pages) (a : ActorId) (now : ℕ) → IsTurn p a now → is_full p ≡ false → HasTime p.plan p.lines → moment_from p.lines now ≡ now
turn_in_time p a now is free in_time =
    let line = line_next p.plan p.lines (a, now) is.turn (turn_writes p.plan p.lines (a, now) is.turn) in
    as_it_is (last_time p.lines) now (length p.lines) p.plan.lines (permits_next p.plan p.lines _ line).in_time is.soon (has_room p free) in_time

-- what is known of a turn, and that it is nobody's where the run is finished
pub turn_is : (p : Pages) (o : Option (ActorId × ℕ)) → o ≡ next_turn p.plan p.lines → IfSome o (λ turn. IsActor p.plan turn.0) → AreDue p.plan p.lines
    → (IsFinished p.plan p.lines → next_turn p.plan p.lines ≡ None) → IfSome o (λ turn. IsTurn p turn.0 turn.1)
turn_is p None is in_range are stops = tt
turn_is p (Some turn) is in_range are stops = record {
  turn = sym is;
  in_range = in_range;
  soon = turn_soon p.plan p.lines turn are (sym is);
  unfinished = false_from_ne_true _ (λ done. let none : Some turn ≡ None = is ∙ stops done in cc none);
}

-- a step of whose turn it is writes its line
writes_at : (plan : Plan) (v : Views) (t : ℕ) (o : Option Stage) (e : Event) (c : Change) (next : Then) → option_and_then (λ s. move plan v s t) o ≡ Some (Write e c next) → runs_at plan o ≡ false
    → has_written (by_stage plan v t o) ≡ true
writes_at plan v t None e c next gives rests = cc gives
writes_at plan v t (Some s) e c next gives rests = go (running_due plan s) rests
  where
    wrote : (e : Event) → has_written (answer_to v e) ≡ true
    wrote (event.Begin d k) = refl
    wrote _ = refl

    go : (o : Option ℕ) → is_some o ≡ false → has_written (by_running o (by_move v (move plan v s t))) ≡ true
    go (Some at) rests = absurd (false≢true (sym rests))
    go None rests = ap (λ m. has_written (by_move v m)) gives ∙ wrote e

step_wrote : (p : Pages) (a : ActorId) (now : ℕ) → next_turn p.plan p.lines ≡ Some (a, now) → is_full p ≡ false → is_running p.plan (world_of p) a ≡ false → moment_from p.lines now ≡ now
    → has_written (step_answer p a now) ≡ true
step_wrote p a now is free rests at =
    let n = turn_writes p.plan p.lines (a, now) is in
    ap (λ b. has_written (if b then step.AtLimit else by_stage p.plan (world_of p).views (moment_from p.lines now) (stage_at p.plan (world_of p) a))) free
    ∙ ap (λ t. has_written (by_stage p.plan (world_of p).views t (stage_at p.plan (world_of p) a))) at
    ∙ writes_at p.plan (world_of p).views now (stage_at p.plan (world_of p) a) n.event n.change n.next n.gives rests

-- and so does the end of its callback
not_early : (a b : ℕ) → nat_le a b ≡ true → nat_lt b a ≡ false
not_early a b le = grind (arith, nat_tests)

ends_at : (plan : Plan) (v : Views) (t : ℕ) (s : Stage) → is_some (running_due plan s) ≡ true → is_within t (wakes_at plan v s) ≡ true → nat_lt t (unwrap_or (running_due plan s) 0) ≡ false
ends_at plan v t (stage.Idle (idle.Running d f since)) runs within = not_early _ t within
ends_at plan v t (stage.Suspend (suspend.Running d f since)) runs within = not_early _ t within
ends_at plan v t (stage.Resume (resume.Running r since)) runs within = not_early _ t within
ends_at plan v t _ runs within = absurd (false≢true runs)

ends_where : (plan : Plan) (v : Views) (t : ℕ) (o : Option Stage) → runs_at plan o ≡ true → is_within t (option_and_then (wakes_at plan v) o) ≡ true
    → nat_lt t (unwrap_or (option_and_then (running_due plan) o) 0) ≡ false
ends_where plan v t None runs within = absurd (false≢true runs)
ends_where plan v t (Some s) runs within = ends_at plan v t s runs within

end_wrote : (p : Pages) (a : ActorId) (now : ℕ) → next_turn p.plan p.lines ≡ Some (a, now) → is_full p ≡ false → is_running p.plan (world_of p) a ≡ true → moment_from p.lines now ≡ now
    → end_answer p a now ≡ end.Wrote
end_wrote p a now is free runs at =
    let late = ends_where p.plan (world_of p).views now (stage_at p.plan (world_of p) a) runs (awake p.plan p.lines (a, now) is) in
    let ending = unwrap_or (end_due p.plan (world_of p) a) 0 in
    ap (λ b. if b then end.AtLimit else end_by (moment_from p.lines now) ending) free ∙ ap (λ t. end_by t ending) at ∙ ap (λ b. if b then end.Early ending else end.Wrote) late

-- the line that was added is the next
adds_next : (old new : Pages) (a : ActorId) (now : ℕ) → IsTurn old a now → moment_from old.lines now ≡ now → Adds old new a (moment_from old.lines now) → Writes old new
adds_next old new a now is at adds =
    let line = adds.line in
    let w = world old.plan old.lines in
    let p = adds.permits in
    let gives : move_at old.plan w line.time line.actor ≡ Some (Write line.event p.change p.next) = ap (option_and_then (λ s. move old.plan w.views s line.time)) p.stands ∙ p.gives in
    let its : next_turn old.plan old.lines ≡ Some (line.actor, line.time) = is.turn ∙ ap (λ x. Some (a, x)) (sym (adds.time_is ∙ at)) ∙ ap (λ y. Some (y, line.time)) (sym adds.actor_is) in
    record {
      line = line;
      next = line_next old.plan old.lines (line.actor, line.time) its (record { event = line.event; change = p.change; next = p.next; gives = gives });
      soon = let soon = is.soon in omega (arith, soon, at, adds.time_is);
      added = adds.added;
    }

step_writes : (old new : Pages) (a : ActorId) (now : ℕ) (answer : Step) → IsTurn old a now → is_full old ≡ false → HasTime old.plan old.lines → is_running old.plan (world_of old) a ≡ false
    → answer ≡ step_answer old a now → (has_written answer ≡ true → Adds old new a (moment_from old.lines now)) → Writes old new
step_writes old new a now answer is free in_time rests answers writes =
    let at = turn_in_time old a now is free in_time in
    adds_next old new a now is at (writes (ap has_written answers ∙ step_wrote old a now is.turn free rests at))

end_writes : (old new : Pages) (a : ActorId) (now : ℕ) (answer : EndStep) → IsTurn old a now → is_full old ≡ false → HasTime old.plan old.lines → is_running old.plan (world_of old) a ≡ true
    → answer ≡ end_answer old a now → (answer ≡ end.Wrote → Adds old new a (moment_from old.lines now)) → Writes old new
end_writes old new a now answer is free in_time runs answers writes =
    let at = turn_in_time old a now is free in_time in
    adds_next old new a now is at (writes (answers ∙ end_wrote old a now is.turn free runs at))

-- a step of an actor says whether its callback runs
runs_where : (plan : Plan) (v : Views) (t : ℕ) (o : Option Stage) → says_running (by_stage plan v t o) ≡ runs_at plan o
runs_where plan v t None = refl
runs_where plan v t (Some s) = go (running_due plan s)
  where
    told : (e : Event) → says_running (answer_to v e) ≡ false
    told (event.Begin d k) = refl
    told _ = refl

    moved : (o : Option Move) → says_running (by_move v o) ≡ false
    moved None = refl
    moved (Some (Late at)) = refl
    moved (Some (Wait d)) = refl
    moved (Some (Write e c next)) = told e

    go : (o : Option ℕ) → says_running (by_running o (by_move v (move plan v s t))) ≡ is_some o
    go (Some at) = refl
    go None = moved (move plan v s t)

step_runs : (p : Pages) (a : ActorId) (now : ℕ) → is_full p ≡ false → says_running (step_answer p a now) ≡ is_running p.plan (world_of p) a
step_runs p a now free =
    ap (λ b. says_running (if b then step.AtLimit else by_stage p.plan (world_of p).views (moment_from p.lines now) (stage_at p.plan (world_of p) a))) free
    ∙ runs_where p.plan (world_of p).views (moment_from p.lines now) (stage_at p.plan (world_of p) a)

-- such a step wrote nothing, and the callback ends behind it
running_wrote : (s : Step) → says_running s ≡ true → has_written s ≡ false
running_wrote (step.Running at) says = refl
running_wrote _ says = absurd (false≢true says)

pub runs_behind : (old mid : Pages) (a : ActorId) (now : ℕ) (s : Step) → is_full old ≡ false → s ≡ step_answer old a now → says_running s ≡ true → (has_written s ≡ false → mid ≡ old)
    → is_running mid.plan (world_of mid) a ≡ true
runs_behind old mid a now s free answers says stays =
    subst (λ (p : Pages). is_running p.plan (world_of p) a ≡ true) (sym (stays (running_wrote s says))) (sym (step_runs old a now free) ∙ ap says_running (sym answers) ∙ says)

pub end_behind : (old mid new : Pages) (a : ActorId) (now : ℕ) (s : Step) (answer : EndStep) → IsTurn old a now → is_full old ≡ false → HasTime old.plan old.lines → s ≡ step_answer old a now
    → says_running s ≡ true → (has_written s ≡ false → mid ≡ old) → answer ≡ end_answer mid a now → (answer ≡ end.Wrote → Adds mid new a (moment_from mid.lines now)) → Writes old new
end_behind old mid new a now s answer is free in_time answers says stays ends writes =
    let same : mid ≡ old = stays (running_wrote s says) in
    let runs : is_running old.plan (world_of old) a ≡ true = sym (step_runs old a now free) ∙ ap says_running (sym answers) ∙ says in
    end_writes old new a now answer is free in_time runs (ends ∙ ap (λ (p : Pages). end_answer p a now) same)
    (λ wrote. subst (λ (p : Pages). Adds p new a (moment_from p.lines now)) same (writes wrote))

-- each other step of whose turn it is writes its line
pub step_alone : (old new : Pages) (a : ActorId) (now : ℕ) (s : Step) → IsTurn old a now → is_full old ≡ false → HasTime old.plan old.lines → s ≡ step_answer old a now
    → says_running s ≡ false → (has_written s ≡ true → Adds old new a (moment_from old.lines now)) → Writes old new
step_alone old new a now s is free in_time answers says writes =
    step_writes old new a now s is free in_time (sym (step_runs old a now free) ∙ ap says_running (sym answers) ∙ says) answers writes
