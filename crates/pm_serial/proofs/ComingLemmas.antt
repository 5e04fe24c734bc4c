-- The lines of a run on one thread come one by one.
use Rattle.std.proofs.Common.{◌≡◌, ◌∙◌, ◌+◌, ◌++◌, ◌*◌, ◌-◌, ◌<◌, ◌≤◌, ◌^◌, ◌⊎◌, ℕ, zero, suc, Bool, true, false, List, [], ◌∷◌, Option, None, Some, IsSome, is_some, length, nat_lt, reverse, slice_get, take, if◌then◌else◌, ap, append-nil, append_assoc, arith, lit<, refl, subst, sym}
use Rattle.std.specs.Option.{option_and_then, option_map_or}
use Rattle.std.proofs.Math.Seq.{take-append_seam}
use Rattle.std.proofs.lemmas.Bool.{false_from_ne_true}
use Rattle.std.proofs.lemmas.Bool.Decides.{nat_tests}
use Rattle.std.proofs.lemmas.List.{length-append, length-reverse, reverse-append, reverse-reverse}
use Rattle.std.proofs.lemmas.Option.{same_Some, slice_get_past}
use Rattle.pm_base.specs.declared.ActorId.{ActorId}
use Rattle.pm_base.specs.declared.ActorId.TheVariants.{Caller, Work, Timer}
use Rattle.pm_model.proofs.SerialLemmas.{permits_next, serial_lawful}
use Rattle.pm_model.specs.declared.event.Event.{Event}
use Rattle.pm_model.specs.declared.event.Line.{Line}
use Rattle.pm_model.specs.declared.plan.Plan.{Plan}
use Rattle.pm_model.specs.declared.stage.Change.{Change}
use Rattle.pm_model.specs.declared.stage.Move.{Move}
use Rattle.pm_model.specs.declared.stage.Move.TheVariants.{Write, Late, Wait}
use Rattle.pm_model.specs.declared.stage.Stage.{Stage}
use Rattle.pm_model.specs.declared.stage.Then.{Then}
use Rattle.pm_model.specs.History.{History}
use Rattle.pm_model.specs.Lawful.{IsFinished, IsLawful, is_finished, last_time}
use Rattle.pm_model.specs.Serial.{goes_on, move_at, next_line, next_turn, serial, written}
use Rattle.pm_model.specs.World.{World, due as due_at, move, place, ready, stage_at, top, world}
use Rattle.pm_state.specs.Seats.{actor_in, seats}
use Rattle.pm_state.specs.Standing.{IsActor, IsOf, Standing, StandsWell, after_write, can_go_on}
use Rattle.pm_turns.specs.Turning.{AreOf, Index, IsIndex}
use Rattle.pm_book.specs.Pages.{MayWrite}
use Rattle.pm_book.specs.Sometime.{Writes}
use Rattle.pm_book.specs.Turn.{HasTime}
use Rattle.pm_book.proofs.Moves.{stays_of}
use Rattle.pm_book.proofs.PageLemmas.{leads, writes}
use Rattle.pm_book.proofs.TurnLemmas.{AreDue, IsNext, line_next, turn_soon, turn_writes}
use Rattle.pm_serial.specs.Coming.{IsAfter, IsComing, Moves, so_far}
use Rattle.pm_serial.specs.declared.turn.NextTurn.{NextTurn}
use Rattle.pm_serial.specs.declared.running.End.{End}
use Rattle.pm_serial.specs.declared.running.End.TheVariants as end
use Rattle.pm_serial.specs.Ends.{IsSerialEnd, whole}
use Rattle.pm_serial.proofs.WholeLemmas.{fresh_time, has_all, nowhere, serial_is, time_less, whole_one}

-- the run goes on with lines in front of those that have come
pub record More (plan : Plan) (n : ℕ) (h : History) : Type 0 where
  pub more : List Line
  pub is : goes_on plan n h ≡ more ++ h

goes_more : (plan : Plan) (n : ℕ) (h : History) → More plan n h
goes_more plan zero h = record { more = []; is = refl }
goes_more plan (suc n) h = let p = go (next_line plan h) (λ line. goes_more plan n (line ∷ h)) in record { more = p.0; is = p.1 }
  where
    go : (o : Option Line) → ((line : Line) → More plan n (line ∷ h)) → (more : List Line) × (option_map_or (λ line. goes_on plan n (line ∷ h)) o h ≡ more ++ h)
    go None further = ([], refl)
    go (Some line) further = let m = further line in (m.more ++ line ∷ [], m.is ∙ sym (append_assoc m.more (line ∷ []) h))

seam : (xs ys : List Line) (y : Line) → slice_get (xs ++ y ∷ ys) (length xs) ≡ Some y
seam [] ys y = refl
seam (x ∷ xs) ys y = seam xs ys y

-- a list on the way is a front of what serial writes, and the rest is to come
pub front_is : (plan : Plan) (h : History) → whole plan h ≡ whole plan [] → (rest : List Line) × (serial plan ≡ reverse h ++ rest)
front_is plan h same =
    let m = goes_more plan (plan.lines - length h) h in
    let all : reverse (serial plan) ≡ m.more ++ h = sym (serial_is plan [] refl) ∙ sym same ∙ m.is in
    (reverse m.more, sym (reverse-reverse (serial plan)) ∙ ap (λ (l : List Line). reverse l) all ∙ reverse-append m.more h)

-- so the line that is written next is the next one of it
pub next_there : (plan : Plan) (h : History) (line : Line) → whole plan (line ∷ h) ≡ whole plan [] → slice_get (serial plan) (length h) ≡ Some line
next_there plan h line same =
    let f = front_is plan (line ∷ h) same in
    let split : serial plan ≡ reverse h ++ line ∷ f.0 = f.1 ∙ ap (λ (l : List Line). l ++ f.0) (reverse-append (line ∷ []) h) ∙ append_assoc (reverse h) (line ∷ []) f.0 in
    ap (λ (l : List Line). slice_get l (length h)) split ∙ ap (slice_get (reverse h ++ line ∷ f.0)) (sym (length-reverse h)) ∙ seam (reverse h) f.0 line

-- and where no line comes next there is none
pub none_there : (plan : Plan) (h : History) → whole plan h ≡ whole plan [] → whole plan h ≡ h → slice_get (serial plan) (length h) ≡ None
none_there plan h same stays =
    let all : serial plan ≡ reverse h = sym (reverse-reverse (serial plan)) ∙ ap (λ (l : List Line). reverse l) (sym (serial_is plan [] refl) ∙ sym same ∙ stays) in
    ap (λ (l : List Line). slice_get l (length h)) all ∙ slice_get_past (reverse h) (length h) (let same = length-reverse h in omega (arith, same))

-- the run before any line
pub first : (plan : Plan) (state : Standing) (turns : Index) → state.world ≡ world plan [] → IsOf plan state → IsIndex plan [] turns → IsAfter plan 0 state turns
first plan state turns world_is is_of turns_are = record {
  list = [];
  lawful = tt;
  many = refl;
  on_the_way = refl;
  in_time = fresh_time plan;
  world_is = world_is;
  is_of = is_of;
  turns_are = turns_are;
}

-- whose turn it is: an actor of the plan, that stands at a stage at which its line is written
pub record IsDue (plan : Plan) (h : History) (turn : ActorId × ℕ) : Type 0 where
  pub turn_is : next_turn plan h ≡ Some turn
  pub in_range : IsActor plan turn.0
  pub soon : turn.1 ≤ last_time h + 1000000
  pub later : last_time h ≤ turn.1
  pub writes : IsNext plan h turn
  pub line_is : next_line plan h ≡ Some (record { time = turn.1; actor = turn.0; event = writes.event })

-- who sits at a seat is one of the plan's actors
pub sits_in : (plan : Plan) (i : ℕ) → i < seats plan → IsActor plan (actor_in plan i)
sits_in plan i below = go (nat_lt i (length plan.callers)) refl (nat_lt i (length plan.callers + length plan.devices)) refl
  where
    go : (p : Bool) → nat_lt i (length plan.callers) ≡ p → (q : Bool) → nat_lt i (length plan.callers + length plan.devices) ≡ q
        → IsActor plan (if p then Caller i else if q then Work (i - length plan.callers) else Timer (i - (length plan.callers + length plan.devices)))
    go true e q f = grind (arith, nat_tests)
    go false e true f =
        let over : length plan.callers ≤ i = grind (arith, nat_tests) in
        let under : i < length plan.callers + length plan.devices = grind (arith, nat_tests) in
        omega (arith, over, under)
    go false e false f =
        let over : length plan.callers + length plan.devices ≤ i = grind (arith, nat_tests) in
        omega (arith, over, below)

pub is_due : (plan : Plan) (h : History) (turn : ActorId × ℕ) → AreDue plan h → next_turn plan h ≡ Some turn → IsActor plan turn.0 → IsDue plan h turn
is_due plan h turn are is in_range =
    let writes = turn_writes plan h turn is in
    let line_is = line_next plan h turn is writes in
    record {
      turn_is = is;
      in_range = in_range;
      soon = turn_soon plan h turn are is;
      later = (permits_next plan h _ line_is).in_time;
      writes = writes;
      line_is = line_is;
    }

-- a turn comes in time
pub early : (plan : Plan) (h : History) (turn : ActorId × ℕ) → IsDue plan h turn → HasTime plan h → length h < plan.lines → turn.1 < 2 ^ 63
early plan h turn due in_time room =
    let end : 2 ^ 62 < 2 ^ 63 = lit< tt in
    let soon = due.soon in
    omega (arith, soon, in_time, room, end)

-- its stage, and the move there
pub its_stage : (plan : Plan) (h : History) (turn : ActorId × ℕ) → IsDue plan h turn → (s : Stage) × (stage_at plan (world plan h) turn.0 ≡ Some s)
its_stage plan h turn due = let p = permits_next plan h _ due.line_is in (p.stage, p.stands)

pub may_write : (plan : Plan) (h : History) (turn : ActorId × ℕ) (s : Stage) (e : Event) (c : Change) (next : Then) → IsDue plan h turn → HasTime plan h → length h < plan.lines
    → stage_at plan (world plan h) turn.0 ≡ Some s → move plan (world plan h).views s turn.1 ≡ Some (Write e c next)
    → MayWrite plan h s (record { time = turn.1; actor = turn.0; event = e }) c next
may_write plan h turn s e c next due in_time room stands gives = record {
  may = record { stands = stands; later = due.later; in_time = early plan h turn due in_time room; room = room };
  gives = gives;
}

-- the line that is written there is the next one
its_line : (plan : Plan) (h : History) (turn : ActorId × ℕ) (s : Stage) (e : Event) (c : Change) (next : Then) → IsDue plan h turn
    → stage_at plan (world plan h) turn.0 ≡ Some s → move plan (world plan h).views s turn.1 ≡ Some (Write e c next)
    → next_line plan h ≡ Some (record { time = turn.1; actor = turn.0; event = e })
its_line plan h turn s e c next due stands gives =
    line_next plan h turn due.turn_is (record { event = e; change = c; next = next; gives = ap (option_and_then (λ (s : Stage). move plan (world plan h).views s turn.1)) stands ∙ gives })

-- an actor that stands well may go on at its open stage, and where it has none at what it has to start
pub stands_open : (plan : Plan) (w : World) (a : ActorId) (s : Stage) → StandsWell plan w a → Some s ≡ top None (place w a) → can_go_on plan w.views s ≡ true
stands_open plan w a s well is = ap (λ (o : Option Stage). option_map_or (can_go_on plan w.views) o true) (go (place w a) is) ∙ well
  where
    go : (l : List Stage) → Some s ≡ top None l → Some s ≡ top (ready plan w a) l
    go [] is = cc is
    go (x ∷ rest) is = is

pub stands_ready : (plan : Plan) (w : World) (a : ActorId) (s : Stage) → StandsWell plan w a → None ≡ top None (place w a) → Some s ≡ ready plan w a → can_go_on plan w.views s ≡ true
stands_ready plan w a s well none is = ap (λ (o : Option Stage). option_map_or (can_go_on plan w.views) o true) (is ∙ go (place w a) none) ∙ well
  where
    go : (l : List Stage) → None ≡ top None l → ready plan w a ≡ top (ready plan w a) l
    go [] none = refl
    go (x ∷ rest) none = cc none

-- whose turn it is, by the index
abbrev pub DueLaw : Type 0
DueLaw = (plan : Plan) (h : History) (a : ActorId) (s : Stage) → IsLawful plan h → stage_at plan (world plan h) a ≡ Some s → due_at plan (world plan h).views s ≤ last_time h + 1000000

pub below_seats : (plan : Plan) (turns : Index) (seat : ℕ) → AreOf plan turns.rows → seat < turns.rows.callers + 2 * turns.rows.devices → seat < seats plan
below_seats plan turns seat of_plan below = omega (arith, below, of_plan.callers, of_plan.devices)

pub due_of : (plan : Plan) (came : ℕ) (state : Standing) (turns : Index) (seat time : ℕ) → (k : IsAfter plan came state turns) → DueLaw
    → Some (actor_in plan seat, time) ≡ next_turn plan k.list → seat < turns.rows.callers + 2 * turns.rows.devices → IsDue plan k.list (actor_in plan seat, time)
due_of plan came state turns seat time k law is below =
    is_due plan k.list (actor_in plan seat, time) (λ a s at. law plan k.list a s k.lawful at) (sym is) (sits_in plan seat (below_seats plan turns seat k.turns_are.of_plan below))

pub fits : (plan : Plan) (came : ℕ) (state : Standing) (turns : Index) → (k : IsAfter plan came state turns) → came < plan.lines → length k.list < plan.lines
fits plan came state turns k room = let many = k.many in omega (arith, many, room)

pub in_time : (plan : Plan) (h : History) → HasTime plan h → last_time h < 2 ^ 63
in_time plan h has = let end : 2 ^ 62 < 2 ^ 63 = lit< tt in omega (arith, has, end)

-- it stands at a stage
pub some_stage : (plan : Plan) (came : ℕ) (state : Standing) (turns : Index) (turn : ActorId × ℕ) → (k : IsAfter plan came state turns) → IsDue plan k.list turn → IsSome (stage_at plan state.world turn.0)
some_stage plan came state turns turn k due =
    let there = its_stage plan k.list turn due in
    let here : stage_at plan state.world turn.0 ≡ Some there.0 = subst (λ (w : World). stage_at plan w turn.0 ≡ Some there.0) (sym k.world_is) there.1 in
    ap (λ (o : Option Stage). is_some o) here

-- the lines that have come are the first ones
pub so_far_is : (plan : Plan) (came : ℕ) (state : Standing) (turns : Index) → (k : IsAfter plan came state turns) → k.list ≡ so_far plan came
unfolding so_far
so_far_is plan came state turns k =
    let f = front_is plan k.list k.on_the_way in
    let many : came ≡ length (reverse k.list) = sym (length-reverse k.list ∙ k.many) in
    let front : take came (serial plan) ≡ reverse k.list =
    ap (λ n. take n (serial plan)) many ∙ ap (take (length (reverse k.list))) f.1 ∙ take-append_seam (reverse k.list) f.0 in
    sym (ap (λ (l : List Line). reverse l) front ∙ reverse-reverse k.list)

-- its move there writes the next line
pub is_coming : (plan : Plan) (came : ℕ) (state : Standing) (turns : Index) (turn : NextTurn) (m : Move) → (k : IsAfter plan came state turns) → came < plan.lines
    → turn.seat < seats plan → IsDue plan k.list (actor_in plan turn.seat, turn.time) → Moves plan state.world (actor_in plan turn.seat) turn.time m turn.at → IsComing plan came turn m
is_coming plan came state turns turn m k room below due moves =
    let same = so_far_is plan came state turns k in
    let n = due.writes in
    let at : stage_at plan (world plan k.list) (actor_in plan turn.seat) ≡ Some moves.stage = subst (λ (w : World). stage_at plan w (actor_in plan turn.seat) ≡ Some moves.stage) k.world_is moves.stands in
    let is : Some m ≡ move plan (world plan k.list).views moves.stage turn.time = subst (λ (w : World). Some m ≡ move plan w.views moves.stage turn.time) k.world_is moves.gives in
    let here : move plan (world plan k.list).views moves.stage turn.time ≡ Some (Write n.event n.change n.next) =
    sym (ap (option_and_then (λ (s : Stage). move plan (world plan k.list).views s turn.time)) at) ∙ n.gives in
    let line : Line = record { time = turn.time; actor = actor_in plan turn.seat; event = n.event } in
    let whole_is : whole plan (line ∷ k.list) ≡ whole plan [] = whole_one plan k.list line (fits plan came state turns k room) due.line_is ∙ k.on_the_way in
    record {
      turn_is = subst (λ (h : History). next_turn plan h ≡ Some (actor_in plan turn.seat, turn.time)) same due.turn_is;
      in_range = below;
      stage = moves.stage;
      stands = subst (λ (h : History). stage_at plan (world plan h) (actor_in plan turn.seat) ≡ Some moves.stage) same at;
      gives = subst (λ (h : History). Some m ≡ move plan (world plan h).views moves.stage turn.time) same is;
      at_is = moves.at_is;
      room = room;
      event = n.event;
      change = n.change;
      what_follows = n.next;
      writes = same_Some m (Write n.event n.change n.next) (is ∙ here);
      line_is = ap (slice_get (serial plan)) (sym k.many) ∙ next_there plan k.list line whole_is;
    }

-- what comes next is due
pub due_coming : (plan : Plan) (came : ℕ) (state : Standing) (turns : Index) (turn : NextTurn) (m : Move) → (k : IsAfter plan came state turns) → DueLaw → IsComing plan came turn m
    → IsDue plan k.list (actor_in plan turn.seat, turn.time)
due_coming plan came state turns turn m k law coming =
    is_due plan k.list (actor_in plan turn.seat, turn.time) (λ a s at. law plan k.list a s k.lawful at)
    (subst (λ (h : History). next_turn plan h ≡ Some (actor_in plan turn.seat, turn.time)) (sym (so_far_is plan came state turns k)) coming.turn_is) (sits_in plan turn.seat coming.in_range)

-- a move that writes
pub a_write : (plan : Plan) (came : ℕ) (turn : NextTurn) (m : Move) → IsComing plan came turn m → ((e : Event) (c : Change) (next : Then) → m ≡ Write e c next → ⊥) → ⊥
a_write plan came turn m coming none = none coming.event coming.change coming.what_follows coming.writes

-- the line that it writes there
pub record IsStep (plan : Plan) (h : History) (w : World) (turn : ActorId × ℕ) (s : Stage) (e : Event) (c : Change) (next : Then) : Type 0 where
  pub stands : stage_at plan (world plan h) turn.0 ≡ Some s
  pub gives : move plan (world plan h).views s turn.1 ≡ Some (Write e c next)
  pub may : MayWrite plan h s (record { time = turn.1; actor = turn.0; event = e }) c next
  pub writes : Writes plan w (last_time h) (record { time = turn.1; actor = turn.0; event = e }) c next

pub step_of : (plan : Plan) (came : ℕ) (state : Standing) (turns : Index) (turn : NextTurn) (m : Move) (e : Event) (c : Change) (next : Then) → (k : IsAfter plan came state turns) → DueLaw
    → (coming : IsComing plan came turn m) → m ≡ Write e c next → IsStep plan k.list state.world (actor_in plan turn.seat, turn.time) coming.stage e c next
step_of plan came state turns turn m e c next k law coming is =
    let same = sym (so_far_is plan came state turns k) in
    let due = due_coming plan came state turns turn m k law coming in
    let at : stage_at plan (world plan k.list) (actor_in plan turn.seat) ≡ Some coming.stage = subst (λ (h : History). stage_at plan (world plan h) (actor_in plan turn.seat) ≡ Some coming.stage) same coming.stands in
    let moves : move plan (world plan k.list).views coming.stage turn.time ≡ Some (Write e c next) =
    sym (subst (λ (h : History). Some m ≡ move plan (world plan h).views coming.stage turn.time) same coming.gives) ∙ ap (λ (m : Move). Some m) is in
    let may = may_write plan k.list (actor_in plan turn.seat, turn.time) coming.stage e c next due k.in_time (fits plan came state turns k coming.room) at moves in
    record { stands = at; gives = moves; may = may; writes = writes plan k.list state.world coming.stage _ c next k.world_is may }

-- the run with it
pub goes : (plan : Plan) (came : ℕ) (state state' : Standing) (turns turns' : Index) (turn : ActorId × ℕ) (s : Stage) (e : Event) (c : Change) (next : Then)
    → (k : IsAfter plan came state turns) → came < plan.lines → IsDue plan k.list turn
    → stage_at plan (world plan k.list) turn.0 ≡ Some s → move plan (world plan k.list).views s turn.1 ≡ Some (Write e c next)
    → state' ≡ record state { world = after_write plan state.world c (record { time = turn.1; actor = turn.0; event = e }) next }
    → IsIndex plan (record { time = turn.1; actor = turn.0; event = e } ∷ k.list) turns'
    → IsAfter plan (came + 1) state' turns' × (slice_get (serial plan) came ≡ Some (record { time = turn.1; actor = turn.0; event = e }))
goes plan came state state' turns turns' turn s e c next k room due stands gives state_is index =
    let line : Line = record { time = turn.1; actor = turn.0; event = e } in
    let many = k.many in
    let fits : length k.list < plan.lines = omega (arith, many, room) in
    let may = may_write plan k.list turn s e c next due k.in_time fits stands gives in
    let led = leads plan k.list state.world s line c next k.lawful k.world_is may in
    let same : whole plan (line ∷ k.list) ≡ whole plan [] = whole_one plan k.list line fits (its_line plan k.list turn s e c next due stands gives) ∙ k.on_the_way in (
      record {
        list = line ∷ k.list;
        lawful = led.lawful;
        many = omega (arith, many);
        on_the_way = same;
        in_time = time_less (last_time k.list) turn.1 (length k.list) plan.lines due.soon fits k.in_time;
        world_is = ap (λ (x : Standing). x.world) state_is ∙ led.world_is;
        is_of = subst (IsOf plan) (sym state_is) (stays_of plan state c line next k.is_of);
        turns_are = index;
      },
      ap (slice_get (serial plan)) (sym many) ∙ next_there plan k.list line same,
    )

-- nobody's turn: all lines have come
no_line : (plan : Plan) (h : History) → next_turn plan h ≡ None → next_line plan h ≡ None
no_line plan h none = ap (option_and_then (λ (x : ActorId × ℕ). option_and_then (written x.0 x.1) (move_at plan (world plan h) x.1 x.0))) none

pub rests : (plan : Plan) (came : ℕ) (state : Standing) (turns : Index) → (k : IsAfter plan came state turns) → None ≡ next_turn plan k.list → slice_get (serial plan) came ≡ None
rests plan came state turns k none =
    ap (slice_get (serial plan)) (sym k.many) ∙ none_there plan k.list k.on_the_way (nowhere plan (plan.lines - length k.list) k.list (no_line plan k.list (sym none)))

-- and so they have where there are as many as the plan allows
pub full : (plan : Plan) (came : ℕ) (state : Standing) (turns : Index) → IsAfter plan came state turns → plan.lines ≤ came → slice_get (serial plan) came ≡ None
full plan came state turns k most =
    let many = k.many in
    let left : plan.lines - length k.list ≡ 0 = omega (arith, many, most) in
    ap (slice_get (serial plan)) (sym k.many) ∙ none_there plan k.list k.on_the_way (ap (λ n. goes_on plan n k.list) left)

-- how it ends once all have come
pub all_came : (plan : Plan) (came : ℕ) (state : Standing) (turns : Index) → (k : IsAfter plan came state turns) → came ≡ length (serial plan) → reverse (serial plan) ≡ k.list
all_came plan came state turns k same =
    let f = front_is plan k.list k.on_the_way in
    let many = k.many in
    let count : length (serial plan) ≡ length (reverse k.list) + length f.0 = ap (λ (l : List Line). length l) f.1 ∙ length-append (reverse k.list) f.0 in
    let back = length-reverse k.list in
    let none : length f.0 ≡ 0 = omega (arith, many, same, count, back) in
    ap (λ (l : List Line). reverse l) (f.1 ∙ ap (λ (l : List Line). reverse k.list ++ l) (no_more f.0 none) ∙ append-nil (reverse k.list)) ∙ reverse-reverse k.list
  where
    no_more : (l : List Line) → length l ≡ 0 → l ≡ []
    no_more [] is = refl
    no_more (x ∷ l) is = cc is

pub ends_finished : (plan : Plan) (h : History) → reverse (serial plan) ≡ h → IsFinished plan h → IsSerialEnd plan end.Finished
ends_finished plan h all done = subst (IsFinished plan) (sym all) done

pub ends_at_limit : (plan : Plan) (h : History) (turn : ActorId × ℕ) → reverse (serial plan) ≡ h → next_turn plan h ≡ Some turn → (IsFinished plan h → next_turn plan h ≡ None)
    → IsFinished plan (goes_on plan plan.lines []) ⊎ (length (serial plan) ≡ plan.lines) → IsSerialEnd plan end.AtLimit
ends_at_limit plan h turn all is stops ends =
    let unfinished : is_finished plan (world plan h) ≡ false = false_from_ne_true _ (λ done. let none : Some turn ≡ None = sym is ∙ stops done in cc none) in
    let same : is_finished plan (world plan (reverse (serial plan))) ≡ false = subst (λ (l : History). is_finished plan (world plan l) ≡ false) (sym all) unfinished in
    (has_all plan ends same, same)

-- some end it has
pub some_end : (plan : Plan) → IsFinished plan (goes_on plan plan.lines []) ⊎ (length (serial plan) ≡ plan.lines) → (e : End) × IsSerialEnd plan e
some_end plan ends = go (is_finished plan (world plan (reverse (serial plan)))) refl
  where
    go : (b : Bool) → is_finished plan (world plan (reverse (serial plan))) ≡ b → (e : End) × IsSerialEnd plan e
    go true is = (end.Finished, is)
    go false is = (end.AtLimit, (has_all plan ends is, is))

-- its lines come in time
written_at : (line : Line) (a : ActorId) (t : ℕ) (o : Option Move) → option_and_then (written a t) o ≡ Some line → line.time ≡ t
written_at line a t None is = cc is
written_at line a t (Some (Write e c next)) is = sym (ap (λ (l : Line). l.time) (same_Some (record { time = t; actor = a; event = e }) line is))
written_at line a t (Some (Late at)) is = cc is
written_at line a t (Some (Wait d)) is = cc is

next_soon : (plan : Plan) (h : History) (line : Line) → AreDue plan h → next_line plan h ≡ Some line → line.time ≤ last_time h + 1000000
next_soon plan h line are is = go (next_turn plan h) refl is
  where
    go : (o : Option (ActorId × ℕ)) → next_turn plan h ≡ o
        → option_and_then (λ (x : ActorId × ℕ). option_and_then (written x.0 x.1) (move_at plan (world plan h) x.1 x.0)) o ≡ Some line → line.time ≤ last_time h + 1000000
    go None turn e = cc e
    go (Some x) turn e =
        let at = written_at line x.0 x.1 (move_at plan (world plan h) x.1 x.0) e in
        let soon = turn_soon plan h x are turn in
        omega (arith, at, soon)

pub latest : (plan : Plan) (n : ℕ) (h : History) → ((h : History) → IsLawful plan h → AreDue plan h) → length h + n ≤ plan.lines → IsLawful plan h → last_time h + 1000000 * n ≤ 2 ^ 62 → last_time (goes_on plan n h) ≤ 2 ^ 62
latest plan zero h are room lawful in_time = omega (arith, in_time)
latest plan (suc n) h are room lawful in_time = go (next_line plan h) refl (λ line. latest plan n (line ∷ h) are)
  where
    soon : (line : Line) → next_line plan h ≡ Some line → line.time ≤ last_time h + 1000000
    soon line is = next_soon plan h line (are h lawful) is

    go : (o : Option Line) → next_line plan h ≡ o
        → ((line : Line) → length (line ∷ h) + n ≤ plan.lines → IsLawful plan (line ∷ h) → line.time + 1000000 * n ≤ 2 ^ 62 → last_time (goes_on plan n (line ∷ h)) ≤ 2 ^ 62)
        → last_time (option_map_or (λ line. goes_on plan n (line ∷ h)) o h) ≤ 2 ^ 62
    go None is further = omega (arith, in_time)
    go (Some line) is further =
        let s = soon line is in
        further line (omega (arith, room)) (permits_next plan h line is, omega (arith, room), lawful) (omega (arith, s, in_time))

-- they are lawful, and each is one of the plan
pub serial_is_lawful : (plan : Plan) → IsLawful plan (reverse (serial plan))
serial_is_lawful plan = subst (IsLawful plan) (sym (reverse-reverse (goes_on plan plan.lines []))) (serial_lawful plan)

pub serial_in_time : (plan : Plan) → DueLaw → last_time (reverse (serial plan)) < 2 ^ 63
serial_in_time plan law =
    let all : plan.lines - 0 ≡ plan.lines = omega arith in
    let fresh = fresh_time plan in
    let le = latest plan plan.lines [] (λ h lawful a s at. law plan h a s lawful at) (omega arith) tt (omega (arith, fresh, all)) in
    let back : last_time (reverse (serial plan)) ≡ last_time (goes_on plan plan.lines []) = ap (λ (l : History). last_time l) (reverse-reverse (goes_on plan plan.lines [])) in
    let end : 2 ^ 62 < 2 ^ 63 = lit< tt in
    omega (arith, le, back, end)
