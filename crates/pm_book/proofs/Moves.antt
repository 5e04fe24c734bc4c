-- What the state of a run says of a line, and what a line makes of it.
use Rattle.std.proofs.Common.{ℕ, ◌≡◌, ◌<◌, ◌≤◌, inl, inr, ◌+◌, ◌&&◌, Bool, true, false, List, [], ◌∷◌, length, drop, slice_get, Option, Some, None, option_map, is_some, nat_lt, slice_index_or, if◌then◌else◌, refl, sym, subst, ◌∙◌, ap, arith}
use Rattle.std.specs.Option.{option_and_then, option_map_or}
use Rattle.std.proofs.lemmas.List.{get_or-set_same, length-set}
use Rattle.std.proofs.lemmas.Option.{slice_get_cases}
use Rattle.pm_base.specs.declared.ActorId.{ActorId}
use Rattle.pm_base.specs.declared.ActorId.TheVariants.{Caller, Work, Timer}
use Rattle.pm_base.specs.declared.DevId.{DevId}
use Rattle.pm_model.specs.declared.event.Command.{Command}
use Rattle.pm_model.specs.declared.event.Event.{Event}
use Rattle.pm_model.specs.declared.event.Event.TheVariants as event
use Rattle.pm_model.specs.declared.event.Line.{Line}
use Rattle.pm_model.specs.declared.plan.Plan.{Plan}
use Rattle.pm_model.specs.declared.rows.CallerRow.{CallerRow}
use Rattle.pm_model.specs.declared.stage.Change.{Change}
use Rattle.pm_model.specs.declared.stage.Move.TheVariants.{Write, Late, Wait}
use Rattle.pm_model.specs.declared.stage.Stage.{Stage}
use Rattle.pm_model.specs.declared.stage.Stage.TheVariants as stage
use Rattle.pm_model.specs.declared.stage.Then.{Then}
use Rattle.pm_model.specs.CanTake.{can_take, has_room}
use Rattle.pm_model.specs.Handing.{after_then}
use Rattle.pm_model.specs.History.{History}
use Rattle.pm_model.specs.Lawful.{Permits, last_time}
use Rattle.pm_model.specs.Row.{Row, writes, waits, timed}
use Rattle.pm_model.specs.Views.{Views}
use Rattle.pm_model.specs.WellFormed.{called_for, is_well_formed}
use Rattle.pm_model.specs.World.{World, after_line, called_by, counts_call, due, move, place, row, stage_at, with_place, world}
use Rattle.pm_laws.specs.stacks.Depth.{AreShallow, command_chain, greatest, longest_chain}
use Rattle.pm_laws.proofs.stacks.Chains.{quiet_le}
use Rattle.pm_state.specs.Standing.{HasRoomFor, IsActor, IsOf, IsRoomy, Standing, StandsWell, Takes, after_write, can_count, can_go_on, is_awake}
use Rattle.pm_laws.specs.bounds.Times.{event_of}
use Rattle.pm_book.specs.Sometime.{MayCome, Writes}

-- a line that is due is not late: its row writes, or waits
pub writes_event : (r : Option Row) (due t : ℕ) (e : Event) (c : Change) (next : Then) → option_map (timed due t) r ≡ Some (Write e c next) → option_and_then event_of r ≡ Some e
writes_event None due t e c next is = cc is
writes_event (Some (waits d)) due t e c next is = go (nat_lt t due) is
  where
    go : (b : Bool) → Some (if b then Late due else Wait d) ≡ Some (Write e c next) → option_and_then event_of (Some (waits d)) ≡ Some e
    go true p = cc p
    go false p = cc p
writes_event (Some (writes e' c' next')) due t e c next is = go (nat_lt t due) is
  where
    go : (b : Bool) → Some (if b then Late due else Write e' c' next') ≡ Some (Write e c next) → Some e' ≡ Some e
    go true p = cc p
    go false p = cc p

-- where a line may come next, it is permitted behind each list after which the run stands so
pub permits : (plan : Plan) (h : History) (w : World) (last : ℕ) (line : Line) (c : Change) (next : Then) → w ≡ world plan h → last ≡ last_time h → Writes plan w last line c next → Permits plan h line
permits plan h w last line c next same at may = record {
  stage = may.stage;
  stands = subst (λ (x : World). stage_at plan x line.actor ≡ Some may.stage) same may.stands;
  change = c;
  next = next;
  gives = subst (λ (x : World). move plan x.views may.stage line.time ≡ Some (Write line.event c next)) same may.gives;
  in_time = subst (λ n. n ≤ line.time) at may.in_time;
}

pub may_come : (plan : Plan) (h : History) (w : World) (last : ℕ) (line : Line) → w ≡ world plan h → last ≡ last_time h → Permits plan h line → MayCome plan w last line
may_come plan h w last line same at p = (
  p.change,
  p.next,
  record {
    stage = p.stage;
    stands = subst (λ (x : World). stage_at plan x line.actor ≡ Some p.stage) (sym same) p.stands;
    gives = subst (λ (x : World). move plan x.views p.stage line.time ≡ Some (Write line.event p.change p.next)) (sym same) p.gives;
    in_time = subst (λ n. n ≤ line.time) (sym at) p.in_time;
  },
)

both : (a b : Bool) → a ≡ true → b ≡ true → a && b ≡ true
both a b x y = cc (x, y)

-- a stage that has a move awaits no call
awake : (plan : Plan) (v : Views) (s : Stage) → is_some (move plan v s 0) ≡ true → is_awake s ≡ true
awake plan v (stage.Await a) moves = cc moves
awake plan v _ moves = refl

can_stand : (plan : Plan) (v : Views) (o : Option Stage) → ((s : Stage) → o ≡ Some s → is_well_formed plan v s ≡ true) → ((s : Stage) → o ≡ Some s → is_some (move plan v s 0) ≡ true)
    → option_map_or (can_go_on plan v) o true ≡ true
can_stand plan v None told moves = refl
can_stand plan v (Some s) told moves = both _ _ (told s refl) (awake plan v s (moves s refl))

-- an actor whose stage is well formed and has a move may go on
pub stands_well : (plan : Plan) (w w' : World) (actor : ActorId) → w' ≡ w → ((s : Stage) → stage_at plan w actor ≡ Some s → is_well_formed plan w.views s ≡ true)
    → ((s : Stage) → stage_at plan w actor ≡ Some s → is_some (move plan w.views s 0) ≡ true) → StandsWell plan w' actor
stands_well plan w w' actor same told moves = subst (λ (x : World). StandsWell plan x actor) (sym same) (can_stand plan w.views (stage_at plan w actor) told moves)

count_room : (w : World) (actor : ActorId) (e : Event) → ((c : ℕ) → has_room (called_by w c) ≡ true) → can_count w actor e ≡ true
count_room w (Caller c) (event.Call command) room = room c
count_room w (Caller c) _ room = refl
count_room w _ e room = refl

-- a line that may come next, where the counters can take each that is permitted and one more call of each caller can be
-- counted
pub takes : (plan : Plan) (h : History) (w : World) (line : Line) (c : Change) (next : Then) → w ≡ world plan h → Writes plan w (last_time h) line c next
    → ((p : Permits plan h line) → can_take plan (world plan h).views p.change line.event ≡ true) → ((n : ℕ) → has_room (called_by (world plan h) n) ≡ true) → Takes plan w line.actor c line.event
unfolding permits
takes plan h w line c next same may taken room =
    subst (λ (x : World). Takes plan x line.actor c line.event) (sym same)
    (record { counters = taken (permits plan h w (last_time h) line c next same refl may); calls = count_room (world plan h) line.actor line.event room })

-- what a line that may come next makes of the world
goes_on : (plan : Plan) (w : World) (line : Line) (due : ℕ) (e : Event) (c : Change) (next : Then) (r : Option Row)
    → option_map (timed due line.time) r ≡ Some (Write e c next) → after_line plan w line r ≡ after_line plan w line (Some (writes e c next))
goes_on plan w line due e c next None is = cc is
goes_on plan w line due e c next (Some (waits d)) is = go (nat_lt line.time due) is
  where
    go : (b : Bool) → Some (if b then Late due else Wait d) ≡ Some (Write e c next) → after_line plan w line (Some (waits d)) ≡ after_line plan w line (Some (writes e c next))
    go true p = cc p
    go false p = cc p
goes_on plan w line due e c next (Some (writes e' c' next')) is = go (nat_lt line.time due) is
  where
    same : Write e' c' next' ≡ Write e c next → writes e' c' next' ≡ writes e c next
    same p =
        let events : e' ≡ e = cc p in
        let changes : c' ≡ c = cc p in
        let thens : next' ≡ next = cc p in
        rw (events, changes, thens) refl

    go : (b : Bool) → Some (if b then Late due else Write e' c' next') ≡ Some (Write e c next) → after_line plan w line (Some (writes e' c' next')) ≡ after_line plan w line (Some (writes e c next))
    go true p = cc p
    go false p = let moves : Write e' c' next' ≡ Write e c next = cc p in ap (λ x. after_line plan w line (Some x)) (same moves)

world_goes : (plan : Plan) (h : History) (line : Line) (c : Change) (next : Then) → Writes plan (world plan h) (last_time h) line c next
    → world plan (line ∷ h) ≡ after_write plan (world plan h) c line next
world_goes plan h line c next may =
    let w = world plan h in
    subst (λ x. after_line plan w line (option_and_then (λ s. row plan w.views s line.time) x) ≡ after_write plan w c line next) (sym may.stands)
    (goes_on plan w line (due plan w.views may.stage) line.event c next (row plan w.views may.stage line.time) may.gives)

pub world_after : (plan : Plan) (h : History) (w : World) (last : ℕ) (line : Line) (c : Change) (next : Then) → w ≡ world plan h → last ≡ last_time h → Writes plan w last line c next
    → after_write plan w c line next ≡ world plan (line ∷ h)
world_after plan h w last line c next same at may =
    let here : Writes plan (world plan h) (last_time h) line c next = subst (λ n. Writes plan (world plan h) n line c next) at (subst (λ (x : World). Writes plan x last line c next) same may) in
    ap (λ (x : World). after_write plan x c line next) same ∙ sym (world_goes plan h line c next here)

-- an actor's place has room for as many stages as may ever stand there
each_within : {A : Type 0} (f : A → ℕ) (xs : List A) (room : ℕ) → 3 ≤ room → ((x : A) → f x + 3 ≤ room) → greatest f xs + 3 ≤ room
each_within f [] room some each = some
each_within f (x ∷ xs) room some each = omega (arith, each x, each_within f xs room some each)

command_within : (plan : Plan) (room : ℕ) → ((d : DevId) → longest_chain plan d + 3 ≤ room) → (command : Command) → command_chain plan command + 3 ≤ room
command_within plan room each command = go (called_for command.helper command.dev)
  where
    go : (o : Option DevId) → option_map_or (longest_chain plan) o 0 + 3 ≤ room
    go None = omega (arith, each (record { 0 = 0 }))
    go (Some d) = each d

shallow_within : (plan : Plan) (w : World) (room : ℕ) (actor : ActorId) → IsRoomy plan room → AreShallow plan w → IsActor plan actor → length (place w actor) ≤ room
shallow_within plan w room (Caller c) roomy shallow within = go (slice_get plan.callers c) refl
  where
    missing : slice_get plan.callers c ≡ None → ⊥
    missing none = elim (slice_get_cases plan.callers c).1 [
      | inl there ↦ cc (there.2, none)
      | inr past ↦ let here : c < length plan.callers = within in omega (arith, past.0, here)
    ]

    go : (o : Option CallerRow) → slice_get plan.callers c ≡ o → length (place w (Caller c)) ≤ room
    go None is = absurd (missing is)
    go (Some caller) is =
        let deep = shallow.callers c caller is in
        omega (arith, deep, each_within (command_chain plan) caller.script room (omega (arith, roomy.each (record { 0 = 0 }))) (command_within plan room roomy.each))
shallow_within plan w room (Work d) roomy shallow within = omega (arith, shallow.works (record { 0 = d }), roomy.each (record { 0 = d }))
shallow_within plan w room (Timer d) roomy shallow within = omega (arith, shallow.timers (record { 0 = d }), roomy.each (record { 0 = d }), quiet_le plan (record { 0 = d }))

placed_there : (plan : Plan) (w : World) (actor : ActorId) (stages : List Stage) → length w.caller_places ≡ length plan.callers → length w.work_places ≡ length plan.devices
    → length w.timer_places ≡ length plan.devices → IsActor plan actor → place (with_place w actor stages) actor ≡ stages
placed_there plan w (Caller c) stages callers works timers within = get_or-set_same w.caller_places c stages [] (omega (arith, callers, within))
placed_there plan w (Work d) stages callers works timers within = get_or-set_same w.work_places d stages [] (omega (arith, works, within))
placed_there plan w (Timer d) stages callers works timers within = get_or-set_same w.timer_places d stages [] (omega (arith, timers, within))

pub fits : (plan : Plan) (h : History) (s : Standing) (line : Line) (c : Change) (next : Then) → s.world ≡ world plan h → IsOf plan s → IsActor plan line.actor
    → Writes plan s.world (last_time h) line c next → AreShallow plan (world plan (line ∷ h)) → HasRoomFor s line.actor next
fits plan h s line c next same is within may shallow =
    let after = subst (λ (x : World). AreShallow plan x) (sym (world_after plan h s.world (last_time h) line c next same refl may)) shallow in
    let deep = shallow_within plan (after_write plan s.world c line next) s.room line.actor is.roomy after within in
    subst (λ (stages : List Stage). length stages ≤ s.room) (placed_there plan _ line.actor (after_then next (drop 1 (place s.world line.actor))) is.callers is.works is.timers within) deep

-- a state stays one of the plan while its lists stay as long
as_long : (plan : Plan) (s : Standing) (w : World) → IsOf plan s → length w.caller_places ≡ length s.world.caller_places → length w.work_places ≡ length s.world.work_places
    → length w.timer_places ≡ length s.world.timer_places → length w.called ≡ length s.world.called → IsOf plan (record s { world = w })
as_long plan s w is callers works timers called =
    record { made_for = is.made_for; callers = callers ∙ is.callers; works = works ∙ is.works; timers = timers ∙ is.timers; called = called ∙ is.called; roomy = is.roomy }

placed_of : (plan : Plan) (s : Standing) (w : World) (actor : ActorId) (stages : List Stage) → IsOf plan s
    → w.caller_places ≡ s.world.caller_places → w.work_places ≡ s.world.work_places → w.timer_places ≡ s.world.timer_places → length w.called ≡ length s.world.called
    → IsOf plan (record s { world = with_place w actor stages })
placed_of plan s w (Caller c) stages is callers works timers called = as_long plan s _ is (length-set w.caller_places c stages ∙ ap length callers) (ap length works) (ap length timers) called
placed_of plan s w (Work d) stages is callers works timers called = as_long plan s _ is (ap length callers) (length-set w.work_places d stages ∙ ap length works) (ap length timers) called
placed_of plan s w (Timer d) stages is callers works timers called = as_long plan s _ is (ap length callers) (ap length works) (length-set w.timer_places d stages ∙ ap length timers) called

-- the numbers of calls stay as many
calls_length : (actor : ActorId) (e : Event) (called : List ℕ) → length (counts_call actor e called) ≡ length called
calls_length (Caller c) (event.Call command) called = length-set called c (slice_index_or called c 0 + 1)
calls_length (Caller c) _ called = refl
calls_length _ e called = refl

-- so it stays one with each line
pub stays_of : (plan : Plan) (s : Standing) (c : Change) (line : Line) (next : Then) → IsOf plan s → IsOf plan (record s { world = after_write plan s.world c line next })
stays_of plan s c line next is =
    placed_of plan s _ line.actor (after_then next (drop 1 (place s.world line.actor))) is refl refl refl (calls_length line.actor line.event s.world.called)
