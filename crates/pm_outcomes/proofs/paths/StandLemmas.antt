-- A run is set to stand where a lawful list does.
use Rattle.std.proofs.Common.{ℕ, ◌≡◌, ◌<◌, ◌≤◌, ◌+◌, ◌*◌, ◌^◌, ◌≤ℤ◌, ◌&&◌, Bool, true, List, [], ◌∷◌, All, length, slice_get, slice_index_or, Option, Some, None, ℤ, pos, neg_ℤ, inl, inr, refl, sym, subst, ◌∙◌, ap, arith}
use Rattle.std.specs.Option.{option_map_or}
use Rattle.std.proofs.lemmas.Grind.{common_steps}
use Rattle.std.proofs.lemmas.List.{get_or_past, length-map, length-set}
use Rattle.std.proofs.lemmas.List.Elements.{All-from_get_or}
use Rattle.std.proofs.lemmas.Option.{slice_get_cases}
use Rattle.pm_base.specs.declared.ActorId.{ActorId}
use Rattle.pm_base.specs.declared.ActorId.TheVariants.{Caller, Work, Timer}
use Rattle.pm_base.specs.declared.DevId.{DevId}
use Rattle.pm_laws.specs.counts.Sizes.{HasEntries, HasPlaces}
use Rattle.pm_laws.specs.stacks.Depth.{AreShallow, command_chain, greatest, longest_chain}
use Rattle.pm_laws.specs.stacks.Fit.{HasDelays, is_delay}
use Rattle.pm_laws.proofs.stacks.Chains.{quiet_le}
use Rattle.pm_model.specs.declared.event.Command.{Command}
use Rattle.pm_model.specs.declared.event.Event.{Event}
use Rattle.pm_model.specs.declared.event.Event.TheVariants as event
use Rattle.pm_model.specs.declared.event.Line.{Line}
use Rattle.pm_model.specs.declared.plan.Plan.{Plan}
use Rattle.pm_model.specs.declared.rows.CallerRow.{CallerRow}
use Rattle.pm_model.specs.declared.stage.Stage.{Stage}
use Rattle.pm_model.specs.History.{History}
use Rattle.pm_model.specs.Lawful.{IsLawful, last_time}
use Rattle.pm_model.specs.Row.{Row, writes, waits}
use Rattle.pm_model.specs.Views.{Views, device, fresh_device}
use Rattle.pm_model.specs.WellFormed.{called_for}
use Rattle.pm_model.specs.World.{World, after_line, counts_call, row_at, with_place, world}
use Rattle.pm_device.specs.Filling.{CanBe}
use Rattle.pm_device.specs.Parts.{IsInTime}
use Rattle.pm_state.specs.Places.{HasRoom}
use Rattle.pm_state.specs.Standing.{CanStand, IsOf, IsRoomy, Standing}
use Rattle.pm_explore.specs.schedule.Schedules.{snapshot}
use Rattle.pm_explore.specs.schedule.Snapshots.{Snapshot}
use Rattle.pm_explore.specs.declared.state.snapshot.Snapshot.{Snapshot as Kept}
use Rattle.pm_explore.specs.state.SnapshotOf.{snapshot_of, world_of}
use Rattle.pm_explore.specs.declared.successors.moves.Last.{Last}
use Rattle.pm_outcomes.specs.declared.paths.run.Run.{Run}
use Rattle.pm_outcomes.specs.paths.Runs.{IsListTo, IsRunOf, StandsAt, snapshot_of_run}
use Rattle.pm_outcomes.proofs.paths.RunLemmas.{HaveEntries, HavePlaces, early, sized}

-- each caller has a number of calls
calls_length : (actor : ActorId) (e : Event) (called : List ℕ) → length (counts_call actor e called) ≡ length called
calls_length (Caller c) (event.Call command) called = length-set called c (slice_index_or called c 0 + 1)
calls_length (Caller c) _ called = refl
calls_length _ e called = refl

placed_calls : (w : World) (actor : ActorId) (stages : List Stage) → (with_place w actor stages).called ≡ w.called
placed_calls w (Caller c) stages = refl
placed_calls w (Work d) stages = refl
placed_calls w (Timer d) stages = refl

line_calls : (plan : Plan) (w : World) (line : Line) (r : Option Row) → length (after_line plan w line r).called ≡ length w.called
line_calls plan w line None = refl
line_calls plan w line (Some (waits d)) = refl
line_calls plan w line (Some (writes e c next)) = ap length (placed_calls _ line.actor _) ∙ calls_length line.actor line.event w.called

calls_many : (plan : Plan) (h : History) → length (world plan h).called ≡ length plan.callers
calls_many plan [] = length-map plan.callers (λ (row : CallerRow). 0)
calls_many plan (line ∷ h) = line_calls plan (world plan h) line (row_at plan (world plan h) line.actor line.time) ∙ calls_many plan h

-- there is room for the stages of each actor
each_within : {A : Type 0} (f : A → ℕ) (xs : List A) (room : ℕ) → 3 ≤ room → ((x : A) → f x + 3 ≤ room) → greatest f xs + 3 ≤ room
each_within f [] room some each = some
each_within f (x ∷ xs) room some each = omega (arith, each x, each_within f xs room some each)

command_within : (plan : Plan) (room : ℕ) → ((d : DevId) → longest_chain plan d + 3 ≤ room) → (command : Command) → command_chain plan command + 3 ≤ room
command_within plan room each command = go (called_for command.helper command.dev)
  where
    go : (o : Option DevId) → option_map_or (longest_chain plan) o 0 + 3 ≤ room
    go None = omega (arith, each (record { 0 = 0 }))
    go (Some d) = each d

caller_room : (plan : Plan) (w : World) (room : ℕ) → IsRoomy plan room → AreShallow plan w → length w.caller_places ≡ length plan.callers → HasRoom room w.caller_places
caller_room plan w room roomy shallow as_many c = elim (slice_get_cases plan.callers c).1 [
  | inl there ↦
      let deep = shallow.callers c there.0 there.2 in
      omega (arith, deep, each_within (command_chain plan) there.0.script room (omega (arith, roomy.each (record { 0 = 0 }))) (command_within plan room roomy.each))
  | inr past ↦
      let none : slice_index_or w.caller_places c [] ≡ [] = get_or_past w.caller_places c [] (omega (arith, past.0, as_many)) in
      rw none (omega arith)
]

work_room : (plan : Plan) (w : World) (room : ℕ) → IsRoomy plan room → AreShallow plan w → HasRoom room w.work_places
work_room plan w room roomy shallow d = omega (arith, shallow.works (record { 0 = d }), roomy.each (record { 0 = d }))

timer_room : (plan : Plan) (w : World) (room : ℕ) → IsRoomy plan room → AreShallow plan w → HasRoom room w.timer_places
timer_room plan w room roomy shallow d = omega (arith, shallow.timers (record { 0 = d }), roomy.each (record { 0 = d }), quiet_le plan (record { 0 = d }))

-- the times of each device are in bounds
from_delay : (n : ℤ) → is_delay n ≡ true → neg_ℤ (pos 1000000) ≤ℤ n
from_delay n is = grind (arith, common_steps)

to_delay : (n : ℤ) → is_delay n ≡ true → n ≤ℤ pos 1000000
to_delay n is = grind (arith, common_steps)

in_bounds : (v : Views) (last : ℕ) → ((d : DevId) → (device v d).last_busy ≤ last) → HasDelays v → last < 2 ^ 63 → All IsInTime v.devices
in_bounds v last busy delays few = All-from_get_or IsInTime v.devices fresh_device (λ i lt. record {
  last_busy = let no_later = busy (record { 0 = i }) in omega (arith, no_later, few);
  least = from_delay (device v (record { 0 = i })).delay (delays (record { 0 = i }));
  most = to_delay (device v (record { 0 = i })).delay (delays (record { 0 = i }));
})

-- the laws of all lawful lists that are used
abbrev pub AreBusy : Plan → Type 0
AreBusy plan = (h : History) (d : DevId) → IsLawful plan h → (device (world plan h).views d).last_busy ≤ last_time h

abbrev pub HaveDelays : Plan → Type 0
HaveDelays plan = (h : History) → IsLawful plan h → HasDelays (world plan h).views

abbrev pub HaveDepth : Plan → Type 0
HaveDepth plan = (h : History) → IsLawful plan h → AreShallow plan (world plan h)

-- from where a run stands its state can be set to stand where a lawful list does
can_go : (plan : Plan) (s : Standing) (h : History) → IsOf plan s → HasEntries plan s.world.views → HasEntries plan (world plan h).views → HasPlaces plan (world plan h)
    → All IsInTime (world plan h).views.devices → AreShallow plan (world plan h) → CanStand s (world plan h)
can_go plan s h is_of was now places in_time shallow = record {
  views = record {
    devices = now.devices ∙ sym was.devices;
    pending = now.pending ∙ sym was.pending;
    timers = now.timers ∙ sym was.timers;
    on = now.on ∙ sym was.on;
    held = now.held ∙ sym was.held;
    present = now.present ∙ sym was.present;
    links = now.present ∙ sym now.held;
    in_time = in_time;
  };
  callers = places.callers ∙ sym is_of.callers;
  works = places.works ∙ sym is_of.works;
  timers = places.timers ∙ sym is_of.timers;
  called = calls_many plan h ∙ sym is_of.called;
  caller_room = caller_room plan (world plan h) s.room is_of.roomy shallow places.callers;
  work_room = work_room plan (world plan h) s.room is_of.roomy shallow;
  timer_room = timer_room plan (world plan h) s.room is_of.roomy shallow;
}

last_early : (time lines : ℕ) → time ≤ 1000000 * lines → lines ≤ 200000 → time < 2 ^ 63
last_early time lines le few = let end = early time lines le few in omega (arith, end)

pub can_stand_there : (plan : Plan) (r : Run) (s : Snapshot) (lines : ℕ) → IsRunOf plan r → (l : IsListTo plan s lines) → HaveEntries plan → HavePlaces plan → AreBusy plan → HaveDelays plan → HaveDepth plan → length l.list ≤ 200000
    → CanStand r.state s.world
can_stand_there plan r s lines k l entries places busy delays deep few =
    let was = sized plan r k (entries k.list k.lawful) (places k.list k.lawful) in
    let time : last_time l.list ≡ s.time = ap (λ (x : Snapshot). x.time) l.stands in
    let last : last_time l.list < 2 ^ 63 = subst (λ n. n < 2 ^ 63) (sym time) (last_early s.time lines l.early (let many = l.many in omega (arith, many, few))) in
    let in_time = in_bounds (world plan l.list).views (last_time l.list) (λ d. busy l.list d l.lawful) (delays l.list l.lawful) last in
    subst (λ (x : Snapshot). CanStand r.state x.world) l.stands (can_go plan r.state l.list k.is_of was.entries (entries l.list l.lawful) (places l.list l.lawful) in_time (deep l.list l.lawful))

-- it stands there then
of_there : (plan : Plan) (s : Standing) (w : World) → IsOf plan s → CanStand s w → IsOf plan (record s { world = w })
of_there plan s w is can = record {
  made_for = is.made_for;
  callers = can.callers ∙ is.callers;
  works = can.works ∙ is.works;
  timers = can.timers ∙ is.timers;
  called = can.called ∙ is.called;
  roomy = is.roomy;
}

same_snapshot : (s : Standing) (new : Run) (node : Kept) → new.state ≡ record s { world = world_of node } → new.last ≡ record { time = node.time; actor = node.last; code = node.code } → snapshot_of_run new ≡ snapshot_of node
same_snapshot s new node state last = λ i. record { world = (state i).world; time = (last i).time; last = (last i).actor; code = (last i).code }

pub stands_at : (s : Standing) (new : Run) (node : Kept) (lines : ℕ) → new.state ≡ record s { world = world_of node } → new.last ≡ record { time = node.time; actor = node.last; code = node.code } → new.lines ≡ lines
    → StandsAt new (snapshot_of node) lines
stands_at s new node lines state last count = record { snapshot_is = same_snapshot s new node state last; lines_are = count }

pub stood_there : (plan : Plan) (old new : Run) (node : Kept) (lines : ℕ) → IsRunOf plan old → IsListTo plan (snapshot_of node) lines → CanStand old.state (world_of node) → new.state ≡ record old.state { world = world_of node }
    → new.last ≡ record { time = node.time; actor = node.last; code = node.code } → new.lines ≡ lines → IsRunOf plan new
stood_there plan old new node lines k l can state last count = record {
  list = l.list;
  lawful = l.lawful;
  stands = l.stands ∙ sym (same_snapshot old.state new node state last);
  lines = l.many ∙ sym count;
  is_of = subst (λ (s : Standing). IsOf plan s) (sym state) (of_there plan old.state (world_of node) k.is_of can);
  early = let was = l.early in let now : new.last.time ≡ node.time = ap (λ (x : Last). x.time) last in omega (arith, was, now, count);
}
