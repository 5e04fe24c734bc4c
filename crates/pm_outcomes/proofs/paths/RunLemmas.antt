-- A run of which no lines are kept, step by step.
use Rattle.std.proofs.Common.{ℕ, ◌≡◌, ◌<◌, ◌≤◌, ◌+◌, ◌*◌, ◌^◌, lit<, Bool, true, false, ◌∷◌, [], length, Option, Some, None, IfSome, refl, sym, subst, ◌∙◌, ap, arith}
use Rattle.pm_base.specs.declared.ActorId.{ActorId}
use Rattle.pm_base.specs.declared.ActorId.TheVariants.{Caller, Work, Timer}
use Rattle.pm_laws.specs.counts.Sizes.{HasEntries, HasPlaces}
use Rattle.pm_model.specs.declared.event.Event.{Event}
use Rattle.pm_model.specs.declared.event.Line.{Line}
use Rattle.pm_model.specs.declared.plan.Plan.{Plan}
use Rattle.pm_model.specs.declared.stage.Change.{Change}
use Rattle.pm_model.specs.declared.stage.Stage.{Stage}
use Rattle.pm_model.specs.declared.stage.Then.{Then}
use Rattle.pm_model.specs.History.{History}
use Rattle.pm_model.specs.Lawful.{IsLawful, last_time}
use Rattle.pm_model.specs.World.{World, stage_at, world}
use Rattle.pm_state.specs.Standing.{IsActor, IsOf, Standing, after_write}
use Rattle.pm_book.specs.Offering.{line_by}
use Rattle.pm_book.specs.Sometime.{MayCome, Writes}
use Rattle.pm_book.proofs.Moves.{permits, stays_of, world_after}
use Rattle.pm_explore.specs.declared.schedule.Pace.{Pace}
use Rattle.pm_explore.specs.schedule.Schedules.{last_actor, snapshot}
use Rattle.pm_explore.specs.schedule.Snapshots.{Follows, IsTimely, MayFollow, Snapshot, after, code_of}
use Rattle.pm_explore.specs.declared.successors.moves.Last.{Last}
use Rattle.pm_explore.specs.successors.Lines.{IsMoment}
use Rattle.pm_explore.proofs.successors.Places.{IsSized, caller_within, timer_within, work_within}
use Rattle.pm_outcomes.specs.declared.paths.run.Run.{Run}
use Rattle.pm_outcomes.specs.paths.Runs.{IsRunOf, Took, snapshot_of_run}

-- its world and its last time are those of the list
pub world_is : (plan : Plan) (r : Run) (k : IsRunOf plan r) → r.state.world ≡ world plan k.list
world_is plan r k = sym (ap (λ (s : Snapshot). s.world) k.stands)

pub time_is : (plan : Plan) (r : Run) (k : IsRunOf plan r) → r.last.time ≡ last_time k.list
time_is plan r k = sym (ap (λ (s : Snapshot). s.time) k.stands)

-- times stay far below the end
pub early : (time lines : ℕ) → time ≤ 1000000 * lines → lines ≤ 200000 → time + 1000000 < 2 ^ 63
early time lines le few = let end : 200001000000 < 2 ^ 63 = lit< tt in omega (arith, le, few, end)

-- a line that may follow is one that may come next
pub may_come : (plan : Plan) (w : World) (last : Last) (line : Line) → MayFollow plan (record { world = w; time = last.time; last = last.actor; code = last.code }) line → MayCome plan w last.time line
may_come plan w last line may = (may.change, may.next, record { stage = may.stage; stands = may.stands; gives = may.gives; in_time = may.in_time })

pub none : (plan : Plan) (w : World) (last : Last) (actor : ActorId) (time : ℕ) (line : Line) → line.actor ≡ actor → line.time ≡ time
    → ((e : Event) → ¬ MayCome plan w last.time (record { time = time; actor = actor; event = e })) → ¬ MayFollow plan (record { world = w; time = last.time; last = last.actor; code = last.code }) line
none plan w last actor time line by at not may =
    not line.event (subst (λ (x : Line). MayCome plan w last.time x) (λ i. record { time = at i; actor = by i; event = line.event }) (may_come plan w last line may))

may_follow : (plan : Plan) (w : World) (last : Last) (line : Line) (c : Change) (next : Then) → Writes plan w last.time line c next → MayFollow plan (record { world = w; time = last.time; last = last.actor; code = last.code }) line
may_follow plan w last line c next is = record { stage = is.stage; stands = is.stands; change = c; next = next; gives = is.gives; in_time = is.in_time }

-- what comes of a line
pub took : (plan : Plan) (old new : Run) (actor : ActorId) (time : ℕ) (e : Event) (c : Change) (next : Then) → (k : IsRunOf plan old) → length k.list < plan.lines → time ≤ old.last.time + 1000000
    → Writes plan old.state.world old.last.time (line_by actor time e) c next
    → new.state ≡ record old.state { world = after_write plan old.state.world c (line_by actor time e) next } → new.last ≡ record { time = time; actor = Some actor; code = code_of e } → new.lines ≡ old.lines + 1
    → Took plan old new actor time
took plan old new actor time e c next k room near may state last lines = record {
  line = line;
  by = refl;
  at = refl;
  may = may_follow plan old.state.world old.last line c next may;
  leads = sym stands ∙ ap (λ (s : Snapshot). after plan s line) k.stands;
  run = record {
    list = line ∷ k.list;
    lawful = (permits plan k.list old.state.world old.last.time line c next (world_is plan old k) (time_is plan old k) may, room, k.lawful);
    stands = stands;
    lines = let few = k.lines in omega (arith, few, lines);
    is_of = subst (λ (s : Standing). IsOf plan s) (sym state) (stays_of plan old.state c line next k.is_of);
    early = let was = k.early in let now : new.last.time ≡ time = ap (λ (l : Last). l.time) last in omega (arith, was, near, now, lines);
  };
  lines = lines;
}
  where
    line : Line
    line = line_by actor time e

    worlds : world plan (line ∷ k.list) ≡ new.state.world
    worlds = sym (world_after plan k.list old.state.world old.last.time line c next (world_is plan old k) (time_is plan old k) may) ∙ sym (ap (λ (s : Standing). s.world) state)

    stands : snapshot plan (line ∷ k.list) ≡ snapshot_of_run new
    stands = λ i. record { world = worlds i; time = (sym last i).time; last = (sym last i).actor; code = (sym last i).code }

-- who may write is one of the plan's actors
in_range : (plan : Plan) (w : World) (actor : ActorId) (s : Stage) → IsSized plan w → stage_at plan w actor ≡ Some s → IsActor plan actor
in_range plan w (Caller c) s has is = caller_within plan w c s has is
in_range plan w (Work d) s has is = work_within plan w d s has is
in_range plan w (Timer d) s has is = timer_within plan w d s has is

pub sized : (plan : Plan) (r : Run) (k : IsRunOf plan r) → HasEntries plan (world plan k.list).views → HasPlaces plan (world plan k.list) → IsSized plan r.state.world
sized plan r k entries places =
    record { entries = subst (λ (w : World). HasEntries plan w.views) (sym (world_is plan r k)) entries; places = subst (λ (w : World). HasPlaces plan w) (sym (world_is plan r k)) places }

pub writer_is : (plan : Plan) (r : Run) (line : Line) → (k : IsRunOf plan r) → HasEntries plan (world plan k.list).views → HasPlaces plan (world plan k.list) → MayFollow plan (snapshot_of_run r) line → IsActor plan line.actor
writer_is plan r line k entries places may = in_range plan r.state.world line.actor may.stage (sized plan r k entries places) may.stands

-- the next moment of a pace is near, and so is the next line
pub moment_near : (pace : Pace) (plan : Plan) (r : Run) (t : ℕ) → (k : IsRunOf plan r) → ((n : ℕ) → IsMoment pace plan (snapshot plan k.list) n → n ≤ last_time k.list + 1000000) → IsMoment pace plan (snapshot_of_run r) t → t ≤ r.last.time + 1000000
moment_near pace plan r t k most is =
    let le = most t (subst (λ s. IsMoment pace plan s t) (sym k.stands) is) in
    let same = time_is plan r k in
    omega (arith, le, same)

pub near : (pace : Pace) (plan : Plan) (r : Run) (line : Line) → (k : IsRunOf plan r) → ((l : Line) → IsTimely pace plan (snapshot plan k.list) l → l.time ≤ last_time k.list + 1000000) → IsTimely pace plan (snapshot_of_run r) line → line.time ≤ r.last.time + 1000000
near pace plan r line k most is =
    let le = most line (subst (λ s. IsTimely pace plan s line) (sym k.stands) is) in
    let same = time_is plan r k in
    omega (arith, le, same)

some_is : {A : Type 0} (x y : A) → Some x ≡ Some y → x ≡ y
some_is x y is = cc is

-- a node that follows: who wrote its line, and when
pub actor_is : (pace : Pace) (plan : Plan) (b : Bool) (from to : Snapshot) (actor : ActorId) → (f : Follows pace plan b from to) → to.last ≡ Some actor → f.line.actor ≡ actor
actor_is pace plan b from to actor f is = some_is f.line.actor actor (sym (ap (λ (s : Snapshot). s.last) f.leads) ∙ is)

pub at_is : (pace : Pace) (plan : Plan) (b : Bool) (from to : Snapshot) → (f : Follows pace plan b from to) → f.line.time ≡ to.time
at_is pace plan b from to f = sym (ap (λ (s : Snapshot). s.time) f.leads)

pub some_last : (pace : Pace) (plan : Plan) (b : Bool) (from to : Snapshot) → Follows pace plan b from to → to.last ≡ None → ⊥
some_last pace plan b from to f none = let gone : Some f.line.actor ≡ None = sym (ap (λ (s : Snapshot). s.last) f.leads) ∙ none in cc gone

-- the line that was taken leads there
pub led_to : (pace : Pace) (plan : Plan) (b : Bool) (old new : Run) (actor : ActorId) (time : ℕ) (to : Snapshot) → (f : Follows pace plan b (snapshot_of_run old) to) → (t : Took plan old new actor time)
    → f.line.actor ≡ actor → f.line.time ≡ time
    → ((one other : Line) → MayFollow plan (snapshot_of_run old) one → MayFollow plan (snapshot_of_run old) other → one.actor ≡ other.actor → one.time ≡ other.time → one ≡ other)
    → snapshot_of_run new ≡ to
led_to pace plan b old new actor time to f t by at one =
    t.leads ∙ ap (after plan (snapshot_of_run old)) (one t.line f.line t.may f.may (t.by ∙ sym by) (t.at ∙ sym at)) ∙ sym f.leads

-- the laws of all lawful lists that are used
abbrev pub HaveEntries : Plan → Type 0
HaveEntries plan = (h : History) → IsLawful plan h → HasEntries plan (world plan h).views

abbrev pub HavePlaces : Plan → Type 0
HavePlaces plan = (h : History) → IsLawful plan h → HasPlaces plan (world plan h)

abbrev pub AreNear : Pace → Plan → Type 0
AreNear pace plan = (h : History) (line : Line) → IsLawful plan h → IsTimely pace plan (snapshot plan h) line → line.time ≤ last_time h + 1000000

-- an actor may write at a time that is near
pub record CanStep (plan : Plan) (r : Run) (actor : ActorId) (time : ℕ) : Type 0 where
  pub in_range : IsActor plan actor
  pub near : time ≤ r.last.time + 1000000
  pub line : Line
  pub by : line.actor ≡ actor
  pub at : line.time ≡ time
  pub may : MayFollow plan (snapshot_of_run r) line

pub can_by : (pace : Pace) (plan : Plan) (r : Run) (line : Line) → IsRunOf plan r → HaveEntries plan → HavePlaces plan → AreNear pace plan → MayFollow plan (snapshot_of_run r) line → IsTimely pace plan (snapshot_of_run r) line
    → CanStep plan r line.actor line.time
can_by pace plan r line k entries places most may timely = record {
  in_range = writer_is plan r line k (entries k.list k.lawful) (places k.list k.lawful) may;
  near = near pace plan r line k (λ l. most k.list l k.lawful) timely;
  line = line;
  by = refl;
  at = refl;
  may = may;
}

pub can_to : (pace : Pace) (plan : Plan) (r : Run) (b : Bool) (to : Snapshot) (actor : ActorId) → IsRunOf plan r → HaveEntries plan → HavePlaces plan → AreNear pace plan → Follows pace plan b (snapshot_of_run r) to → to.last ≡ Some actor
    → CanStep plan r actor to.time
can_to pace plan r b to actor k entries places most f is =
    let by = actor_is pace plan b (snapshot_of_run r) to actor f is in
    let at = at_is pace plan b (snapshot_of_run r) to f in
    subst (λ t. CanStep plan r actor t) at (subst (λ a. CanStep plan r a f.line.time) by (can_by pace plan r f.line k entries places most f.may f.timely))

-- so it does
pub takes : (taken : Bool) (plan : Plan) (r : Run) (actor : ActorId) (time : ℕ) → CanStep plan r actor time
    → (taken ≡ false → (line : Line) → line.actor ≡ actor → line.time ≡ time → ¬ MayFollow plan (snapshot_of_run r) line) → taken ≡ true
takes true plan r actor time can none = refl
takes false plan r actor time can none = absurd (none refl can.line can.by can.at can.may)

-- the writer of the last line is one of the plan's actors
pub last_in_range : (plan : Plan) (r : Run) → IsRunOf plan r → HaveEntries plan → HavePlaces plan → IfSome r.last.actor (IsActor plan)
last_in_range plan r k entries places = subst (λ (o : Option ActorId). IfSome o (IsActor plan)) (ap (λ (s : Snapshot). s.last) k.stands) (go k.list k.lawful)
  where
    go : (h : History) → IsLawful plan h → IfSome (last_actor h) (IsActor plan)
    go [] lawful = tt
    go (line ∷ h) lawful = in_range plan (world plan h) line.actor lawful.0.stage (record { entries = entries h lawful.2; places = places h lawful.2 }) lawful.0.stands

-- the moments of a pace are early
pub in_time : (pace : Pace) (plan : Plan) (r : Run) (t : ℕ) → (k : IsRunOf plan r) → ((h : History) (n : ℕ) → IsLawful plan h → IsMoment pace plan (snapshot plan h) n → n ≤ last_time h + 1000000) → length k.list ≤ 200000 → IsMoment pace plan (snapshot_of_run r) t → t < 2 ^ 63
in_time pace plan r t k most few is =
    let le = moment_near pace plan r t k (λ n. most k.list n k.lawful) is in
    let end = early r.last.time r.lines k.early (let same = k.lines in omega (arith, few, same)) in
    omega (arith, le, end)

-- a run stands where another does
pub led_by : (plan : Plan) (old new : Run) (line : Line) (p : Snapshot) → p ≡ snapshot_of_run old → MayFollow plan p line → (t : Took plan old new line.actor line.time)
    → ((one other : Line) → MayFollow plan (snapshot_of_run old) one → MayFollow plan (snapshot_of_run old) other → one.actor ≡ other.actor → one.time ≡ other.time → one ≡ other)
    → snapshot_of_run new ≡ after plan p line
led_by plan old new line p at may t one =
    t.leads ∙ ap (after plan (snapshot_of_run old)) (one t.line line t.may (subst (λ (x : Snapshot). MayFollow plan x line) at may) t.by t.at) ∙ ap (λ (x : Snapshot). after plan x line) (sym at)
