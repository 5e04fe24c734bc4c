-- Nodes that are put at the end, line by line.
use Rattle.std.proofs.Common.{ℕ, ◌≡◌, ◌+◌, ◌<◌, ◌≤◌, Bool, true, false, List, [], ◌∷◌, ◌++◌, not as opposite, length, map, take, get_or, option_map, slice_get, slice_set, Option, Some, refl, sym, subst, ◌∙◌, ap, append_assoc, if◌then◌else◌}
use Rattle.std.proofs.lemmas.List.{map-append, map_more, append-nil, take_all, take_more}
use Rattle.std.proofs.lemmas.Grind.{flat_map-append}
use Rattle.std.proofs.lemmas.Option.{slice_get-map}
use Rattle.std.specs.List.{flat_map}
use Rattle.std.specs.Option.{option_map_or}
use Rattle.pm_base.specs.declared.ActorId.{ActorId}
use Rattle.pm_base.specs.declared.ActorId.TheVariants.{Caller, Work, Timer}
use Rattle.pm_laws.specs.counts.Sizes.{HasEntries, HasPlaces}
use Rattle.pm_model.specs.declared.event.Event.{Event}
use Rattle.pm_model.specs.declared.event.Line.{Line}
use Rattle.pm_model.specs.declared.plan.Plan.{Plan}
use Rattle.pm_model.specs.Views.{Views}
use Rattle.pm_model.specs.World.{World, after_line, row_at, stage_at}
use Rattle.pm_explore.specs.declared.schedule.Pace.{Pace}
use Rattle.pm_explore.specs.schedule.Schedules.{one_more_if}
use Rattle.pm_explore.specs.schedule.Snapshots.{Snapshot, code_of}
use Rattle.pm_explore.specs.search.Exact.{HasExactly}
use Rattle.pm_explore.specs.successors.Lines.{IsNext}
use Rattle.pm_explore.proofs.successors.Places.{IsSized, caller_within, timer_within, work_within}
use Rattle.pm_explore.specs.declared.successors.moves.Last.{Last}
use Rattle.pm_explore.specs.successors.Standing.{snapshot_at}
use Rattle.pm_state.specs.Standing.{AllStandWell, IsActor}
use Rattle.pm_driver_rules.specs.declared.node.DriverNode.{DriverNode}
use Rattle.pm_driver_rules.specs.Nodes.{driver_snapshot_of}
use Rattle.pm_driver_search.specs.declared.pose.Pose.{Pose}
use Rattle.pm_driver_search.specs.Poses.{IsPose, world_by}
use Rattle.pm_driver_search.proofs.Among.{some_is}
use Rattle.pm_driver_search.proofs.PoseLemmas.{posed_by}
use Rattle.pm_driver_orders.specs.declared.Position.{Position}
use Rattle.pm_driver_orders.specs.Drivers.{Driver}
use Rattle.pm_driver_orders.specs.DriverSnapshots.{DriverFollows, DriverSnapshot, after_turn, all_after, bare_snapshot, is_failure, positions_after, returned_step}
use Rattle.pm_driver_search.specs.Standing.{CanCome, IsSoon, snapshot_behind, snapshot_posed, world_posed}
use Rattle.pm_driver_search.specs.Turns.{AddsAll, kept_by, is_of_kind, snapshots_after, snapshots_by}
use Rattle.pm_driver_search.proofs.Exactly.{both_kinds, exact_by, is_kind, none_by}

-- where a caller may stand after an event of its own
pub after_own : (D : Driver) (v : Views) (c : ℕ) (e : Event) (ps : List Position) (p : Position) → slice_get ps c ≡ Some p → map (slice_set ps c) (positions_after D ps v c e p) ≡ all_after D v (Caller c) e ps
after_own D v c e ps p is = sym (ap (λ o. option_map_or (λ q. map (slice_set ps c) (positions_after D ps v c e q)) o []) is)

-- one more
pub push_more : {A B P : Type 0} (f : A → P) (g : B → P) (old xs pushed : List A) (x : A) (ys : List B) (i : ℕ) (d : B) → i < length ys → map f xs ≡ map f old ++ map g (take i ys) → pushed ≡ xs ++ x ∷ [] → f x ≡ g (get_or ys i d)
    → map f pushed ≡ map f old ++ map g (take (i + 1) ys)
push_more f g old xs pushed x ys i d lt is more next =
    ap (map f) more ∙ map-append f xs (x ∷ []) ∙ ap (λ l. l ++ f x ∷ []) is ∙ append_assoc (map f old) (map g (take i ys)) (f x ∷ [])
    ∙ ap (λ z. map f old ++ (map g (take i ys) ++ z ∷ [])) next ∙ ap (λ l. map f old ++ l) (sym (map_more g ys i d lt))

pub push_whole : {A B P : Type 0} (f : A → P) (g : B → P) (old xs : List A) (ys : List B) (i : ℕ) → length ys ≤ i → map f xs ≡ map f old ++ map g (take i ys) → map f xs ≡ map f old ++ map g ys
push_whole f g old xs ys i le is = is ∙ ap (λ l. map f old ++ map g l) (take_all i ys le)

pub flat_more : {A P : Type 0} (f : A → List P) (xs : List A) (i : ℕ) (d : A) (start out pushed : List P) → i < length xs → out ≡ start ++ flat_map f (take i xs) → pushed ≡ out ++ f (get_or xs i d) → pushed ≡ start ++ flat_map f (take (i + 1) xs)
flat_more f xs i d start out pushed lt is more =
    more ∙ ap (λ l. l ++ f (get_or xs i d)) is ∙ append_assoc start (flat_map f (take i xs)) (f (get_or xs i d))
    ∙ ap (λ l. start ++ (flat_map f (take i xs) ++ l)) (sym (append-nil (f (get_or xs i d)))) ∙ ap (λ l. start ++ l) (sym (flat_map-append f (take i xs) (get_or xs i d ∷ []))) ∙ ap (λ l. start ++ flat_map f l) (sym (take_more xs i d lt))

pub flat_whole : {A P : Type 0} (f : A → List P) (xs : List A) (i : ℕ) (start out : List P) → length xs ≤ i → out ≡ start ++ flat_map f (take i xs) → out ≡ start ++ flat_map f xs
flat_whole f xs i start out le is = is ∙ ap (λ l. start ++ flat_map f l) (take_all i xs le)

-- the snapshot behind a line, where the run stands as the line leaves it
snapshot_is : (D : Driver) (s : DriverSnapshot) (line : Line) (failing : Bool) (w : World) (failures : ℕ) → is_failure line.event ≡ failing → w ≡ after_line D.plan (world_posed D s failing) line (row_at D.plan (world_posed D s failing) line.actor line.time) → failures ≡ one_more_if failing s.failures
    → (ps : List Position) → snapshot_behind s w line failures ps ≡ after_turn D s (record { line = line; positions = ps })
snapshot_is D s line failing w failures kind is many ps =
    let back = sym kind in
    let world = is ∙ ap (λ b. after_line D.plan (world_posed D s b) line (row_at D.plan (world_posed D s b) line.actor line.time)) back in
    let fails = many ∙ ap (λ b. one_more_if b s.failures) back in
    λ i. record { snapshot = bare_snapshot (record { world = world i; time = line.time; last = Some line.actor; code = code_of line.event }); positions = ps; returned = returned_step line.actor line.event s.positions; failures = fails i }

map_items : {V : Type 0} {A B : Type 0} (g : A → B) (f : V → A) (xs : List V) → map (λ v. g (f v)) xs ≡ map g (map f xs)
map_items g f [] = refl
map_items g f (x ∷ xs) = ap (λ l. g (f x) ∷ l) (map_items g f xs)

pub snapshots_are : {V : Type 0} (D : Driver) (s : DriverSnapshot) (line : Line) (failing : Bool) (w : World) (failures : ℕ) (f : V → List Position) (vs : List V) → is_failure line.event ≡ failing
    → w ≡ after_line D.plan (world_posed D s failing) line (row_at D.plan (world_posed D s failing) line.actor line.time) → failures ≡ one_more_if failing s.failures → map f vs ≡ all_after D s.snapshot.world.views line.actor line.event s.positions
    → map (λ v. snapshot_behind s w line failures (f v)) vs ≡ snapshots_by D s line
snapshots_are D s line failing w failures f vs kind is many all =
    map_items (snapshot_behind s w line failures) f vs ∙ (λ i. map (λ ps. snapshot_is D s line failing w failures kind is many ps i) (map f vs)) ∙ ap (map (λ ps. after_turn D s (record { line = line; positions = ps }))) all

-- of the kind it is kept, and else nothing is
pub kept_is : (D : Driver) (s : DriverSnapshot) (failing : Bool) (line : Line) → is_failure line.event ≡ failing → snapshots_by D s line ≡ kept_by D s failing line
kept_is D s failing line kind = sym (ap (λ b. if b then snapshots_by D s line else []) (is_kind failing line.event kind))

other_kind : (failing : Bool) (e : Event) → (is_failure e ≡ failing → ⊥) → is_of_kind failing e ≡ false
other_kind true e not = go (is_failure e) refl
  where
    go : (b : Bool) → is_failure e ≡ b → b ≡ false
    go true is = absurd (not is)
    go false is = refl
other_kind false e not = go (is_failure e) refl
  where
    go : (b : Bool) → is_failure e ≡ b → opposite b ≡ false
    go true is = refl
    go false is = absurd (not is)

pub none_kept : (D : Driver) (s : DriverSnapshot) (failing : Bool) (line : Line) (old : List DriverSnapshot) → (is_failure line.event ≡ failing → ⊥) → old ≡ old ++ kept_by D s failing line
none_kept D s failing line old not = sym (append-nil old) ∙ ap (λ b. old ++ (if b then snapshots_by D s line else [])) (sym (other_kind failing line.event not))

-- a line that may come next is of one of the plan's actors, and early
pub comes_by : (pace : Pace) (plan : Plan) (s : Snapshot) (spends : Bool) (line : Line) → HasEntries plan s.world.views → HasPlaces plan s.world → IsSoon plan s line → IsNext pace plan s spends line → CanCome plan s line
comes_by pace plan s spends line entries places early next = record { may = next.may; by = go line.actor next.may.stands; in_time = early pace next.may next.timely }
  where
    sized : IsSized plan s.world
    sized = record { entries = entries; places = places }

    go : (actor : ActorId) → stage_at plan s.world actor ≡ Some next.may.stage → IsActor plan actor
    go (Caller c) is = caller_within plan s.world c next.may.stage sized is
    go (Work d) is = work_within plan s.world d next.may.stage sized is
    go (Timer d) is = timer_within plan s.world d next.may.stage sized is

-- what was added
pub adds_all : (pace : Pace) (D : Driver) (most : ℕ) (spends failing : Bool) (s : DriverSnapshot) (failures : ℕ) (lines : List Line) (old new : List DriverSnapshot) → failures ≡ one_more_if failing s.failures → failures ≤ most → HasExactly (IsNext pace D.plan (snapshot_posed D s failing) spends) lines
    → new ≡ old ++ snapshots_after D s failing lines → AddsAll pace D most spends failing s old new
adds_all pace D most spends failing s failures lines old new many few exact is = record { added = snapshots_after D s failing lines; are = is; all = exact_by pace D most spends failing s lines (subst (λ n. n ≤ most) many few) exact }

pub adds_none : (pace : Pace) (D : Driver) (most : ℕ) (spends failing : Bool) (s : DriverSnapshot) (old : List DriverSnapshot) → most < one_more_if failing s.failures → AddsAll pace D most spends failing s old old
adds_none pace D most spends failing s old far = record { added = []; are = sym (append-nil old); all = none_by pace D most spends failing s far }

-- the node behind a line stands for the snapshot
pub behind_is : (s : DriverSnapshot) (w : World) (line : Line) (failures : ℕ) (ps qs : List Position) (at : Snapshot) (back : Option ℕ) → at ≡ bare_snapshot (record { world = w; time = line.time; last = Some line.actor; code = code_of line.event }) → qs ≡ ps
    → back ≡ returned_step line.actor line.event s.positions → ◌≡◌ {A = DriverSnapshot} (record { snapshot = at; positions = qs; returned = back; failures = failures }) (snapshot_behind s w line failures ps)
behind_is s w line failures ps qs at back is same returned = λ i. record { snapshot = is i; positions = same i; returned = returned i; failures = failures }

module _ (pace : Pace) (D : Driver) (n : DriverNode) (failing : Bool) (pose : Pose) (w : World) (last : Last) (pose_is : IsPose D (driver_snapshot_of n) failing pose) (stands : w ≡ world_by n pose) (last_is : last ≡ record { time = n.snapshot.time; actor = n.snapshot.last; code = n.snapshot.code }) where
  world_is : w ≡ world_posed D (driver_snapshot_of n) failing
  world_is = stands ∙ posed_by D n failing pose pose_is

  at_posed : snapshot_at w last ≡ snapshot_posed D (driver_snapshot_of n) failing
  at_posed = λ i. record { world = world_is i; time = (last_is i).time; last = (last_is i).actor; code = (last_is i).code }

  pub stand_there : AllStandWell D.plan w → AllStandWell D.plan (world_posed D (driver_snapshot_of n) failing)
  stand_there = subst (AllStandWell D.plan) world_is

  pub exact_there : (spends : Bool) (lines : List Line) → HasExactly (IsNext pace D.plan (snapshot_at w last) spends) lines → HasExactly (IsNext pace D.plan (snapshot_posed D (driver_snapshot_of n) failing) spends) lines
  exact_there spends lines exact = subst (λ (x : Snapshot). HasExactly (IsNext pace D.plan x spends) lines) at_posed exact

  pub come_all : (spends : Bool) (lines : List Line) → HasEntries D.plan w.views → HasPlaces D.plan w → ((l : Line) → IsSoon D.plan (snapshot_at w last) l) → HasExactly (IsNext pace D.plan (snapshot_at w last) spends) lines
      → (i : ℕ) (line : Line) → slice_get lines i ≡ Some line → CanCome D.plan (snapshot_posed D (driver_snapshot_of n) failing) line
  come_all spends lines entries places early exact i line is =
      comes_by pace D.plan (snapshot_posed D (driver_snapshot_of n) failing) spends line (subst (λ (x : World). HasEntries D.plan x.views) world_is entries) (subst (λ (x : World). HasPlaces D.plan x) world_is places)
      (subst (λ (x : Snapshot). IsSoon D.plan x line) at_posed (early line)) (let there = exact_there spends lines exact in there.sound i line is)

-- turns that are none, and turns that are failures, are all
pub both_added : (pace : Pace) (D : Driver) (most : ℕ) (spends : Bool) (s : DriverSnapshot) (start mid end : List DriverSnapshot) → start ≡ [] → AddsAll pace D most spends false s start mid → AddsAll pace D most spends true s mid end → HasExactly (DriverFollows pace D most spends s) end
both_added pace D most spends s start mid end none plain failed =
    let all : end ≡ plain.added ++ failed.added = failed.are ∙ ap (λ l. l ++ failed.added) (plain.are ∙ ap (λ l. l ++ plain.added) none) in
    subst (HasExactly (DriverFollows pace D most spends s)) (sym all) (both_kinds pace D most spends s plain.added failed.added plain.all failed.all)

pub node_is : {N P : Type 0} (f : N → P) (nodes : List N) (i : ℕ) (n : N) (p : P) → Some n ≡ slice_get nodes i → slice_get (map f nodes) i ≡ Some p → f n ≡ p
node_is f nodes i n p is there = some_is (f n) p (sym (slice_get-map f nodes i ∙ ap (option_map f) (sym is)) ∙ there)
