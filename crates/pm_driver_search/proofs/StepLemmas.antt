-- What a line makes of a run.
use Rattle.std.proofs.Common.{ℕ, ◌≡◌, ◌≤◌, ◌+◌, ◌-◌, List, [], ◌∷◌, drop, length, Some, refl, sym, subst, ◌∙◌, ap, arith}
use Rattle.std.specs.Option.{option_and_then}
use Rattle.pm_laws.proofs.counts.Named.{beside}
use Rattle.pm_laws.proofs.counts.Runs.{written}
use Rattle.pm_laws.proofs.counts.Turns.{entries_after}
use Rattle.pm_laws.specs.counts.Sizes.{HasEntries}
use Rattle.pm_model.specs.declared.event.Line.{Line}
use Rattle.pm_model.specs.declared.plan.Plan.{Plan}
use Rattle.pm_model.specs.declared.stage.Change.{Change}
use Rattle.pm_model.specs.declared.stage.Move.TheVariants.{Write}
use Rattle.pm_model.specs.declared.stage.Stage.{Stage}
use Rattle.pm_model.specs.declared.stage.Then.{Then}
use Rattle.pm_model.specs.ChangeViews.{change_views}
use Rattle.pm_model.specs.Views.{Views}
use Rattle.pm_model.specs.World.{World, after_line, due, move, place, row, row_at, stage_at, with_place}
use Rattle.pm_base.specs.declared.ActorId.{ActorId}
use Rattle.pm_base.specs.declared.ActorId.TheVariants.{Caller, Work, Timer}
use Rattle.pm_book.proofs.Moves.{stays_of}
use Rattle.pm_model.specs.declared.event.Event.{Event}
use Rattle.pm_model.specs.declared.stage.Move.{Move}
use Rattle.pm_state.specs.Standing.{HasRoomFor, IsOf, Standing, after_write}
use Rattle.pm_explore.specs.declared.successors.moves.Last.{Last}
use Rattle.pm_explore.specs.schedule.Snapshots.{MayFollow}
use Rattle.pm_explore.specs.state.SnapshotOf.{world_of}
use Rattle.pm_explore.specs.successors.Standing.{snapshot_at}
use Rattle.pm_driver_rules.specs.declared.node.DriverNode.{DriverNode}
use Rattle.pm_driver_search.specs.declared.pose.Pose.{Pose}
use Rattle.pm_driver_search.specs.declared.run.DriverRun.{DriverRun}
use Rattle.pm_driver_search.specs.Poses.{world_by}
use Rattle.pm_driver_search.specs.Standing.{IsRun, added_by}
use Rattle.pm_driver_search.proofs.RoomLemmas.{after_length}

-- the world behind a line that its stage's row gives
pub after_is : (plan : Plan) (w : World) (line : Line) (s : Stage) (c : Change) (next : Then) → stage_at plan w line.actor ≡ Some s → move plan w.views s line.time ≡ Some (Write line.event c next)
    → after_write plan w c line next ≡ after_line plan w line (row_at plan w line.actor line.time)
after_is plan w line s c next stands gives =
    sym (ap (after_line plan w line) (ap (option_and_then (λ x. row plan w.views x line.time)) stands ∙ written (due plan w.views s) line.time (row plan w.views s line.time) line.event c next gives))

views_placed : (w : World) (actor : ActorId) (stages : List Stage) → (with_place w actor stages).views ≡ w.views
views_placed w (Caller c) stages = refl
views_placed w (Work d) stages = refl
views_placed w (Timer d) stages = refl

-- as many entries as before
pub entries_there : (plan : Plan) (w : World) (c : Change) (line : Line) (next : Then) → HasEntries plan w.views → HasEntries plan (after_write plan w c line next).views
entries_there plan w c line next has =
    subst (λ (v : Views). HasEntries plan v) (sym (views_placed _ line.actor _)) (entries_after plan line.time line.event (change_views plan line.time c w.views) (beside plan line.time c w.views has).entries)

-- the place of the writer has room
drop_one : {A : Type 0} (xs : List A) → length (drop 1 xs) ≡ length xs - 1
drop_one [] = refl
drop_one (x ∷ xs) = omega arith

pub room_for : (s : Standing) (w : World) (actor : ActorId) (next : Then) (stages room : ℕ) → s.world ≡ w → stages ≡ length (place w actor) → room ≤ s.room → (stages - 1) + added_by next ≤ room → HasRoomFor s actor next
room_for s w actor next stages room same many le fits =
    let open_stages : length (place s.world actor) ≡ stages = ap (λ x. length (place x actor)) same ∙ sym many in
    let less = drop_one (place s.world actor) in
    let all = after_length next (drop 1 (place s.world actor)) in
    omega (arith, open_stages, less, all, fits, le)

-- the same stages are open whatever the pose
pub same_place : (n : DriverNode) (p : Pose) (actor : ActorId) → place (world_of n.snapshot) actor ≡ place (world_by n p) actor
same_place n p (Caller c) = refl
same_place n p (Work d) = refl
same_place n p (Timer d) = refl

-- what a state's move writes is the line that may come
some_is : {A : Type 0} (x y : A) → Some x ≡ Some y → x ≡ y
some_is x y is = cc is

write_event : (e e' : Event) (c c' : Change) (n n' : Then) → Some (Write e c n) ≡ Some (Write e' c' n') → e ≡ e'
write_event e e' c c' n n' is = cc is

pub wrote : (plan : Plan) (w : World) (line : Line) (last : Last) → (may : MayFollow plan (snapshot_at w last) line) → (s : Stage) (e : Event) (c : Change) (next : Then) (m : Move) → stage_at plan w line.actor ≡ Some s → Some m ≡ move plan w.views s line.time → m ≡ Write e c next
    → after_write plan w c (record { time = line.time; actor = line.actor; event = e }) next ≡ after_line plan w line (row_at plan w line.actor line.time)
wrote plan w line last may s e c next m stands gives is =
    let here : move plan w.views s line.time ≡ Some (Write e c next) = sym gives ∙ ap Some is in
    let there : move plan w.views s line.time ≡ Some (Write line.event may.change may.next) = ap (λ x. move plan w.views x line.time) (some_is s may.stage (sym stands ∙ may.stands)) ∙ may.gives in
    let same : e ≡ line.event = write_event e line.event c may.change next may.next (sym here ∙ there) in
    let own : Line = record { time = line.time; actor = line.actor; event = e } in
    let lines : own ≡ line = λ i. record { time = line.time; actor = line.actor; event = same i } in
    after_is plan w own s c next stands here ∙ ap (λ (l : Line). after_line plan w l (row_at plan w line.actor line.time)) lines

-- the run stays one of the plan's
pub still_run : (plan : Plan) (old new : DriverRun) (c : Change) (line : Line) (next : Then) → IsRun plan old → new.state ≡ record old.state { world = after_write plan old.state.world c line next } → new.room ≡ old.room → IsRun plan new
still_run plan old new c line next is state room = record {
  is_of = subst (λ (s : Standing). IsOf plan s) (sym state) (stays_of plan old.state c line next is.is_of);
  entries = subst (λ (s : Standing). HasEntries plan s.world.views) (sym state) (entries_there plan old.state.world c line next is.entries);
  room = let le = is.room in let same : new.state.room ≡ old.state.room = ap (λ (s : Standing). s.room) state in omega (arith, le, same, room);
}
