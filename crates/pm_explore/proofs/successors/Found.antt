-- Which line an actor may write at a moment.
use Rattle.std.proofs.Common.{ℕ, ◌≡◌, ◌&&◌, Bool, true, false, List, Option, Some, None, nat_lt, option_map, if◌then◌else◌, refl, subst, ◌∙◌, ap}
use Rattle.std.proofs.lemmas.Bool.{leb-true, le-leb}
use Rattle.std.specs.Option.{option_and_then}
use Rattle.pm_base.specs.declared.ActorId.{ActorId}
use Rattle.pm_base.specs.declared.ActorId.TheVariants.{Caller, Timer, Work}
use Rattle.pm_model.specs.declared.event.Event.{Event}
use Rattle.pm_model.specs.declared.event.Line.{Line}
use Rattle.pm_model.specs.declared.plan.Plan.{Plan}
use Rattle.pm_model.specs.declared.stage.Change.{Change}
use Rattle.pm_model.specs.declared.stage.Move.{Move}
use Rattle.pm_model.specs.declared.stage.Move.TheVariants.{Write, Late, Wait}
use Rattle.pm_model.specs.declared.stage.Stage.{Stage}
use Rattle.pm_model.specs.declared.stage.Then.{Then}
use Rattle.pm_model.specs.ChangeViews.{change_views}
use Rattle.pm_model.specs.Events.{by_event}
use Rattle.pm_model.specs.Row.{Row, timed, waits, writes}
use Rattle.pm_model.specs.World.{World, after_line, due, move, row, stage_at, with_place}
use Rattle.pm_explore.specs.declared.schedule.Pace.{Pace}
use Rattle.pm_explore.specs.schedule.Snapshots.{MayFollow, Snapshot, after, busy_marks, preempts}
use Rattle.pm_explore.specs.successors.Lines.{comes, is_kept, is_kind, line_for, line_of}
use Rattle.pm_explore.proofs.successors.Busy.{busy}

pub some_is : {A : Type 0} (x y : A) → Some x ≡ Some y → x ≡ y
some_is x y is = cc is

first : (x y : Bool) → (x && y) ≡ true → x ≡ true
first true y h = refl
first false y h = h

second : (x y : Bool) → (x && y) ≡ true → y ≡ true
second true y h = h
second false y h = cc h

-- a line that an actor may write at t, and what is known of it
pub record IsFound (pace : Pace) (plan : Plan) (s : Snapshot) (spends : Bool) (t : ℕ) (line : Line) : Type 0 where
  pub may : MayFollow plan s line
  pub at : line.time ≡ t
  pub kind : is_kind spends (preempts plan s line) ≡ true
  pub comes : comes pace plan s line may.change ≡ true

of_move : (pace : Pace) (plan : Plan) (s : Snapshot) (spends : Bool) (actor : ActorId) (t : ℕ) (stage : Stage) (m : Option Move) (line : Line) → stage_at plan s.world actor ≡ Some stage → move plan s.world.views stage t ≡ m
    → option_and_then (line_of pace plan s spends t actor) m ≡ Some line → IsFound pace plan s spends t line
of_move pace plan s spends actor t stage None line stands gives is = cc is
of_move pace plan s spends actor t stage (Some (Late due)) line stands gives is = cc is
of_move pace plan s spends actor t stage (Some (Wait d)) line stands gives is = cc is
of_move pace plan s spends actor t stage (Some (Write e c next)) line stands gives is = go (is_kept plan s spends made) (comes pace plan s made c) refl refl is
  where
    made : Line
    made = record { time = t; actor = actor; event = e }

    go : (k m : Bool) → is_kept plan s spends made ≡ k → comes pace plan s made c ≡ m → (if k && m then Some made else None) ≡ Some line → IsFound pace plan s spends t line
    go true true keeps may same =
        subst (IsFound pace plan s spends t) (some_is made line same)
        (record { may = record { stage = stage; stands = stands; change = c; next = next; gives = gives; in_time = leb-true s.time t (first _ _ keeps) }; at = refl; kind = second _ _ keeps; comes = may })
    go true false keeps may same = cc same
    go false m keeps may same = cc same

pub found : (pace : Pace) (plan : Plan) (s : Snapshot) (spends : Bool) (actor : ActorId) (t : ℕ) (line : Line) → line_for pace plan s spends t actor ≡ Some line → IsFound pace plan s spends t line
found pace plan s spends actor t line is = go (stage_at plan s.world actor) refl is
  where
    go : (o : Option Stage) → stage_at plan s.world actor ≡ o → option_and_then (line_of pace plan s spends t actor) (option_and_then (λ x. move plan s.world.views x t) o) ≡ Some line → IsFound pace plan s spends t line
    go None stands gone = cc gone
    go (Some stage) stands there = of_move pace plan s spends actor t stage (move plan s.world.views stage t) line stands refl there

-- such a line is found
pub finds : (pace : Pace) (plan : Plan) (s : Snapshot) (spends : Bool) (line : Line) → (m : MayFollow plan s line) → is_kind spends (preempts plan s line) ≡ true → comes pace plan s line m.change ≡ true → line_for pace plan s spends line.time line.actor ≡ Some line
finds pace plan s spends line m kind comes_so =
    ap (λ o. option_and_then (line_of pace plan s spends line.time line.actor) (option_and_then (λ x. move plan s.world.views x line.time) o)) m.stands
    ∙ ap (option_and_then (line_of pace plan s spends line.time line.actor)) m.gives
    ∙ ap (λ (b : Bool). if b then Some line else None) both
  where
    both : (is_kept plan s spends line && comes pace plan s line m.change) ≡ true
    both = λ i. (le-leb s.time line.time m.in_time i && kind i) && comes_so i

-- the row that gives a write
row_is : (d t : ℕ) (o : Option Row) (e : Event) (c : Change) (next : Then) → option_map (timed d t) o ≡ Some (Write e c next) → o ≡ Some (writes e c next)
row_is d t None e c next is = cc is
row_is d t (Some (waits dev)) e c next is = go (nat_lt t d) is
  where
    go : (b : Bool) → Some (if b then Late d else Wait dev) ≡ Some (Write e c next) → Some (waits dev) ≡ Some (writes e c next)
    go true none = cc none
    go false none = cc none
row_is d t (Some (writes e' c' next')) e c next is = go (nat_lt t d) is
  where
    back : Option Move → Option Row
    back (Some (Write a b n)) = Some (writes a b n)
    back _ = None

    go : (b : Bool) → Some (if b then Late d else Write e' c' next') ≡ Some (Write e c next) → Some (writes e' c' next') ≡ Some (writes e c next)
    go true none = cc none
    go false same = ap back same

placed : (w : World) (actor : ActorId) (stages : List Stage) → busy_marks (with_place w actor stages) ≡ busy w.views
placed w (Caller c) stages = refl
placed w (Work d) stages = refl
placed w (Timer d) stages = refl

-- when the devices were last marked as busy after a line
pub observations_after : (plan : Plan) (s : Snapshot) (line : Line) → (m : MayFollow plan s line) → busy_marks (after plan s line).world ≡ busy (by_event plan line.time line.event (change_views plan line.time m.change s.world.views))
observations_after plan s line m =
    ap (λ o. busy_marks (after_line plan s.world line (option_and_then (λ x. row plan s.world.views x line.time) o))) m.stands
    ∙ ap (λ r. busy_marks (after_line plan s.world line r)) (row_is (due plan s.world.views m.stage) line.time (row plan s.world.views m.stage line.time) line.event m.change m.next m.gives) ∙ placed _ line.actor _
