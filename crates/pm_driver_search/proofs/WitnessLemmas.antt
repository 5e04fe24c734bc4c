-- The lines of a way to a node, one by one.
use Rattle.std.proofs.Common.{ℕ, suc, ◌≡◌, ◌<◌, ◌≤◌, ◌∷◌, [], ◌++◌, Bool, true, false, List, Some, None, length, reverse, slice_get, refl, sym, subst, ap, ◌∙◌, arith, int_eq}
use Rattle.std.proofs.lemmas.List.{reverse-append}
use Rattle.pm_base.specs.declared.ActorId.{ActorId}
use Rattle.pm_model.specs.declared.event.Event.{Event}
use Rattle.pm_model.specs.declared.event.Line.{Line}
use Rattle.pm_model.specs.declared.plan.Plan.{Plan}
use Rattle.pm_model.specs.declared.stage.Change.{Change}
use Rattle.pm_model.specs.declared.stage.Move.{Move}
use Rattle.pm_model.specs.declared.stage.Move.TheVariants.{Write}
use Rattle.pm_model.specs.declared.stage.Stage.{Stage}
use Rattle.pm_model.specs.declared.stage.Then.{Then}
use Rattle.pm_model.specs.World.{World, move, stage_at}
use Rattle.pm_explore.specs.declared.schedule.Pace.{Pace}
use Rattle.pm_explore.specs.declared.successors.moves.Last.{Last}
use Rattle.pm_explore.specs.schedule.Schedules.{one_more_if}
use Rattle.pm_explore.specs.schedule.Snapshots.{MayFollow, preempts}
use Rattle.pm_explore.specs.search.Trees.{IsLedTo, IsLedWithin, IsStep, IsTree}
use Rattle.pm_explore.specs.search.Trees.IsLedTo.{dearly, freely, starts}
use Rattle.pm_explore.specs.successors.Standing.{snapshot_at}
use Rattle.pm_explore.proofs.search.Lists.{some_within}
use Rattle.pm_driver_orders.specs.Drivers.{Driver}
use Rattle.pm_driver_orders.specs.DriverSchedules.{IsDriverSchedule, driver_preemptions, driver_snapshot, lines_of}
use Rattle.pm_driver_orders.specs.DriverSnapshots.{DriverFollows, DriverSnapshot, MayCome, Turn, after_turn, is_failure, posed_snapshot, start_driver, turn_preempts}
use Rattle.pm_driver_search.specs.Standing.{snapshot_posed, world_posed}
use Rattle.pm_driver_search.specs.Witness.{IsLineBetween, IsWitness}
use Rattle.pm_driver_search.proofs.PathLemmas.{IsLink}

some_is : {A : Type 0} (x y : A) → Some x ≡ Some y → x ≡ y
some_is x y is = cc is

write_event : (e e' : Event) (c c' : Change) (n n' : Then) → Some (Write e c n) ≡ Some (Write e' c' n') → e ≡ e'
write_event e e' c c' n n' is = cc is

-- an actor writes one line at a moment
pub only_line : (plan : Plan) (w : World) (actor : ActorId) (time : ℕ) (s : Stage) (m : Move) (e : Event) (c : Change) (next : Then) → stage_at plan w actor ≡ Some s → Some m ≡ move plan w.views s time → m ≡ Write e c next
    → (last : Last) (other : Line) → MayFollow plan (snapshot_at w last) other → other.actor ≡ actor → other.time ≡ time → other ≡ record { time = time; actor = actor; event = e }
only_line plan w actor time s m e c next stands gives is last other may by at =
    let stage : may.stage ≡ s = some_is may.stage s (sym may.stands ∙ ap (stage_at plan w) by ∙ stands) in
    let here : move plan w.views s time ≡ Some (Write e c next) = sym gives ∙ ap Some is in
    let there : move plan w.views s time ≡ Some (Write other.event may.change may.next) = ap (λ x. move plan w.views x time) (sym stage) ∙ ap (move plan w.views may.stage) (sym at) ∙ may.gives in
    let event : other.event ≡ e = write_event other.event e may.change c may.next next (sym there ∙ here) in
    λ i. record { time = at i; actor = by i; event = event i }

-- the turn fails exactly where more callbacks have failed behind it
fails_if : (b : Bool) (before after : ℕ) (more : Bool) → after ≡ one_more_if b before → (more ≡ true → before < after) → (more ≡ false → after ≤ before) → more ≡ b
fails_if true before after true is rises stays = refl
fails_if false before after false is rises stays = refl
fails_if false before after true is rises stays = let lt = rises refl in absurd (omega (arith, is, lt))
fails_if true before after false is rises stays = let le = stays refl in absurd (omega (arith, is, le))

-- the line that the actor writes there is that of the turn
pub line_of_turn : (pace : Pace) (D : Driver) (most : ℕ) (from to : DriverSnapshot) (actor : ActorId) (failing : Bool) (w : World) (line : Line) → to.snapshot.last ≡ Some actor
    → (failing ≡ true → from.failures < to.failures) → (failing ≡ false → to.failures ≤ from.failures) → w ≡ world_posed D from failing
    → ((last : Last) (other : Line) → MayFollow D.plan (snapshot_at w last) other → other.actor ≡ actor → other.time ≡ to.snapshot.time → other ≡ line) → IsLineBetween pace D most from to line
line_of_turn pace D most from to actor failing w line last_is rises stays stands only x may leads =
    let fails : failing ≡ is_failure x.line.event = fails_if (is_failure x.line.event) from.failures to.failures failing (ap (λ (s : DriverSnapshot). s.failures) leads) rises stays in
    let world : w ≡ world_posed D from (is_failure x.line.event) = stands ∙ ap (world_posed D from) fails in
    let last : Last = record { time = from.snapshot.time; actor = from.snapshot.last; code = from.snapshot.code } in
    let there : MayFollow D.plan (snapshot_at w last) x.line = subst (λ v. MayFollow D.plan (snapshot_at v last) x.line) (sym world) may.may in
    let by : x.line.actor ≡ actor = some_is x.line.actor actor (sym (ap (λ (s : DriverSnapshot). s.snapshot.last) leads) ∙ last_is) in
    let at : x.line.time ≡ to.snapshot.time = sym (ap (λ (s : DriverSnapshot). s.snapshot.time) leads) in
    only last x.line there by at

module _ (pace : Pace) (D : Driver) (most : ℕ) (points : List DriverSnapshot) (parents : List ℕ) where
  abbrev Led : ℕ → ℕ → Type 0
  Led k i = IsLedTo (DriverFollows pace D most) points parents k i

  -- at the start there is no line
  pub first_witness : (i : ℕ) (lines : List Line) → IsTree (DriverFollows pace D most) (start_driver D) points parents → 0 < length points → i ≡ 0 → lines ≡ [] → IsWitness pace D most points parents i lines
  first_witness i lines tree some first none =
      let s = some_within points 0 some in
      record {
        turns = [];
        schedule = tt;
        are = none;
        stands = ap (slice_get points) first ∙ s.1 ∙ ap Some (tree.first s.0 s.1);
        few = λ k within. omega arith;
      }

  -- by the step that leads to a place, its line preempts or doesn't
  step_preempts : (b : Bool) (from to : ℕ) (p q : DriverSnapshot) (line : Line) → slice_get parents to ≡ Some from → slice_get points from ≡ Some p → slice_get points to ≡ Some q → IsLineBetween pace D most p q line
      → (parent : ℕ) → slice_get parents to ≡ Some parent → IsStep (DriverFollows pace D most) b points parent to → (parent ≡ from) × (preempts D.plan (posed_snapshot D p line) line ≡ b)
  step_preempts b from to p q line link at_from at_to only parent is step =
      let here : parent ≡ from = some_is parent from (sym is ∙ link) in
      let is_p : step.point ≡ p = some_is step.point p (sym (subst (λ n. slice_get points n ≡ Some step.point) here step.at) ∙ at_from) in
      let is_q : step.next ≡ q = some_is step.next q (sym step.next_at ∙ at_to) in
      let f : DriverFollows pace D most b p q = subst (λ x. DriverFollows pace D most b p x) is_q (subst (λ x. DriverFollows pace D most b x step.next) is_p step.follows) in
      let same : f.turn.line ≡ line = only f.turn f.may f.leads in
      (here, ap (λ (l : Line). preempts D.plan (posed_snapshot D p l) l) (sym same) ∙ f.preempts_is)

  few_more : (from to : ℕ) (p q : DriverSnapshot) (line : Line) (n : ℕ) → 0 < to → slice_get parents to ≡ Some from → slice_get points from ≡ Some p → slice_get points to ≡ Some q → IsLineBetween pace D most p q line
      → ((k : ℕ) → IsLedWithin (DriverFollows pace D most) points parents k from → n ≤ k) → (k : ℕ) → Led k to → one_more_if (preempts D.plan (posed_snapshot D p line) line) n ≤ k
  few_more from _ p q line n later link at_from at_to only before _ starts = absurd (omega (arith, later))
  few_more from _ p q line n later link at_from at_to only before _ (freely {k = k} parent i up is lt step) =
      let s = step_preempts false from i p q line link at_from at_to only parent is step in
      let le = before k (record { spent = k; few = omega arith; led = subst (Led k) s.0 up }) in
      subst (λ b. one_more_if b n ≤ k) (sym s.1) le
  few_more from _ p q line n later link at_from at_to only before _ (dearly {k = k} parent i up is lt step) =
      let s = step_preempts true from i p q line link at_from at_to only parent is step in
      let le = before k (record { spent = k; few = omega arith; led = subst (Led k) s.0 up }) in
      subst (λ b. one_more_if b n ≤ suc k) (sym s.1) (omega (arith, le))

  -- one line more
  pub next_witness : (from to : ℕ) (p q : DriverSnapshot) (lines pushed : List Line) (line : Line) → IsTree (DriverFollows pace D most) (start_driver D) points parents → IsLink parents to from → slice_get points from ≡ Some p → slice_get points to ≡ Some q
      → IsLineBetween pace D most p q line → IsWitness pace D most points parents from lines → pushed ≡ lines ++ line ∷ [] → IsWitness pace D most points parents to pushed
  next_witness from to p q lines pushed line tree link at_from at_to only w more =
      let lead = tree.leads to from link.later link.is in
      let is_p : lead.1.point ≡ p = some_is lead.1.point p (sym lead.1.at ∙ at_from) in
      let is_q : lead.1.next ≡ q = some_is lead.1.next q (sym lead.1.next_at ∙ at_to) in
      let f : DriverFollows pace D most lead.0 p q = subst (λ x. DriverFollows pace D most lead.0 p x) is_q (subst (λ x. DriverFollows pace D most lead.0 x lead.1.next) is_p lead.1.follows) in
      let here : p ≡ driver_snapshot D w.turns = some_is p (driver_snapshot D w.turns) (sym at_from ∙ w.stands) in
      let same : f.turn.line ≡ line = only f.turn f.may f.leads in
      record {
        turns = f.turn ∷ w.turns;
        schedule = (subst (λ s. MayCome pace D most s f.turn) here f.may, w.schedule);
        are = more ∙ ap (λ l. l ++ line ∷ []) w.are ∙ ap (λ l. reverse (lines_of w.turns) ++ l ∷ []) (sym same) ∙ sym (reverse-append (f.turn.line ∷ []) (lines_of w.turns));
        stands = at_to ∙ ap Some (f.leads ∙ ap (λ s. after_turn D s f.turn) here);
        few = λ k within.
            let le = few_more from to p q line (driver_preemptions D w.turns) link.later link.is at_from at_to only w.few within.spent within.led in
            let own : turn_preempts D (driver_snapshot D w.turns) f.turn ≡ preempts D.plan (posed_snapshot D p line) line = ap (λ s. turn_preempts D s f.turn) (sym here) ∙ ap (λ (l : Line). preempts D.plan (posed_snapshot D p l) l) same in
            let all : one_more_if (turn_preempts D (driver_snapshot D w.turns) f.turn) (driver_preemptions D w.turns) ≤ within.spent = subst (λ b. one_more_if b (driver_preemptions D w.turns) ≤ within.spent) (sym own) le in
            let most_spent = within.few in
            omega (arith, all, most_spent);
      }
