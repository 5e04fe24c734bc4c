-- The lines of a path, one by one.
use Rattle.std.proofs.Common.{ℕ, suc, ◌≡◌, ◌<◌, ◌≤◌, ◌+◌, ◌∷◌, [], ◌++◌, Bool, true, false, List, Some, length, reverse, slice_get, refl, sym, subst, ap, ◌∙◌, arith, length-append}
use Rattle.std.proofs.lemmas.List.{length-reverse, reverse-append}
use Rattle.pm_base.specs.declared.ActorId.{ActorId}
use Rattle.pm_model.specs.declared.event.Line.{Line}
use Rattle.pm_model.specs.declared.plan.Plan.{Plan}
use Rattle.pm_model.specs.History.{History}
use Rattle.pm_model.specs.Lawful.{IsLawful, Permits}
use Rattle.pm_explore.specs.declared.schedule.Pace.{Pace}
use Rattle.pm_explore.specs.schedule.Schedules.{IsSchedule, preemptions, one_more_if, snapshot}
use Rattle.pm_explore.specs.schedule.Snapshots.{Follows, IsTimely, MayFollow, Snapshot, after, preempts, start_snapshot}
use Rattle.pm_explore.specs.search.Trees.{IsLedTo, IsLedWithin, IsStep}
use Rattle.pm_explore.specs.search.Trees.IsLedTo.{dearly, freely, starts}
use Rattle.pm_outcomes.specs.declared.paths.run.Run.{Run}
use Rattle.pm_outcomes.specs.paths.Runs.{AreLinesOf, IsScheduleTo, LeadsTo, snapshot_of_run}
use Rattle.pm_outcomes.proofs.paths.PathLemmas.{IsLink}

permits : (plan : Plan) (h : History) (line : Line) → MayFollow plan (snapshot plan h) line → Permits plan h line
permits plan h line p = record { stage = p.stage; stands = p.stands; change = p.change; next = p.next; gives = p.gives; in_time = p.in_time }

-- no line yet
pub no_lines : (pace : Pace) (plan : Plan) (r : Run) (lines : List Line) → lines ≡ [] → snapshot_of_run r ≡ start_snapshot plan → r.lines ≡ 0 → AreLinesOf pace plan r lines
no_lines pace plan r lines none first zero_lines = subst (AreLinesOf pace plan r) (sym none) (record { order = tt; stands = sym first; many = sym zero_lines })

-- one more
pub one_more : (pace : Pace) (plan : Plan) (old new : Run) (lines pushed : List Line) (line : Line) → AreLinesOf pace plan old lines → LeadsTo pace plan (snapshot_of_run old) (snapshot_of_run new) line → new.lines ≡ old.lines + 1 → pushed ≡ lines ++ line ∷ [] → AreLinesOf pace plan new pushed
one_more pace plan old new lines pushed line are led count more = subst (AreLinesOf pace plan new) (sym more) (record {
  order = subst (IsSchedule pace plan) (sym newest) (permits plan h line (subst (λ s. MayFollow plan s line) (sym are.stands) led.may), subst (λ s. IsTimely pace plan s line) (sym are.stands) led.timely, are.order);
  stands = ap (snapshot plan) newest ∙ ap (λ s. after plan s line) are.stands ∙ sym led.leads;
  many = let so_many = are.many in omega (arith, so_many, count, length-append lines (line ∷ []));
})
  where
    h : History
    h = reverse lines

    newest : reverse (lines ++ line ∷ []) ≡ line ∷ h
    newest = reverse-append lines (line ∷ [])

-- by the line that leads there
pub leads_by : (pace : Pace) (plan : Plan) (b : Bool) (old new : Run) (actor : ActorId) (time : ℕ) (to : Snapshot) (line : Line) → (f : Follows pace plan b (snapshot_of_run old) to) → MayFollow plan (snapshot_of_run old) line → line.actor ≡ actor → line.time ≡ time
    → f.line.actor ≡ actor → f.line.time ≡ time
    → ((one other : Line) → MayFollow plan (snapshot_of_run old) one → MayFollow plan (snapshot_of_run old) other → one.actor ≡ other.actor → one.time ≡ other.time → one ≡ other)
    → snapshot_of_run new ≡ to → LeadsTo pace plan (snapshot_of_run old) (snapshot_of_run new) line
leads_by pace plan b old new actor time to line f may by at f_by f_at one there =
    let same : f.line ≡ line = one f.line line f.may may (f_by ∙ sym by) (f_at ∙ sym at) in
    record {
      may = may;
      timely = subst (IsTimely pace plan (snapshot_of_run old)) same f.timely;
      leads = there ∙ f.leads ∙ ap (after plan (snapshot_of_run old)) same;
    }

-- the lines of the whole path
pub order_there : (pace : Pace) (plan : Plan) (snapshots : List Snapshot) (at : ℕ) (r : Run) (lines : List Line) → ((h : History) → IsSchedule pace plan h → length h ≤ plan.lines → IsLawful plan h) → AreLinesOf pace plan r lines → r.lines ≤ plan.lines → slice_get snapshots at ≡ Some (snapshot_of_run r)
    → IsScheduleTo pace plan snapshots at lines
order_there pace plan snapshots at r lines lawful are few here = record {
  order = are.order;
  lawful = let many = are.many in lawful (reverse lines) are.order (omega (arith, many, few, length-reverse lines));
  stands = here ∙ ap Some (sym are.stands);
}

abbrev pub IsLed : Pace → Plan → List Snapshot → List ℕ → ℕ → ℕ → Type 0
IsLed pace plan points parents k i = IsLedTo (Follows pace plan) points parents k i

-- an actor writes one line at a time there
abbrev pub HasOneLine : Plan → Snapshot → Type 0
HasOneLine plan p = (one other : Line) → MayFollow plan p one → MayFollow plan p other → one.actor ≡ other.actor → one.time ≡ other.time → one ≡ other

-- so many of the lines preempt, by however many the place is led to
abbrev pub AreSpent : Pace → Plan → List Snapshot → List ℕ → ℕ → List Line → Type 0
AreSpent pace plan points parents i lines = (k : ℕ) → IsLed pace plan points parents k i → preemptions plan (reverse lines) ≡ k

some_is : {A : Type 0} (x y : A) → Some x ≡ Some y → x ≡ y
some_is x y is = cc is

at_first : (pace : Pace) (plan : Plan) (points : List Snapshot) (parents : List ℕ) (k i : ℕ) → IsLed pace plan points parents k i → i ≡ 0 → 0 ≡ k
at_first pace plan points parents _ _ starts first = refl
at_first pace plan points parents _ _ (freely parent i led is lt step) first = absurd (omega (arith, lt, first))
at_first pace plan points parents _ _ (dearly parent i led is lt step) first = absurd (omega (arith, lt, first))

-- at the start none preempts
pub spent_first : (pace : Pace) (plan : Plan) (points : List Snapshot) (parents : List ℕ) (i : ℕ) (lines : List Line) → lines ≡ [] → i ≡ 0 → AreSpent pace plan points parents i lines
spent_first pace plan points parents i lines none first k led = ap (λ l. preemptions plan (reverse l)) none ∙ at_first pace plan points parents k i led first

-- the step by which a place is led to preempts as its line does
step_preempts : (pace : Pace) (plan : Plan) (b : Bool) (points : List Snapshot) (parents : List ℕ) (from to : ℕ) (p q : Snapshot) (line : Line) → slice_get parents to ≡ Some from → slice_get points from ≡ Some p → slice_get points to ≡ Some q → LeadsTo pace plan p q line
    → HasOneLine plan p → (parent : ℕ) → slice_get parents to ≡ Some parent → IsStep (Follows pace plan) b points parent to → (parent ≡ from) × (preempts plan p line ≡ b)
step_preempts pace plan b points parents from to p q line link at_from at_to led one parent is step =
    let here : parent ≡ from = some_is parent from (sym is ∙ link) in
    let is_p : step.point ≡ p = some_is step.point p (sym (subst (λ n. slice_get points n ≡ Some step.point) here step.at) ∙ at_from) in
    let is_q : step.next ≡ q = some_is step.next q (sym step.next_at ∙ at_to) in
    let f : Follows pace plan b p q = subst (λ x. Follows pace plan b p x) is_q (subst (λ x. Follows pace plan b x step.next) is_p step.follows) in
    let same_snapshot : after plan p f.line ≡ after plan p line = sym f.leads ∙ led.leads in
    let by : f.line.actor ≡ line.actor = some_is f.line.actor line.actor (ap (λ (s : Snapshot). s.last) same_snapshot) in
    let at : f.line.time ≡ line.time = ap (λ (s : Snapshot). s.time) same_snapshot in
    let same : f.line ≡ line = one f.line line f.may led.may by at in
    (here, ap (preempts plan p) (sym same) ∙ f.preempts_is)

more_spent : (pace : Pace) (plan : Plan) (points : List Snapshot) (parents : List ℕ) (from to : ℕ) (p q : Snapshot) (h : History) (line : Line) → 0 < to → slice_get parents to ≡ Some from → slice_get points from ≡ Some p → slice_get points to ≡ Some q
    → snapshot plan h ≡ p → LeadsTo pace plan p q line → HasOneLine plan p → ((k : ℕ) → IsLed pace plan points parents k from → preemptions plan h ≡ k) → (k : ℕ) → IsLed pace plan points parents k to → preemptions plan (line ∷ h) ≡ k
more_spent pace plan points parents from _ p q h line later link at_from at_to stands led one before _ starts = absurd (omega (arith, later))
more_spent pace plan points parents from _ p q h line later link at_from at_to stands led one before _ (freely {k = k} parent i up is lt step) =
    let s = step_preempts pace plan false points parents from i p q line link at_from at_to led one parent is step in
    ap (λ x. one_more_if (preempts plan x line) (preemptions plan h)) stands ∙ ap (λ b. one_more_if b (preemptions plan h)) s.1 ∙ before k (subst (λ n. IsLed pace plan points parents k n) s.0 up)
more_spent pace plan points parents from _ p q h line later link at_from at_to stands led one before _ (dearly {k = k} parent i up is lt step) =
    let s = step_preempts pace plan true points parents from i p q line link at_from at_to led one parent is step in
    ap (λ x. one_more_if (preempts plan x line) (preemptions plan h)) stands ∙ ap (λ b. one_more_if b (preemptions plan h)) s.1 ∙ ap suc (before k (subst (λ n. IsLed pace plan points parents k n) s.0 up))

-- one line more
pub spent_more : (pace : Pace) (plan : Plan) (points : List Snapshot) (parents : List ℕ) (from to : ℕ) (old new : Run) (lines pushed : List Line) (line : Line) → IsLink parents to from → slice_get points from ≡ Some (snapshot_of_run old) → slice_get points to ≡ Some (snapshot_of_run new)
    → AreLinesOf pace plan old lines → LeadsTo pace plan (snapshot_of_run old) (snapshot_of_run new) line → HasOneLine plan (snapshot_of_run old) → pushed ≡ lines ++ line ∷ [] → AreSpent pace plan points parents from lines → AreSpent pace plan points parents to pushed
spent_more pace plan points parents from to old new lines pushed line link at_from at_to are led one more before k up =
    ap (λ l. preemptions plan (reverse l)) more ∙ ap (preemptions plan) (reverse-append lines (line ∷ []))
    ∙ more_spent pace plan points parents from to (snapshot_of_run old) (snapshot_of_run new) (reverse lines) line link.later link.is at_from at_to are.stands led one before k up

-- no more than the place is led to by
pub few_spent : (pace : Pace) (plan : Plan) (points : List Snapshot) (parents : List ℕ) (i at : ℕ) (lines : List Line) → i ≡ at → AreSpent pace plan points parents i lines → (k : ℕ) → IsLedWithin (Follows pace plan) points parents k at → preemptions plan (reverse lines) ≤ k
few_spent pace plan points parents i at lines here spent k within =
    let is = spent within.spent (subst (λ n. IsLed pace plan points parents within.spent n) (sym here) within.led) in
    let few = within.few in
    omega (arith, is, few)
