-- One call alone, line by line.
use Rattle.std.proofs.Common.{ℕ, ◌≡◌, ◌+◌, ◌<◌, ◌≤◌, ◌⊎◌, inl, inr, Bool, true, false, cond, not, ◌||◌, List, [], ◌∷◌, Option, Some, None, ℤ, pos, length, drop, ap, refl, sym, ◌∙◌, subst, arith}
use Rattle.std.specs.Option.{unwrap_or}
use Rattle.std.specs.Ordering.{int_eq}
use Rattle.std.proofs.lemmas.Bool.{cases_lt, ltb-true}
use Rattle.std.proofs.lemmas.List.Sums.{sum_by-cons}
use Rattle.pm_base.specs.declared.ActorId.{ActorId}
use Rattle.pm_base.specs.declared.Cb.TheVariants as cb
use Rattle.pm_base.specs.declared.DevId.{DevId}
use Rattle.pm_base.specs.declared.Status.{Status}
use Rattle.pm_model.specs.declared.event.Event.{Event}
use Rattle.pm_model.specs.declared.event.Event.TheVariants as event
use Rattle.pm_model.specs.declared.event.Line.{Line}
use Rattle.pm_model.specs.declared.plan.Plan.{Plan}
use Rattle.pm_model.specs.declared.stage.Await.{Await}
use Rattle.pm_model.specs.declared.stage.Await.TheVariants as await
use Rattle.pm_model.specs.declared.stage.ResumeStage.TheVariants as resume
use Rattle.pm_model.specs.declared.stage.Stage.{Stage}
use Rattle.pm_model.specs.declared.stage.Stage.TheVariants as stage
use Rattle.pm_model.specs.declared.stage.Then.{Then}
use Rattle.pm_model.specs.Counted.{says_error, says_held, says_status}
use Rattle.pm_model.specs.Derived.{has_error, is_active, is_active_status, is_moving, is_resuming, is_suspending}
use Rattle.pm_model.specs.Handing.{after_then}
use Rattle.pm_model.specs.History.{History}
use Rattle.pm_model.specs.Lawful.{IsLawful, last_time}
use Rattle.pm_model.specs.PlanRows.{no_callbacks}
use Rattle.pm_model.specs.Views.{Views, device, is_held}
use Rattle.pm_model.specs.World.{World, place, world}
use Rattle.pm_laws.specs.counts.Sums.{one}
use Rattle.pm_laws.proofs.counts.Links.{neither}
use Rattle.pm_laws.proofs.counts.Runs.{lawful_holds}
use Rattle.pm_laws.specs.stacks.Shape.{Call, call_of, IsAwake, IsLink, May, Nested}
use Rattle.pm_laws.proofs.stacks.PlanLaw.{supplier_earlier}
use Rattle.pm_laws.proofs.stacks.Stacks.{stacked, told}
use Rattle.pm_laws.proofs.stacks.Telling.{IsTelling}
use Rattle.pm_laws.proofs.stacks.Tests.{or_rear, same_device, same_self}
use Rattle.pm_laws.proofs.safe.Steps.{differ}
use Rattle.pm_laws.specs.gets.Answered.{some_of}
use Rattle.pm_laws.proofs.gets.Passing.{tells, then_below}
use Rattle.pm_laws.proofs.gets.Staying.{status_next}
use Rattle.pm_laws.specs.gets.Alone.{Reached, begins_resume, is_return, resumes_begun}
use Rattle.pm_laws.proofs.gets.Nexts.{error_next, held_next, place_next}
use Rattle.pm_laws.proofs.gets.Stacking.{based_then, gathers_owns, gathers_pass, goes_on_top, lacks_pass}
use Rattle.pm_laws.proofs.gets.Watching.{calls_back, fails, gathers, goes_to, is_clear, is_get_of, is_off, is_on, lacks, no_end, on_top, stands_on}
use Rattle.pm_laws.proofs.gets.Writing.{IsOfCall, Written}

-- the resume callback of x has begun, and doesn't begin again: x has callbacks, no open stage is about to begin it, and x
-- is Active or has an error, or the callback is under way
pub record Spent (plan : Plan) (v : Views) (x : DevId) (stack : List Stage) : Type 0 where
  pub within : x.0 < length plan.devices
  pub has : no_callbacks plan x ≡ false
  pub off : some_of (gathers x) stack ≡ false
  pub barred : (is_active v x ≡ true) ⊎ ((has_error v x ≡ true) ⊎ (on_top (calls_back x) stack ≡ true))

-- what holds after some lines of a get_sync's call: its own stage stands at the bottom of the caller's place, a link
-- whose supplier's resume is awaited is held, and what was resumed in these lines is spent
pub record Inside (plan : Plan) (h : History) (a : ActorId) (d : DevId) (lines : History) : Type 0 where
  pub based : stands_on d (place (world plan h) a) ≡ true
  pub held : some_of (lacks (is_held (world plan h).views)) (place (world plan h) a) ≡ false
  pub spent : (x : DevId) → 0 < resumes_begun x lines → Spent plan (world plan h).views x (place (world plan h) a)

-- one line more
pub begun_more : (x : DevId) (line : Line) (lines : History) → resumes_begun x (line ∷ lines) ≡ one (begins_resume x line.event) + resumes_begun x lines
begun_more x line lines = sum_by-cons (λ (l : Line). cond (begins_resume x l.event) 1 0) line lines

begins_within : (plan : Plan) (x : DevId) (e : Event) → IsTelling plan e → begins_resume x e ≡ true → x.0 < length plan.devices
begins_within plan x (event.Begin y cb.Resume) tells same = let is : y ≡ x = same_device y x same in subst (λ (z : DevId). z.0 < length plan.devices) is (ltb-true y.0 (length plan.devices) tells)
begins_within plan x (event.Begin y _) tells same = cc
begins_within plan x _ tells same = cc

-- what gathers is a resume of its device
gathers_reached : (plan : Plan) (v : Views) (d x : DevId) (s : Stage) → IsAwake s → gathers x s ≡ true → IsOfCall plan v d s → Reached plan v d x
gathers_reached plan v d x (stage.Resume (resume.Links r)) awake is (inr piece) = let same : r.dev ≡ x = same_device r.dev x is in subst (Reached plan v d) same piece
gathers_reached plan v d x (stage.Resume (resume.Supplied r c)) awake is (inr piece) = let same : r.dev ≡ x = same_device r.dev x is in subst (Reached plan v d) same piece
gathers_reached plan v d x (stage.Resume (resume.Callback r)) awake is (inr piece) = let same : r.dev ≡ x = same_device r.dev x is in subst (Reached plan v d) same piece
gathers_reached plan v d x (stage.Resume s) awake is (inl mine) = cc
gathers_reached plan v d x (stage.Await a) awake is of = elim awake [ ]
gathers_reached plan v d x _ awake is of = cc

-- what an event makes of a status and of an error
active_stays : (o : Option Status) (st : Status) → is_active_status st ≡ true → is_off o ≡ false → is_active_status (unwrap_or o st) ≡ true
active_stays None st up off = up
active_stays (Some s) st up off = not_off (is_active_status s) off
  where
    not_off : (b : Bool) → not b ≡ false → b ≡ true
    not_off true e = refl
    not_off false e = cc

active_on : (o : Option Status) (st : Status) → is_on o ≡ true → is_active_status (unwrap_or o st) ≡ true
active_on None st on = cc
active_on (Some s) st on = on

error_stays : (o : Option ℤ) (c : ℤ) → not (int_eq c (pos 0)) ≡ true → is_clear o ≡ false → not (int_eq (unwrap_or o c) (pos 0)) ≡ true
error_stays None c bad clear = bad
error_stays (Some x) c bad clear = rw clear refl

error_fails : (o : Option ℤ) (c : ℤ) → fails o ≡ true → not (int_eq (unwrap_or o c) (pos 0)) ≡ true
error_fails None c bad = cc
error_fails (Some x) c bad = bad

off_both : (a b : Bool) → a ≡ false → b ≡ false → a || b ≡ false
off_both true b p q = cc
off_both false b p q = q

-- the bottom after the line
based_next : (plan : Plan) (d : DevId) (s : Stage) (next : Then) (rest : List Stage) → Nested plan (call_of s) rest → stands_on d (s ∷ rest) ≡ true
    → (is_get_of d s ≡ true → stands_on d (after_then next []) ≡ true) → stands_on d (after_then next rest) ≡ true
based_next plan d s next [] n based roots = roots based
based_next plan d s next (t ∷ rest) n based roots = based_then plan d (call_of s) next (t ∷ rest) n based

-- the links that were held stay held
stays_held : (o : Option Bool) (b : Bool) → not b ≡ false → (o ≡ Some false → ⊥) → not (unwrap_or o b) ≡ false
stays_held None b e f = e
stays_held (Some true) b e f = refl
stays_held (Some false) b e f = absurd (f refl)

one_held : (plan : Plan) (h : History) (line : Line) → IsLawful plan (line ∷ h) → (a : Await) (k : Call) → May plan a k
    → ((c t : DevId) → c.0 < length plan.devices → says_held c t line.event ≡ Some false → gathers c (stage.Await a) ≡ false)
    → lacks (is_held (world plan h).views) (stage.Await a) ≡ false → lacks (is_held (world plan (line ∷ h)).views) (stage.Await a) ≡ false
one_held plan h line lawful (await.ResumeSupplier r l) k (s, link, is) frees was =
    ap (λ b. not b) (held_next plan h line l r.dev s lawful link)
    ∙ stays_held (says_held r.dev s line.event) (is_held (world plan h).views l) was (λ freed. absurd (differ (same_self r.dev.0) (frees r.dev s (supplier_earlier plan l r.dev s link).within freed)))
one_held plan h line lawful _ k may frees was = refl

rest_held : (plan : Plan) (h : History) (line : Line) → IsLawful plan (line ∷ h) → (k : Call) (rest : List Stage) → Nested plan k rest
    → ((c t : DevId) → c.0 < length plan.devices → says_held c t line.event ≡ Some false → some_of (gathers c) rest ≡ false)
    → some_of (lacks (is_held (world plan h).views)) rest ≡ false → some_of (lacks (is_held (world plan (line ∷ h)).views)) rest ≡ false
rest_held plan h line lawful k [] n frees was = refl
rest_held plan h line lawful k (stage.Await a ∷ rest) n frees was =
    let both = neither (lacks (is_held (world plan h).views) (stage.Await a)) (some_of (lacks (is_held (world plan h).views)) rest) was in
    off_both _ _
    (one_held plan h line lawful a k n.0 (λ c t within freed. (neither (gathers c (stage.Await a)) (some_of (gathers c) rest) (frees c t within freed)).0) both.0)
    (rest_held plan h line lawful (call_of (stage.Await a)) rest n.2 (λ c t within freed. (neither (gathers c (stage.Await a)) (some_of (gathers c) rest) (frees c t within freed)).1) both.1)
rest_held plan h line lawful k (s ∷ rest) n frees was = elim n.0 [ ]

-- a line in a get_sync's call, and what was so before it
pub record Within (plan : Plan) (h : History) (line : Line) (d : DevId) (lines : History) : Type 0 where
  pub it : Written plan h line d
  pub before : Inside plan h line.actor d lines

-- a device whose resume callback begins by the line wasn't resumed before
unspent : (plan : Plan) (h : History) (line : Line) (d x : DevId) (lines : History) → Within plan h line d lines → begins_resume x line.event ≡ true → resumes_begun x lines ≡ 0
unspent plan h line d x lines k begins = elim (cases_lt 0 (resumes_begun x lines)) [
  | inl lt ↦
      let stack = place (world plan h) line.actor in
      let off : some_of (gathers x) (k.it.paid.stage ∷ drop 1 stack) ≡ false = sym (ap (some_of (gathers x)) k.it.stack) ∙ (k.before.spent x lt).off in
      differ (k.it.careful.begins x begins).0 (neither (gathers x k.it.paid.stage) (some_of (gathers x) (drop 1 stack)) off).0
  | inr le ↦ omega (arith, le)
]

pub counted_line : (plan : Plan) (h : History) (line : Line) (d : DevId) (lines : History) → Within plan h line d lines → ((x : DevId) → resumes_begun x lines ≤ 1)
    → (x : DevId) → resumes_begun x (line ∷ lines) ≤ 1
counted_line plan h line d lines k few x = go (begins_resume x line.event) refl
  where
    more : resumes_begun x (line ∷ lines) ≡ one (begins_resume x line.event) + resumes_begun x lines
    more = begun_more x line lines

    go : (b : Bool) → begins_resume x line.event ≡ b → resumes_begun x (line ∷ lines) ≤ 1
    go true e = let none = unspent plan h line d x lines k e in let now : one (begins_resume x line.event) ≡ 1 = rw e refl in omega (arith, more, none, now)
    go false e = let now : one (begins_resume x line.event) ≡ 0 = rw e refl in omega (arith, more, now, few x)

pub reached_line : (plan : Plan) (h : History) (line : Line) (d : DevId) (lines : History) → Within plan h line d lines
    → (x : DevId) → begins_resume x line.event ≡ true → Reached plan (world plan h).views d x
reached_line plan h line d lines k x begins =
    gathers_reached plan (world plan h).views d x k.it.paid.stage k.it.nested.0 (k.it.careful.begins x begins).0 k.it.of

-- all of it holds after the line, unless this returns
pub inside_line : (plan : Plan) (h : History) (line : Line) (d : DevId) (lines : History) → IsLawful plan (line ∷ h) → is_return line.event ≡ false → Within plan h line d lines
    → Inside plan (line ∷ h) line.actor d (line ∷ lines)
inside_line plan h line d lines lawful goes k = record { based = based; held = held; spent = spent }
  where
    w : World
    w = world plan h

    v : Views
    v = w.views

    now : Views
    now = (world plan (line ∷ h)).views

    it : Written plan h line d
    it = k.it

    s : Stage
    s = it.paid.stage

    next : Then
    next = it.paid.next

    rest : List Stage
    rest = drop 1 (place w line.actor)

    below : Nested plan (call_of s) rest
    below = it.nested.2

    place_is : place (world plan (line ∷ h)) line.actor ≡ after_then next rest
    place_is = place_next plan h line it.paid it.placed

    based : stands_on d (place (world plan (line ∷ h)) line.actor) ≡ true
    based = ap (stands_on d) place_is ∙ based_next plan d s next rest below (sym (ap (stands_on d) it.stack) ∙ k.before.based) (λ is. it.careful.roots d is goes)

    -- who gives a link back has none of its links awaited
    freed : (c t : DevId) → c.0 < length plan.devices → says_held c t line.event ≡ Some false → some_of (gathers c) rest ≡ false
    freed c t within is = it.alone c within (it.careful.frees c t is)

    held_below : some_of (lacks (is_held now)) rest ≡ false
    held_below = rest_held plan h line lawful (call_of s) rest below freed (neither (lacks (is_held v) s) (some_of (lacks (is_held v)) rest) (sym (ap (some_of (lacks (is_held v))) it.stack) ∙ k.before.held)).1

    took : (l : ℕ) (c t : DevId) → IsLink plan l c t → says_held c t line.event ≡ Some true → is_held now l ≡ true
    took l c t link says = held_next plan h line l c t lawful link ∙ ap (λ o. unwrap_or o (is_held v l)) says

    held : some_of (lacks (is_held now)) (place (world plan (line ∷ h)) line.actor) ≡ false
    held = ap (some_of (lacks (is_held now))) place_is ∙ go (some_of (lacks (is_held now)) (after_then next rest)) refl
      where
        go : (b : Bool) → some_of (lacks (is_held now)) (after_then next rest) ≡ b → some_of (lacks (is_held now)) (after_then next rest) ≡ false
        go false e = e
        go true e = elim (then_below plan (lacks (is_held now)) no_end (lacks_pass plan (is_held now)) (call_of s) next rest below e) [
          | inl under ↦ differ under held_below
          | inr new ↦ differ new (it.careful.takes (is_held now) took)
        ]

    -- after the line x is Active, or has an error
    up_now : (x : DevId) → x.0 < length plan.devices → is_active_status (unwrap_or (says_status x line.event) (device v x).status) ≡ true → is_active now x ≡ true
    up_now x within up = ap is_active_status (status_next plan h line x it.paid within) ∙ up

    bad_now : (x : DevId) → x.0 < length plan.devices → not (int_eq (unwrap_or (says_error x line.event) (device v x).error) (pos 0)) ≡ true → has_error now x ≡ true
    bad_now x within bad = ap (λ c. not (int_eq c (pos 0))) (error_next plan h line x lawful within) ∙ bad

    -- x was resumed before the line
    again : (x : DevId) → Spent plan v x (s ∷ rest) → Spent plan now x (after_then next rest)
    again x was = record { within = was.within; has = was.has; off = off; barred = barred was.barred }
      where
        apart : (gathers x s ≡ false) × (some_of (gathers x) rest ≡ false)
        apart = neither (gathers x s) (some_of (gathers x) rest) was.off

        comes : tells (gathers x) no_end s next ≡ true → ⊥
        comes told_so = elim (it.careful.comes x told_so) [
          | inl here ↦ differ here apart.0
          | inr new ↦ elim was.barred [
            | inl up ↦ differ up new.0
            | inr more ↦ elim more [ inl bad ↦ differ bad new.1 | inr runs ↦ differ runs new.2 ]
          ]
        ]

        off : some_of (gathers x) (after_then next rest) ≡ false
        off = go (some_of (gathers x) (after_then next rest)) refl
          where
            go : (b : Bool) → some_of (gathers x) (after_then next rest) ≡ b → some_of (gathers x) (after_then next rest) ≡ false
            go false e = e
            go true e = elim (then_below plan (gathers x) no_end (gathers_pass plan x) (call_of s) next rest below e) [
              | inl under ↦ differ under apart.1
              | inr new ↦ absurd (comes new)
            ]

        barred : (is_active v x ≡ true) ⊎ ((has_error v x ≡ true) ⊎ (calls_back x s ≡ true)) → (is_active now x ≡ true) ⊎ ((has_error now x ≡ true) ⊎ (on_top (calls_back x) (after_then next rest) ≡ true))
        barred (inl up) = inl (up_now x was.within (active_stays (says_status x line.event) (device v x).status up (it.careful.stays x up was.has)))
        barred (inr (inl bad)) = inr (inl (bad_now x was.within (error_stays (says_error x line.event) (device v x).error bad (it.careful.clears x))))
        barred (inr (inr runs)) = elim (it.careful.leaves x runs) [
          | inl on ↦ inl (up_now x was.within (active_on (says_status x line.event) (device v x).status on))
          | inr more ↦ elim more [
            | inl fail ↦ inr (inl (bad_now x was.within (error_fails (says_error x line.event) (device v x).error fail)))
            | inr to ↦ inr (inr (goes_on_top (calls_back x) next rest to))
          ]
        ]

    tells_all : IsTelling plan line.event
    tells_all = (told plan w (last_time h) line it.paid (lawful_holds plan h lawful.2) (stacked plan h lawful.2) lawful.0.in_time).tells.0

    -- it is by the line
    first : (x : DevId) → begins_resume x line.event ≡ true → Spent plan now x (after_then next rest)
    first x begins = record { within = within; has = has; off = off; barred = inr (inr (goes_on_top (calls_back x) next rest facts.1)) }
      where
        facts : (gathers x s ≡ true) × (goes_to (calls_back x) next ≡ true) × (tells (gathers x) no_end s next ≡ false)
        facts = it.careful.begins x begins

        within : x.0 < length plan.devices
        within = begins_within plan x line.event tells_all begins

        moves : is_moving v x ≡ true
        moves = or_rear (is_suspending v x) (is_resuming v x) (it.resuming x within (gathers_owns x s facts.0))

        has : no_callbacks plan x ≡ false
        has = go (no_callbacks plan x) refl
          where
            go : (b : Bool) → no_callbacks plan x ≡ b → no_callbacks plan x ≡ false
            go false e = e
            go true e = differ moves ((lawful_holds plan h lawful.2).settled x e)

        off : some_of (gathers x) (after_then next rest) ≡ false
        off = go (some_of (gathers x) (after_then next rest)) refl
          where
            go : (b : Bool) → some_of (gathers x) (after_then next rest) ≡ b → some_of (gathers x) (after_then next rest) ≡ false
            go false e = e
            go true e = elim (then_below plan (gathers x) no_end (gathers_pass plan x) (call_of s) next rest below e) [
              | inl under ↦ differ under (it.alone x within (gathers_owns x s facts.0))
              | inr new ↦ differ new facts.2
            ]

    spent : (x : DevId) → 0 < resumes_begun x (line ∷ lines) → Spent plan now x (place (world plan (line ∷ h)) line.actor)
    spent x some = subst (Spent plan now x) (sym place_is) (go (begins_resume x line.event) refl)
      where
        go : (b : Bool) → begins_resume x line.event ≡ b → Spent plan now x (after_then next rest)
        go true e = first x e
        go false e =
            let none : one (begins_resume x line.event) ≡ 0 = rw e refl in
            again x (subst (Spent plan v x) it.stack (k.before.spent x (omega (arith, some, none, begun_more x line lines))))
