-- Whether a line is permitted at some time is decided at three moments.
use Rattle.std.proofs.Common.{ℕ, ◌≡◌, ◌≤◌, ◌+◌, inl, inr, Bool, true, false, List, [], ◌∷◌, Option, Some, None, max, nat_lt, unwrap_or, option_map, if◌then◌else◌, ap, refl, sym, ◌∙◌, arith}
use Rattle.std.specs.Option.{option_and_then}
use Rattle.std.proofs.lemmas.Bool.Decides.{nat_tests}
use Rattle.pm_model.specs.declared.event.Event.{Event}
use Rattle.pm_model.specs.declared.event.Event.TheVariants.{Timer}
use Rattle.pm_model.specs.declared.event.TimerAct.TheVariants.{Arm}
use Rattle.pm_model.specs.declared.event.Line.{Line}
use Rattle.pm_model.specs.declared.plan.Plan.{Plan}
use Rattle.pm_model.specs.declared.stage.Change.{Change}
use Rattle.pm_model.specs.declared.stage.Move.TheVariants.{Write, Late, Wait}
use Rattle.pm_model.specs.declared.stage.Stage.{Stage}
use Rattle.pm_model.specs.declared.stage.Then.{Then}
use Rattle.pm_model.specs.Derived.{is_ahead}
use Rattle.pm_model.specs.Lawful.{Permits, last_time}
use Rattle.pm_model.specs.NoWhy.{IsPermittedSometime, at_time}
use Rattle.pm_model.specs.Row.{Row, writes, waits, timed}
use Rattle.pm_model.specs.World.{due, row, stage_at, world}
use Rattle.pm_laws.specs.bounds.Times.{IsPermittedAt, armed_at, arms_for, event_at, event_of, expiry_of, moments, moments_at}
use Rattle.pm_laws.proofs.bounds.Timeless.{arms_where, event_same}

-- a move that writes is the event of a row that is due
pub move_event : (x : Option Row) (at t : ℕ) (e : Event) (change : Change) (next : Then) → option_map (timed at t) x ≡ Some (Write e change next)
    → (option_and_then event_of x ≡ Some e) × (at ≤ t)
move_event None at t e change next p = cc
move_event (Some (waits d)) at t e change next p = go (nat_lt t at) p
  where
    go : (b : Bool) → Some (if b then Late at else Wait d) ≡ Some (Write e change next) → (option_and_then event_of (Some (waits d)) ≡ Some e) × (at ≤ t)
    go true q = cc
    go false q = cc
move_event (Some (writes e' f n)) at t e change next p = go (nat_lt t at) refl p
  where
    go : (b : Bool) → nat_lt t at ≡ b → Some (if b then Late at else Write e' f n) ≡ Some (Write e change next) → (Some e' ≡ Some e) × (at ≤ t)
    go true l q = cc
    go false l q = (cc, grind (arith, nat_tests))

pub event_move : (x : Option Row) (at t : ℕ) (e : Event) → option_and_then event_of x ≡ Some e → at ≤ t
    → (change : Change) × (next : Then) × (option_map (timed at t) x ≡ Some (Write e change next))
event_move None at t e p l = cc
event_move (Some (waits d)) at t e p l = cc
event_move (Some (writes e' f n)) at t e p l =
    let late : nat_lt t at ≡ false = grind (arith, nat_tests) in
    let same : e' ≡ e = cc in
    (f, n, rw late (ap (λ x. Some (Write x f n)) same))

-- a line that is permitted at one time is at another where the row has its event
shift : (plan : Plan) (h : List Line) (line : Line) (t : ℕ) (p : Permits plan h (at_time line t)) (u : ℕ)
    → event_at plan (world plan h).views p.stage u ≡ Some line.event → last_time h ≤ u → due plan (world plan h).views p.stage ≤ u
    → Permits plan h (at_time line u)
shift plan h line t p u e last at =
    let v = (world plan h).views in
    let m = event_move (row plan v p.stage u) (due plan v p.stage) u line.event e at in
    record { stage = p.stage; stands = p.stands; change = m.0; next = m.1; gives = m.2; in_time = last }

before : (x : Option ℕ) (m t : ℕ) → m ≤ t → is_ahead x t ≡ true → is_ahead x m ≡ true
before None m t l e = e
before (Some n) m t l e = grind (arith, nat_tests)

behind : (x : Option ℕ) (m t : ℕ) → m ≤ t → is_ahead x t ≡ false
    → (max m (unwrap_or x 0) ≤ t) × (is_ahead x (max m (unwrap_or x 0)) ≡ false)
behind None m t l e = (omega arith, refl)
behind (Some n) m t l e =
    let late : n ≤ t = grind (arith, nat_tests) in
    let after : n ≤ max m n = omega arith in
    (omega arith, grind (arith, nat_tests))

abbrev pub Found : Plan → List Line → Line → ℕ → Stage → Type 0
Found plan h line t s = IsPermittedAt plan h line t (moments_at plan (world plan h).views (last_time h) line.event s)

unarmed : (plan : Plan) (h : List Line) (line : Line) (t : ℕ) (p : Permits plan h (at_time line t)) → arms_for plan (world plan h).views p.stage ≡ None
    → Found plan h line t p.stage
unarmed plan h line t p none =
    let v = (world plan h).views in
    let m = max (last_time h) (due plan v p.stage) in
    let o = move_event (row plan v p.stage t) (due plan v p.stage) t line.event p.change p.next p.gives in
    let in_time : last_time h ≤ t = p.in_time in
    let at : due plan v p.stage ≤ t = o.1 in
    let soon : m ≤ t = omega arith in
    go (is_ahead (expiry_of v p.stage) t) refl o.0 soon
  where
    go : (b : Bool) → is_ahead (expiry_of (world plan h).views p.stage) t ≡ b
        → event_at plan (world plan h).views p.stage t ≡ Some line.event
        → max (last_time h) (due plan (world plan h).views p.stage) ≤ t → Found plan h line t p.stage
    go true ahead e soon =
        let v = (world plan h).views in
        let m = max (last_time h) (due plan v p.stage) in
        let side = before (expiry_of v p.stage) m t soon ahead in
        let same = event_same plan v p.stage m t none (side ∙ sym ahead) in
        inl (soon, shift plan h line t p m (same ∙ e) (omega arith) (omega arith))
    go false ahead e soon =
        let v = (world plan h).views in
        let m = max (last_time h) (due plan v p.stage) in
        let u = max m (unwrap_or (expiry_of v p.stage) 0) in
        let side = behind (expiry_of v p.stage) m t soon ahead in
        let same = event_same plan v p.stage u t none (side.1 ∙ sym ahead) in
        inr (inl (side.0, shift plan h line t p u (same ∙ e) (omega arith) (omega arith)))

armed : (plan : Plan) (h : List Line) (line : Line) (t ms : ℕ) (p : Permits plan h (at_time line t)) → arms_for plan (world plan h).views p.stage ≡ Some ms
    → Found plan h line t p.stage
armed plan h line t ms p some =
    let v = (world plan h).views in
    let m = max (last_time h) (due plan v p.stage) in
    let o = move_event (row plan v p.stage t) (due plan v p.stage) t line.event p.change p.next p.gives in
    let arm = arms_where plan v p.stage ms t some in
    let is : line.event ≡ Timer arm.0 (Arm (t + ms) false) = cc in
    let when : armed_at m (arms_for plan v p.stage) line.event ≡ t = rw (some, is) (omega arith) in
    inr (inr (inl (rw when (omega arith), rw when p)))

pub found_at : (plan : Plan) (h : List Line) (line : Line) (t : ℕ) (p : Permits plan h (at_time line t)) → Found plan h line t p.stage
found_at plan h line t p = go (arms_for plan (world plan h).views p.stage) refl
  where
    go : (x : Option ℕ) → arms_for plan (world plan h).views p.stage ≡ x → Found plan h line t p.stage
    go None e = unarmed plan h line t p e
    go (Some ms) e = armed plan h line t ms p e

pub found : (plan : Plan) (h : List Line) (line : Line) (t : ℕ) → Permits plan h (at_time line t) → IsPermittedAt plan h line t (moments plan h line)
found plan h line t p =
    let stands : stage_at plan (world plan h) line.actor ≡ Some p.stage = p.stands in
    rw stands (found_at plan h line t p)

pub some_time : (plan : Plan) (h : List Line) (line : Line) (t : ℕ) (l : List ℕ) → IsPermittedAt plan h line t l → IsPermittedSometime plan h line
some_time plan h line t [] p = elim p [ ]
some_time plan h line t (u ∷ rest) (inl p) = (u, p.1)
some_time plan h line t (u ∷ rest) (inr p) = some_time plan h line t rest p
