-- The lines of the list are what comes next at a pace.
use Rattle.std.proofs.Common.{ℕ, zero, suc, ◌≡◌, ◌≤◌, ◌<◌, ◌+◌, ◌||◌, ◌⊎◌, inl, inr, Bool, true, false, not, List, [], ◌∷◌, ◌++◌, length, map, option_map, Option, Some, None, nat_abs, nat_eq, nat_lt, slice_get, pos, refl, sym, subst, ◌∙◌, ap, arith, if◌then◌else◌, ◌&&◌, int_le}
use Rattle.std.proofs.lemmas.Bool.{cases_lt}
use Rattle.std.proofs.lemmas.Bool.Decides.{nat_tests}
use Rattle.std.proofs.lemmas.Option.{get_or_from_slice_get, slice_get-get_or, slice_get-map, slice_get_within}
use Rattle.std.specs.List.{Contains, cons_option, enumerate_from, filter_map, flat_map}
use Rattle.std.specs.Option.{option_and_then}
use Rattle.pm_base.specs.declared.ActorId.{ActorId}
use Rattle.pm_base.specs.declared.DevId.{DevId}
use Rattle.pm_laws.specs.counts.Sizes.{HasEntries, HasPlaces}
use Rattle.pm_model.specs.declared.event.Event.{Event}
use Rattle.pm_model.specs.declared.event.Line.{Line}
use Rattle.pm_model.specs.declared.plan.Plan.{Plan}
use Rattle.pm_model.specs.declared.stage.Move.{Move}
use Rattle.pm_model.specs.declared.stage.Move.TheVariants.{Write}
use Rattle.pm_model.specs.declared.stage.Stage.{Stage}
use Rattle.pm_model.specs.declared.stage.Stage.TheVariants as stage
use Rattle.pm_model.specs.declared.stage.SuspendStage.TheVariants as suspend
use Rattle.pm_model.specs.declared.views.Device.{Device}
use Rattle.pm_model.specs.Derived.{expiry}
use Rattle.pm_model.specs.Views.{Views, device, fresh_device}
use Rattle.pm_model.specs.World.{move, stage_at}
use Rattle.pm_explore.specs.declared.schedule.Pace.{Pace}
use Rattle.pm_explore.specs.declared.schedule.Pace.TheVariants.{Late, Eager}
use Rattle.pm_explore.specs.schedule.Snapshots.{Follows, IsTimely, MayFollow, Snapshot, after, all_actors, busy_marks, preempts, due_moment, due_moments, expiry_at, moments}
use Rattle.pm_explore.specs.search.Exact.{HasExactly}
use Rattle.pm_explore.specs.successors.Lines.{IsMoment, IsNext, comes, is_at, is_kind, line_for, lines_at, observations}
use Rattle.pm_explore.proofs.successors.Busy.{observations_differ, observations_same}
use Rattle.pm_explore.proofs.successors.Found.{IsFound, finds, found, observations_after, some_is}
use Rattle.pm_explore.proofs.successors.Places.{IsIn, IsSized, each_row, in_left, in_plan, in_right, past, within}

-- what a filter gives, and what it is given
in_filter : {A B : Type 0} (f : A → Option B) (xs : List A) (i : ℕ) (y : B) → slice_get (filter_map f xs) i ≡ Some y → (j : ℕ) × (x : A) × (slice_get xs j ≡ Some x) × (f x ≡ Some y)
in_filter f [] i y is = cc is
in_filter {A = A} {B = B} f (x ∷ xs) i y is = go (f x) refl (λ k e. let rest = in_filter f xs k y e in (suc rest.0, rest.1, rest.2, rest.3)) i is
  where
    go : (o : Option B) → f x ≡ o → ((k : ℕ) → slice_get (filter_map f xs) k ≡ Some y → (j : ℕ) × (z : A) × (slice_get (x ∷ xs) j ≡ Some z) × (f z ≡ Some y)) → (i : ℕ) → slice_get (cons_option o (filter_map f xs)) i ≡ Some y
        → (j : ℕ) × (z : A) × (slice_get (x ∷ xs) j ≡ Some z) × (f z ≡ Some y)
    go None e rest i is = rest i is
    go (Some z) e rest zero is = (0, x, refl, e ∙ is)
    go (Some z) e rest (suc i) is = rest i is

pub filtered : {A B : Type 0} (f : A → Option B) (xs : List A) (y : B) → Contains (filter_map f xs) y → (x : A) × (f x ≡ Some y)
filtered f xs y there = let from = in_filter f xs there.0 y (slice_get-get_or (filter_map f xs) there.0 y there.1 ∙ ap Some there.2) in (from.1, from.3)

to_filter : {A B : Type 0} (f : A → Option B) (xs : List A) (i : ℕ) (x : A) (y : B) → slice_get xs i ≡ Some x → f x ≡ Some y → IsIn (filter_map f xs) y
to_filter f [] i x y is e = cc is
to_filter f (z ∷ xs) zero x y is e =
    let same : z ≡ x = some_is z x is in
    subst (λ o. IsIn (cons_option o (filter_map f xs)) y) (sym (ap f same ∙ e)) (0, refl)
to_filter {A = A} {B = B} f (z ∷ xs) (suc i) x y is e = go (f z) (to_filter f xs i x y is e)
  where
    go : (o : Option B) → IsIn (filter_map f xs) y → IsIn (cons_option o (filter_map f xs)) y
    go None there = there
    go (Some w) there = (suc there.0, there.1)

in_append : {A : Type 0} (xs ys : List A) (i : ℕ) (x : A) → slice_get (xs ++ ys) i ≡ Some x → IsIn xs x ⊎ IsIn ys x
in_append [] ys i x is = inr (i, is)
in_append (y ∷ xs) ys zero x is = inl (0, is)
in_append (y ∷ xs) ys (suc i) x is = elim (in_append xs ys i x is) [ inl l ↦ inl (suc l.0, l.1) | inr r ↦ inr r ]

-- what the lists of some items have together
in_flat : {A B : Type 0} (f : A → List B) (xs : List A) (i : ℕ) (y : B) → slice_get (flat_map f xs) i ≡ Some y → (j : ℕ) × (x : A) × (slice_get xs j ≡ Some x) × IsIn (f x) y
in_flat f [] i y is = cc is
in_flat f (x ∷ xs) i y is = elim (in_append (f x) (flat_map f xs) i y is) [
  | inl l ↦ (0, x, refl, l)
  | inr r ↦ let rest = in_flat f xs r.0 y r.1 in (suc rest.0, rest.1, rest.2, rest.3)
]

to_flat : {A B : Type 0} (f : A → List B) (xs : List A) (j : ℕ) (x : A) (y : B) → slice_get xs j ≡ Some x → IsIn (f x) y → IsIn (flat_map f xs) y
to_flat f [] j x y is there = cc is
to_flat f (z ∷ xs) zero x y is there =
    let same : x ≡ z = some_is x z (sym is) in
    let here = subst (λ w. IsIn (f w) y) same there in
    (here.0, in_left (f z) (flat_map f xs) here.0 y here.1)
to_flat f (z ∷ xs) (suc j) x y is there = in_right (f z) (flat_map f xs) y (to_flat f xs j x y is there)

kind_is : (spends d : Bool) → is_kind spends d ≡ true → d ≡ spends
kind_is true d is = is
kind_is false true is = cc is
kind_is false false is = refl

is_kind_of : (spends d : Bool) → d ≡ spends → is_kind spends d ≡ true
is_kind_of true d is = is
is_kind_of false d is = ap not is

-- which of the ways to come is the line's, where it is later
one_of : (later a b c : Bool) → later ≡ true → (not later || a || b || c) ≡ true → (a ≡ true) ⊎ (b ≡ true) ⊎ (c ≡ true)
one_of false a b c lt is = cc lt
one_of true true b c lt is = inl refl
one_of true false true c lt is = inr (inl refl)
one_of true false false c lt is = inr (inr is)

by_now : (later a b c : Bool) → later ≡ false → (not later || a || b || c) ≡ true
by_now true a b c is = cc is
by_now false a b c is = refl

by_due : (later a b c : Bool) → a ≡ true → (not later || a || b || c) ≡ true
by_due false a b c is = refl
by_due true false b c is = cc is
by_due true true b c is = refl

by_test : (later a b c : Bool) → b ≡ true → (not later || a || b || c) ≡ true
by_test false a b c is = refl
by_test true true b c is = refl
by_test true false false c is = cc is
by_test true false true c is = refl

by_observation : (later a b c : Bool) → c ≡ true → (not later || a || b || c) ≡ true
by_observation false a b c is = refl
by_observation true true b c is = refl
by_observation true false true c is = refl
by_observation true false false c is = is

at_is : (t : ℕ) (o : Option ℕ) → is_at t o ≡ true → o ≡ Some t
at_is t None is = cc is
at_is t (Some n) is = let same : n ≡ t = grind (arith, nat_tests) in ap Some same

is_at_of : (t : ℕ) (o : Option ℕ) → o ≡ Some t → is_at t o ≡ true
is_at_of t o is = let itself : nat_eq t t ≡ true = grind (arith, nat_tests) in ap (is_at t) is ∙ itself

has : {A : Type 0} (xs : List A) (x : A) → IsIn xs x → Contains xs x
has xs x there = (there.0, slice_get_within xs there.0 x there.1, get_or_from_slice_get xs there.0 x x there.1)

-- whether a line leaves a device with another observation
observations_tell : (plan : Plan) (s : Snapshot) (line : Line) → (m : MayFollow plan s line) → observations plan s.world.views line.time line.event m.change ≡ true → busy_marks (after plan s line).world ≡ busy_marks s.world → ⊥
observations_tell plan s line m some same = observations_differ plan line.time line.event m.change s.world.views some (sym (observations_after plan s line m) ∙ same)

observations_told : (plan : Plan) (s : Snapshot) (line : Line) → (m : MayFollow plan s line) → (busy_marks (after plan s line).world ≡ busy_marks s.world → ⊥) → observations plan s.world.views line.time line.event m.change ≡ true
observations_told plan s line m differ = go (observations plan s.world.views line.time line.event m.change) refl
  where
    go : (b : Bool) → observations plan s.world.views line.time line.event m.change ≡ b → b ≡ true
    go true is = refl
    go false is = absurd (differ (observations_after plan s line m ∙ observations_same plan line.time line.event m.change s.world.views is))

-- a line that comes at a moment of the pace is timely
timely_of : (pace : Pace) (plan : Plan) (s : Snapshot) (line : Line) → (m : MayFollow plan s line) → IsMoment pace plan s line.time → comes pace plan s line m.change ≡ true → IsTimely pace plan s line
timely_of Eager plan s line m moment is = moment
timely_of Late plan s line m moment is = go (nat_lt s.time line.time) refl
  where
    among : IsMoment Late plan s line.time → s.time < line.time → Contains (moments plan s) line.time
    among (inl now) later = absurd (omega (arith, now, later))
    among (inr there) later = there.1

    path : nat_lt s.time line.time ≡ true
        → (is_at line.time (due_moment plan s line.actor) ≡ true) ⊎ (is_at line.time (option_and_then (expiry_at s.world.views) (stage_at plan s.world line.actor)) ≡ true) ⊎ (observations plan s.world.views line.time line.event m.change ≡ true)
    path lt =
        one_of (nat_lt s.time line.time) (is_at line.time (due_moment plan s line.actor)) (is_at line.time (option_and_then (expiry_at s.world.views) (stage_at plan s.world line.actor)))
        (observations plan s.world.views line.time line.event m.change) lt is

    go : (b : Bool) → nat_lt s.time line.time ≡ b → IsTimely Late plan s line
    go false no_later = let le = m.in_time in inl (grind (arith, nat_tests, le))
    go true lt =
        let later : s.time < line.time = grind (arith, nat_tests) in
        elim (path lt) [
          | inl due ↦ inr (inl (at_is line.time (due_moment plan s line.actor) due))
          | inr rest ↦ elim rest [
            | inl at ↦ inr (inr (inl (later, at_is line.time (option_and_then (expiry_at s.world.views) (stage_at plan s.world line.actor)) at)))
            | inr marked ↦ inr (inr (inr (later, among moment later, observations_tell plan s line m marked)))
          ]
        ]

comes_so : (pace : Pace) (plan : Plan) (s : Snapshot) (line : Line) → (m : MayFollow plan s line) → IsTimely pace plan s line → comes pace plan s line m.change ≡ true
comes_so Eager plan s line m is = refl
comes_so Late plan s line m is = go is
  where
    go : IsTimely Late plan s line → comes Late plan s line m.change ≡ true
    go timely =
        let later : Bool = nat_lt s.time line.time in
        let due : Bool = is_at line.time (due_moment plan s line.actor) in
        let tests : Bool = is_at line.time (option_and_then (expiry_at s.world.views) (stage_at plan s.world line.actor)) in
        let marked : Bool = observations plan s.world.views line.time line.event m.change in
        elim timely [
          | inl now ↦ by_now later due tests marked (grind (arith, nat_tests))
          | inr rest ↦ elim rest [
            | inl at ↦ by_due later due tests marked (is_at_of line.time (due_moment plan s line.actor) at)
            | inr others ↦ elim others [
              | inl at ↦ by_test later due tests marked (is_at_of line.time (option_and_then (expiry_at s.world.views) (stage_at plan s.world line.actor)) at.1)
              | inr at ↦ by_observation later due tests marked (observations_told plan s line m at.2)
            ]
          ]
        ]

-- a device that has an expiry is one of the plan's
expires_within : (plan : Plan) (v : Views) (d : DevId) (t : ℕ) → HasEntries plan v → expiry v d ≡ Some t → d.0 < length plan.devices
unfolding expiry
expires_within plan v d t entries is = within plan.devices d.0 (λ le. gone le)
  where
    gone : length plan.devices ≤ d.0 → ⊥
    gone le =
        let fresh : device v d ≡ fresh_device = past v.devices d.0 fresh_device (omega (arith, entries.devices, le)) in
        let none : None ≡ Some t = sym (ap (λ (x : Device). if x.use_auto && int_le (pos 0) x.delay then Some (x.last_busy + nat_abs x.delay) else None) fresh) ∙ is in
        cc none

-- the moments at which the tests of a suspend are told apart, and at which others come, are moments of the pace
tested : (plan : Plan) (s : Snapshot) (d : DevId) (t : ℕ) → HasEntries plan s.world.views → expiry s.world.views d ≡ Some t → Contains (moments plan s) t
tested plan s d t entries is =
    let row = each_row plan.devices d.0 (expires_within plan s.world.views d t entries is) in
    let at = to_filter (λ p. expiry s.world.views (record { 0 = p.0 })) (enumerate_from 0 plan.devices) row.0 row.1 t row.2 (ap (λ n. expiry s.world.views (record { 0 = n })) row.3 ∙ is) in
    has (moments plan s) t (in_right (due_moments plan s) _ t at)

due_there : (plan : Plan) (s : Snapshot) (actor : ActorId) (st : Stage) (t : ℕ) → IsSized plan s.world → stage_at plan s.world actor ≡ Some st → due_moment plan s actor ≡ Some t → Contains (moments plan s) t
due_there plan s actor st t sized stands is =
    let at = in_plan plan s.world actor st sized stands in
    let there = to_filter (due_moment plan s) (all_actors plan) at.0 actor t at.1 is in
    has (moments plan s) t (there.0, in_left (due_moments plan s) _ there.0 t there.1)

by_stage : (plan : Plan) (s : Snapshot) (t : ℕ) (o : Option Stage) → HasEntries plan s.world.views → option_and_then (expiry_at s.world.views) o ≡ Some t → Contains (moments plan s) t
by_stage plan s t None entries is = cc is
by_stage plan s t (Some (stage.Suspend (suspend.Verdict d f))) entries is = tested plan s d t entries is
by_stage plan s t (Some (stage.Suspend (suspend.Waiting d f))) entries is = tested plan s d t entries is
by_stage plan s t (Some _) entries is = cc is

pub moment_of : (pace : Pace) (plan : Plan) (s : Snapshot) (line : Line) → IsSized plan s.world → MayFollow plan s line → IsTimely pace plan s line → IsMoment pace plan s line.time
moment_of Eager plan s line sized m is = is
moment_of Late plan s line sized m is = elim (cases_lt s.time line.time) [
  | inr now ↦ let le = m.in_time in inl (omega (arith, now, le))
  | inl later ↦ elim is [
    | inl now ↦ inl now
    | inr rest ↦ elim rest [
      | inl due ↦ inr (later, due_there plan s line.actor m.stage line.time sized m.stands due)
      | inr others ↦ elim others [
        | inl at ↦ inr (later, by_stage plan s line.time (stage_at plan s.world line.actor) sized.entries at.1)
        | inr at ↦ inr (later, at.1)
      ]
    ]
  ]
]

next_of : (pace : Pace) (plan : Plan) (s : Snapshot) (spends : Bool) (t : ℕ) (line : Line) → IsMoment pace plan s t → IsFound pace plan s spends t line → IsNext pace plan s spends line
next_of pace plan s spends t line moment f =
    record { may = f.may; timely = timely_of pace plan s line f.may (subst (IsMoment pace plan s) (sym f.at) moment) f.comes; kind = kind_is spends (preempts plan s line) f.kind }

sound : (pace : Pace) (plan : Plan) (s : Snapshot) (spends : Bool) (times : List ℕ) (i : ℕ) (line : Line) → HasExactly (IsMoment pace plan s) times → slice_get (lines_at pace plan s spends times) i ≡ Some line → IsNext pace plan s spends line
sound pace plan s spends times i line exact is =
    let who = in_flat (λ actor. filter_map (λ t. line_for pace plan s spends t actor) times) (all_actors plan) i line is in
    let when = in_filter (λ t. line_for pace plan s spends t who.1) times who.3.0 line who.3.1 in
    next_of pace plan s spends when.1 line (exact.sound when.0 when.1 when.2) (found pace plan s spends who.1 when.1 line when.3)

listed : (pace : Pace) (plan : Plan) (s : Snapshot) (spends : Bool) (times : List ℕ) (line : Line) → IsSized plan s.world → HasExactly (IsMoment pace plan s) times → IsNext pace plan s spends line → IsIn (lines_at pace plan s spends times) line
listed pace plan s spends times line sized exact is =
    let when = exact.complete line.time (moment_of pace plan s line sized is.may is.timely) in
    let who = in_plan plan s.world line.actor is.may.stage sized is.may.stands in
    let gives = finds pace plan s spends line is.may (is_kind_of spends (preempts plan s line) is.kind) (comes_so pace plan s line is.may is.timely) in
    let there = to_filter (λ t. line_for pace plan s spends t line.actor) times when.place line.time line when.there gives in
    to_flat (λ actor. filter_map (λ t. line_for pace plan s spends t actor) times) (all_actors plan) who.0 line.actor line who.1 there

pub all_next : (pace : Pace) (plan : Plan) (s : Snapshot) (spends : Bool) (times : List ℕ) → HasEntries plan s.world.views → HasPlaces plan s.world → HasExactly (IsMoment pace plan s) times → HasExactly (IsNext pace plan s spends) (lines_at pace plan s spends times)
all_next pace plan s spends times entries places exact = record {
  sound = λ i line is. sound pace plan s spends times i line exact is;
  complete = λ line is.
      let there = listed pace plan s spends times line (record { entries = entries; places = places }) exact is in
      record { place = there.0; below = slice_get_within (lines_at pace plan s spends times) there.0 line there.1; there = there.1 };
}

-- and they lead to what follows
all_follow_to : (pace : Pace) (plan : Plan) (s : Snapshot) (spends : Bool) (lines : List Line) (i : ℕ) (to : Snapshot) → HasExactly (IsNext pace plan s spends) lines → slice_get (map (after plan s) lines) i ≡ Some to → Follows pace plan spends s to
all_follow_to pace plan s spends lines i to exact is = go (slice_get lines i) refl (sym (slice_get-map (after plan s) lines i) ∙ is)
  where
    go : (o : Option Line) → slice_get lines i ≡ o → option_map (after plan s) o ≡ Some to → Follows pace plan spends s to
    go None e there = cc there
    go (Some line) e there =
        let next = exact.sound i line e in
        subst (Follows pace plan spends s) (some_is (after plan s line) to there) (record { line = line; may = next.may; timely = next.timely; preempts_is = next.kind; leads = refl })

pub all_follow : (pace : Pace) (plan : Plan) (s : Snapshot) (spends : Bool) (lines : List Line) → HasExactly (IsNext pace plan s spends) lines → HasExactly (Follows pace plan spends s) (map (after plan s) lines)
all_follow pace plan s spends lines exact = record {
  sound = λ i to is. all_follow_to pace plan s spends lines i to exact is;
  complete = λ to f.
      let at = exact.complete f.line (record { may = f.may; timely = f.timely; kind = f.preempts_is }) in
      let there : slice_get (map (after plan s) lines) at.place ≡ Some to = slice_get-map (after plan s) lines at.place ∙ ap (option_map (after plan s)) at.there ∙ ap Some (sym f.leads) in
      record { place = at.place; below = slice_get_within (map (after plan s) lines) at.place to there; there = there };
}

-- two lines of one actor and time that may come next are the same
event_in : Option Move → Option Event
event_in (Some (Write e c next)) = Some e
event_in _ = None

pub one_line : (plan : Plan) (s : Snapshot) (a b : Line) → MayFollow plan s a → MayFollow plan s b → a.actor ≡ b.actor → a.time ≡ b.time → a ≡ b
unfolding event_in
one_line plan s a b p q actors times =
    let stages : p.stage ≡ q.stage = some_is p.stage q.stage (sym p.stands ∙ ap (stage_at plan s.world) actors ∙ q.stands) in
    let moves : move plan s.world.views p.stage a.time ≡ move plan s.world.views q.stage b.time = λ i. move plan s.world.views (stages i) (times i) in
    let events : a.event ≡ b.event = some_is a.event b.event (ap event_in (sym p.gives ∙ moves ∙ q.gives)) in
    λ i. record { time = times i; actor = actors i; event = events i }
