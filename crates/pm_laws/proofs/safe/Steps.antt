-- What a device needs before a line and after it.
use Rattle.std.proofs.Common.{ℕ, ◌≡◌, ◌+◌, ◌<◌, ◌≤◌, inl, inr, Bool, true, false, not, ◌&&◌, [], ◌∷◌, Option, Some, None, length, ap, refl, sym, ◌∙◌, subst, arith}
use Rattle.std.specs.Prelude.{◌||◌}
use Rattle.std.specs.Option.{unwrap_or}
use Rattle.std.proofs.lemmas.Bool.{eqb-true, false≢true}
use Rattle.pm_base.specs.declared.DevId.{DevId}
use Rattle.pm_base.specs.declared.Status.{Status}
use Rattle.pm_base.specs.declared.Status.TheVariants as status
use Rattle.pm_model.specs.declared.event.Line.{Line}
use Rattle.pm_model.specs.declared.plan.Plan.{Plan}
use Rattle.pm_model.specs.Counted.{is_same}
use Rattle.pm_model.specs.Derived.{is_active, is_suspended, is_moving, is_active_status, is_suspended_status, is_suspending_status, is_resuming_status}
use Rattle.pm_model.specs.History.{History}
use Rattle.pm_model.specs.Views.{Views, device}
use Rattle.pm_model.specs.World.{World, world}
use Rattle.pm_laws.specs.counts.Sums.{one, tally}
use Rattle.pm_laws.specs.counts.Owners.{places}
use Rattle.pm_laws.proofs.counts.Runs.{Holds, start_status, start_tally}
use Rattle.pm_laws.specs.safe.Parts.{Phase, suspending, lowering, giving, preparing, ready, resuming, resumed, failed, falling, setting, part_at, counts, at_part, passes, any_phase, Falls}
use Rattle.pm_laws.specs.safe.Kinds.{Kind, begins_suspend, ends_suspend, fails_suspend, lowers_domain, gives_link, resumes_quiet, enters, sets_active, raises_domain, begins_resume, begins_at_once, ends_resume, fails_resume, resumes, forces_again, forces_bare, forces_held, dev_of, from, to, old, new, turn, turned, says, Guard, lowers, lets_go}
use Rattle.pm_laws.specs.safe.LineKind.{HasKind}
use Rattle.pm_laws.specs.safe.Needs.{Needs}
use Rattle.pm_laws.proofs.safe.Owners.{one_most, some_parts, owners_are}
use Rattle.pm_laws.proofs.safe.Refusals.{rests_so}

pub differ : {A : Type 0} {b : Bool} → b ≡ true → b ≡ false → A
differ p q = absurd (false≢true (sym q ∙ p))

pub same_is : (c d : DevId) → is_same c d ≡ true → d ≡ c
same_is c d b = ap (λ n. let x : DevId = record { 0 = n } in x) (eqb-true d.0 c.0 b)

-- the device of a line, and every other
pub own_counts : (test : Phase → Bool) (c d : DevId) (x : Option Phase) → is_same c d ≡ true → counts test c (part_at d x) ≡ passes test x
own_counts test c d None m = refl
own_counts test c d (Some x) m = rw m refl

pub other_counts : (test : Phase → Bool) (c d : DevId) (x : Option Phase) → is_same c d ≡ false → counts test c (part_at d x) ≡ 0
other_counts test c d None m = refl
other_counts test c d (Some x) m = rw m refl

own_turn : (o : Option Status) (b : Bool) → b ≡ true → turned o b ≡ o
own_turn None b m = refl
own_turn (Some s) b m = rw m refl

other_turn : (o : Option Status) (b : Bool) → b ≡ false → turned o b ≡ None
other_turn None b m = refl
other_turn (Some s) b m = rw m refl

-- where it is Active, and at each stage of a phase that passes the test
abbrev pub need : (Phase → Bool) → World → DevId → ℕ
need test w d = one (is_active w.views d) + tally (at_part test d) (places w)

-- the need of a line's device doesn't rise
abbrev pub Least : (Phase → Bool) → Kind → Status → Type 0
Least test k st = one (is_active_status (unwrap_or (turn k) st)) + passes test (to k) ≤ one (is_active_status st) + passes test (from k)

-- nor then that of any device
pub least_at : (test : Phase → Bool) (k : Kind) (c : DevId) (st : Status) (x : ℕ) → (is_same c (dev_of k) ≡ true → Least test k st)
    → one (is_active_status (unwrap_or (says k c) st)) + (counts test c (new k) + x) ≤ one (is_active_status st) + (counts test c (old k) + x)
least_at test k c st x least = go (is_same c (dev_of k)) refl
  where
    go : (m : Bool) → is_same c (dev_of k) ≡ m → one (is_active_status (unwrap_or (says k c) st)) + (counts test c (new k) + x) ≤ one (is_active_status st) + (counts test c (old k) + x)
    go true m =
        let after = own_counts test c (dev_of k) (to k) m in
        let before = own_counts test c (dev_of k) (from k) m in
        let turns : one (is_active_status (unwrap_or (says k c) st)) ≡ one (is_active_status (unwrap_or (turn k) st)) = ap (λ o. one (is_active_status (unwrap_or o st))) (own_turn (turn k) (is_same c (dev_of k)) m) in
        let le = least m in omega arith
    go false m =
        let after = other_counts test c (dev_of k) (to k) m in
        let before = other_counts test c (dev_of k) (from k) m in
        let turns : one (is_active_status (unwrap_or (says k c) st)) ≡ one (is_active_status st) = ap (λ o. one (is_active_status (unwrap_or o st))) (other_turn (turn k) (is_same c (dev_of k)) m) in
        omega arith

-- what all needs have in common: they begin before the callbacks and last over them, and nothing is needed where links
-- are given back
pub record IsNeed (test : Phase → Bool) : Type 0 where
  pub suspending : test suspending ≡ true
  pub ready : test ready ≡ true
  pub resuming : test resuming ≡ true
  pub resumed : test resumed ≡ true
  pub lets_go : (x : Phase) → lets_go x ≡ true → test x ≡ false
  pub falls : Falls test

-- the kinds of lines with which a need may begin
abbrev pub may_rise : (Phase → Bool) → Kind → Bool
may_rise test (resumes_quiet d) = true
may_rise test (forces_bare d) = true
may_rise test (forces_held d) = not (test setting)
may_rise test (enters d) = test preparing
may_rise test (sets_active d) = test setting
may_rise test (raises_domain d n) = not (test preparing)
may_rise test (begins_at_once d) = not (test preparing)
may_rise test _ = false

lowered : (x y : Phase) → lowers x y ≡ true → lets_go y ≡ true
lowered lowering giving e = refl
lowered failed falling e = refl
lowered _ _ e = cc

off : (b : Bool) → not b ≡ false → b ≡ true
off true e = refl
off false e = cc

pub kind_least : (plan : Plan) (v : Views) (test : Phase → Bool) (k : Kind) → IsNeed test → Guard plan v k → may_rise test k ≡ false
    → Least test k (device v (dev_of k)).status
kind_least plan v test (begins_suspend d) n g e = omega (arith, ap one (rests_so plan v d g).active, ap one n.suspending)
kind_least plan v test (ends_suspend d c) n g e = omega (arith, ap one n.suspending, one_most (test lowering))
kind_least plan v test (fails_suspend d c) n g e = omega (arith, ap one n.suspending)
kind_least plan v test (lowers_domain d m x y) n g e = omega (arith, ap one (n.lets_go y (lowered x y g)))
kind_least plan v test (gives_link d s x y) n g e = omega (arith, ap one (n.lets_go y g.1))
kind_least plan v test (enters d) n g e = omega (arith, ap one e)
kind_least plan v test (sets_active d) n g e = omega (arith, ap one e)
kind_least plan v test (raises_domain d m) n g e = omega (arith, ap one n.ready, ap one (off (test preparing) e))
kind_least plan v test (begins_resume d) n g e = omega (arith, ap one n.ready, ap one n.resuming)
kind_least plan v test (begins_at_once d) n g e = omega (arith, ap one n.resuming, ap one (off (test preparing) e))
kind_least plan v test (ends_resume d c) n g e = omega (arith, ap one n.resuming, ap one n.resumed)
kind_least plan v test (fails_resume d c) n g e = omega (arith, ap one n.resuming, one_most (test failed))
kind_least plan v test (resumes d) n g e = omega (arith, ap one n.resumed)
kind_least plan v test (forces_again d) n g e = omega (arith, ap one g)
kind_least plan v test (forces_held d) n g e = omega (arith, ap one (off (test setting) e))
kind_least plan v test (resumes_quiet d) n g e = cc
kind_least plan v test (forces_bare d) n g e = cc
kind_least plan v test _ n g e = omega arith

pub least_own : (plan : Plan) (v : Views) (test : Phase → Bool) (k : Kind) (c : DevId) → IsNeed test → Guard plan v k → may_rise test k ≡ false
    → is_same c (dev_of k) ≡ true → Least test k (device v c).status
least_own plan v test k c n g e m = subst (λ d. Least test k (device v d).status) (same_is c (dev_of k) m) (kind_least plan v test k n g e)

-- where a device is forced to Active that was so, nothing begins
pub forced : (m : Bool) (st : Status) → m && not (is_active_status st) ≡ false → m ≡ true → is_active_status st ≡ true
forced m st e q = go m (is_active_status st) e q
  where
    go : (a b : Bool) → a && not b ≡ false → a ≡ true → b ≡ true
    go true true e q = refl
    go true false e q = cc
    go false b e q = cc

-- a Suspended device needs nothing
asleep : (st : Status) (a b : ℕ) → is_suspended_status st ≡ true → a ≤ b → one (is_suspending_status st) + one (is_resuming_status st) ≡ b → one (is_active_status st) + a ≡ 0
asleep status.Suspended a b e le is = omega arith
asleep status.Active a b e le is = cc
asleep status.Suspending a b e le is = cc
asleep status.Resuming a b e le is = cc

pub sleeps : (plan : Plan) (w : World) (d : DevId) (test : Phase → Bool) → Holds plan w → d.0 < length plan.devices → is_suspended w.views d ≡ true → need test w d ≡ 0
sleeps plan w d test holds within s = asleep (device w.views d).status _ _ s (some_parts test d (places w)) (owners_are plan w d holds.owners within)

-- how many own the device of a status, at the stage that writes and at all others
abbrev pub Owned : Status → ℕ → ℕ → Type 0
Owned st o y = one (is_suspending_status st) + one (is_resuming_status st) ≡ o + y

-- an owner has all to itself
pub record IsAlone (st : Status) (x : ℕ) : Type 0 where
  pub others : x ≡ 0
  pub inactive : is_active_status st ≡ false
  pub awake : is_suspended_status st ≡ false

pub alone : (st : Status) (o x y : ℕ) → o ≡ 1 → Owned st o y → x ≤ y → IsAlone st x
alone status.Active o x y is e le = absurd (omega arith)
alone status.Suspended o x y is e le = absurd (omega arith)
alone status.Suspending o x y is e le = record { others = omega arith; inactive = refl; awake = refl }
alone status.Resuming o x y is e le = record { others = omega arith; inactive = refl; awake = refl }

-- nobody owns a device that stands
pub nobody : (st : Status) (o x y : ℕ) → is_suspending_status st || is_resuming_status st ≡ false → Owned st o y → x ≤ y → x ≡ 0
nobody status.Active o x y s e le = omega arith
nobody status.Suspended o x y s e le = omega arith
nobody status.Suspending o x y s e le = cc
nobody status.Resuming o x y s e le = cc

pub owned_at : (plan : Plan) (h : History) (line : Line) (k : HasKind plan h line) (c : DevId) → Holds plan (world plan h) → c.0 < length plan.devices
    → Owned (device (world plan h).views c).status (counts any_phase c (old k.kind)) (tally (at_part any_phase c) k.others)
owned_at plan h line k c holds within = owners_are plan (world plan h) c holds.owners within ∙ k.was any_phase c

-- the owner of its device writes
pub own_one : (k : Kind) (c : DevId) (x : Phase) → from k ≡ Some x → is_same c (dev_of k) ≡ true → counts any_phase c (old k) ≡ 1
own_one k c x is m = own_counts any_phase c (dev_of k) (from k) m ∙ ap (passes any_phase) is

-- need after a line, beside all stages that stay
pub need_now : (plan : Plan) (h : History) (line : Line) (k : HasKind plan h line) (test : Phase → Bool) (c : DevId) → Falls test → c.0 < length plan.devices
    → need test (world plan (line ∷ h)) c ≤ one (is_active_status (unwrap_or (says k.kind c) (device (world plan h).views c).status)) + (counts test c (new k.kind) + tally (at_part test c) k.others)
need_now plan h line k test c falls within =
    let now = ap (λ s. one (is_active_status s)) (k.status c within) in
    let parts = k.falls test c falls in omega arith

pub need_then : (plan : Plan) (h : History) (line : Line) (k : HasKind plan h line) (test : Phase → Bool) (c : DevId)
    → need test (world plan h) c ≡ one (is_active (world plan h).views c) + (counts test c (old k.kind) + tally (at_part test c) k.others)
need_then plan h line k test c = ap (λ n. one (is_active (world plan h).views c) + n) (k.was test c)

-- an owner that needs nothing after its line has all to itself
pub owner_rests : (plan : Plan) (h : History) (line : Line) (k : HasKind plan h line) (test : Phase → Bool) (c : DevId) (x : Phase) → Holds plan (world plan h) → Falls test
    → c.0 < length plan.devices → from k.kind ≡ Some x → is_same c (dev_of k.kind) ≡ true → turn k.kind ≡ None → passes test (to k.kind) ≡ 0
    → need test (world plan (line ∷ h)) c ≡ 0
owner_rests plan h line k test c x holds falls within owner m silent light =
    let st : Status = (device (world plan h).views c).status in
    let a = alone st _ (tally (at_part test c) k.others) _ (own_one k.kind c x owner m) (owned_at plan h line k c holds within) (some_parts test c k.others) in
    let still : one (is_active_status (unwrap_or (says k.kind c) st)) ≡ one (is_active_status st) = rw silent refl in
    let parts = own_counts test c (dev_of k.kind) (to k.kind) m in
    omega (arith, need_now plan h line k test c falls within, a.others, ap one a.inactive)

-- nor does a device that stood, and that the line turns to another status than Active, need anything
pub starter_rests : (plan : Plan) (h : History) (line : Line) (k : HasKind plan h line) (test : Phase → Bool) (c : DevId) (turned_to : Status) → Holds plan (world plan h) → Falls test
    → c.0 < length plan.devices → is_same c (dev_of k.kind) ≡ true → is_moving (world plan h).views c ≡ false → turn k.kind ≡ Some turned_to → is_active_status turned_to ≡ false
    → passes test (to k.kind) ≡ 0 → need test (world plan (line ∷ h)) c ≡ 0
starter_rests plan h line k test c turned_to holds falls within m stands turns down light =
    let st : Status = (device (world plan h).views c).status in
    let none = nobody st _ (tally (at_part test c) k.others) _ stands (owned_at plan h line k c holds within) (some_parts test c k.others) in
    let turns_down : one (is_active_status (unwrap_or (says k.kind c) st)) ≡ 0 = rw (turns, m) (ap one down) in
    let parts = own_counts test c (dev_of k.kind) (to k.kind) m in
    omega (arith, need_now plan h line k test c falls within)

-- before any line nothing is needed
pub start_need : (plan : Plan) (test : Phase → Bool) (c : DevId) → need test (world plan []) c ≡ 0
start_need plan test c =
    let none = start_tally plan (at_part test c) in
    let down = ap (λ x. one (is_active_status x)) (start_status plan.devices c.0) in omega arith

-- a need is a device that is Active, or a stage
pub needs_some : (w : World) (test : Phase → Bool) (d : DevId) → Needs w test d → need test w d ≡ 0 → ⊥
needs_some w test d (inl up) none = let one_up = ap one up in absurd (omega arith)
needs_some w test d (inr some) none = absurd (omega arith)
