-- A resume that is pending for a link has its consumer at a stage that takes links; so none is pending for a live device.
use Rattle.std.proofs.Common.{ℕ, ◌≡◌, ◌+◌, ◌<◌, ◌≤◌, ◌⊎◌, inl, inr, Bool, true, false, not, ◌&&◌, List, [], ◌∷◌, Option, Some, length, nat_eq, ap, refl, sym, ◌∙◌, arith}
use Rattle.std.specs.Prelude.{◌||◌}
use Rattle.std.specs.List.{sum_by}
use Rattle.std.proofs.lemmas.Bool.Decides.{eqb_tells}
use Rattle.std.proofs.lemmas.List.Sums.{sum_by-cons}
use Rattle.pm_base.specs.declared.Cb.{Cb}
use Rattle.pm_base.specs.declared.Cb.TheVariants as cb
use Rattle.pm_base.specs.declared.DevId.{DevId}
use Rattle.pm_model.specs.declared.plan.Plan.{Plan}
use Rattle.pm_model.specs.declared.stage.Await.{Await}
use Rattle.pm_model.specs.declared.stage.Await.TheVariants as await
use Rattle.pm_model.specs.declared.stage.Stage.{Stage}
use Rattle.pm_model.specs.declared.stage.Stage.TheVariants as stage
use Rattle.pm_model.specs.Counted.{is_same, runs}
use Rattle.pm_model.specs.Derived.{is_active, is_suspending, is_resuming}
use Rattle.pm_model.specs.Excuse.{is_live}
use Rattle.pm_model.specs.History.{History}
use Rattle.pm_model.specs.Lawful.{IsLawful}
use Rattle.pm_model.specs.Views.{device}
use Rattle.pm_model.specs.World.{World, world}
use Rattle.pm_laws.specs.counts.Sums.{one, tally}
use Rattle.pm_laws.specs.counts.Owners.{places}
use Rattle.pm_laws.proofs.counts.Runs.{lawful_holds}
use Rattle.pm_laws.specs.stacks.Shape.{IsNested, AreNested, call_of}
use Rattle.pm_laws.proofs.stacks.Tests.{same_self}
use Rattle.pm_laws.specs.safe.Kinds.{gathers}
use Rattle.pm_laws.specs.safe.Needs.{Needs}
use Rattle.pm_laws.specs.safe.Parts.{Phase, suspending, resuming, preparing, setting, at_part, any_phase}
use Rattle.pm_laws.proofs.safe.Owners.{one_most, some_parts, weaker_parts, apart_parts, owners_are}
use Rattle.pm_laws.specs.safe.Pends.{asks, awaits, is_for, is_done, pends, consumer}
use Rattle.pm_laws.proofs.safe.Askings.{nested_asked, nested_consumers}
use Rattle.pm_laws.proofs.safe.Pending.{Asked, Each, IsOfConsumer}
use Rattle.pm_laws.proofs.safe.Marked.{all_within}
use Rattle.pm_laws.specs.safe.Running.{is_owners, runs_in}
use Rattle.pm_laws.proofs.safe.Running.{callbacks_run}
use Rattle.pm_laws.proofs.safe.Exclusive.{unowned, at_most_one}

-- a stage that awaits a link's supplier is of the link's consumer, who takes links there
same_consumer : (plan : Plan) (l k : ℕ) (d e : DevId) → consumer plan k ≡ Some e → consumer plan l ≡ Some d → one (nat_eq l k) ≤ one (is_same d e && true)
same_consumer plan l k d e of_k of_l = elim (eqb_tells l k) [
  | inl q ↦
      let both : Some d ≡ Some e = sym of_l ∙ ap (consumer plan) q.1 ∙ of_k in
      let it : d ≡ e = cc in
      let same : is_same d e ≡ true = rw it (same_self e.0) in
      let here : one (is_same d e && true) ≡ 1 = rw same refl in
      omega (arith, one_most (nat_eq l k))
  | inr q ↦ let none : one (nat_eq l k) ≡ 0 = rw q.0 refl in omega arith
]

awaits_gathers : (plan : Plan) (l : ℕ) (d : DevId) (a : Await) → IsOfConsumer plan (stage.Await a) → consumer plan l ≡ Some d
    → one (is_for l (awaits a)) ≤ at_part gathers d (stage.Await a)
awaits_gathers plan l d (await.ResumeSupplier r k) is of_l = same_consumer plan l k d r.dev is of_l
awaits_gathers plan l d (await.ActiveSupplier e k) is of_l = same_consumer plan l k d e is of_l
awaits_gathers plan l d _ is of_l = omega arith

pends_asked : (l : ℕ) (s : Stage) → pends l s ≤ one (is_for l (asks s))
pends_asked l s = go (not (is_done s)) (is_for l (asks s))
  where
    go : (a b : Bool) → one (a && b) ≤ one b
    go true b = omega arith
    go false b = omega arith

-- what is pending below a stage that was called for link q, and that stage, have each a stage that awaits it
below_gathers : (plan : Plan) (l : ℕ) (d : DevId) (q : Option ℕ) (rest : List Stage) → Asked q rest → Each (IsOfConsumer plan) rest → consumer plan l ≡ Some d
    → sum_by (pends l) rest + one (is_for l q) ≤ sum_by (at_part gathers d) rest
below_gathers plan l d q [] asked each of_l = let none : one (is_for l q) ≡ 0 = rw asked refl in omega arith
below_gathers plan l d q (stage.Await a ∷ rest) asked each of_l =
    let here : one (is_for l q) ≤ at_part gathers d (stage.Await a) = rw (← asked.0) (awaits_gathers plan l d a each.0 of_l) in
    omega (
      arith,
      here,
      pends_asked l (stage.Await a),
      below_gathers plan l d (asks (stage.Await a)) rest asked.1 each.1 of_l,
      sum_by-cons (pends l) (stage.Await a) rest,
      sum_by-cons (at_part gathers d) (stage.Await a) rest,
    )
below_gathers plan l d q (s ∷ rest) asked each of_l = elim asked [ ]

stack_gathers : (plan : Plan) (l : ℕ) (d : DevId) (stack : List Stage) → consumer plan l ≡ Some d → IsNested plan stack → sum_by (pends l) stack ≤ sum_by (at_part gathers d) stack
stack_gathers plan l d [] of_l nested = omega arith
stack_gathers plan l d (s ∷ rest) of_l nested =
    omega (
      arith,
      pends_asked l s,
      below_gathers plan l d (asks s) rest (nested_asked plan (call_of s) rest nested.2) (nested_consumers plan (call_of s) rest nested.2) of_l,
      sum_by-cons (pends l) s rest,
      sum_by-cons (at_part gathers d) s rest,
    )

pub pending_gathers : (plan : Plan) (w : World) (l : ℕ) (d : DevId) → consumer plan l ≡ Some d → AreNested plan w → tally (pends l) (places w) ≤ tally (at_part gathers d) (places w)
pending_gathers plan w l d of_l nested = all_within plan w (pends l) (at_part gathers d) (λ stack shape. stack_gathers plan l d stack of_l shape) nested

-- a live device is Active, or one of its owner's callbacks runs
live_is : (plan : Plan) (h : History) (d : DevId) → is_live plan h d ≡ true → (is_active (world plan h).views d ≡ true) ⊎ ((q : Cb) × (is_owners q ≡ true) × (runs q d h ≡ true))
live_is plan h d live = go (is_active (world plan h).views d) (runs cb.Suspend d h) (runs cb.Resume d h) refl refl refl live
  where
    go : (a s r : Bool) → is_active (world plan h).views d ≡ a → runs cb.Suspend d h ≡ s → runs cb.Resume d h ≡ r → a || s || r ≡ true
        → (is_active (world plan h).views d ≡ true) ⊎ ((q : Cb) × (is_owners q ≡ true) × (runs q d h ≡ true))
    go true s r x y z e = inl x
    go false true r x y z e = inr (cb.Suspend, refl, y)
    go false false true x y z e = inr (cb.Resume, refl, z)
    go false false false x y z e = cc

-- so it needs all that is needed over both callbacks
pub live_needs : (plan : Plan) (h : History) (d : DevId) (test : Phase → Bool) → IsLawful plan h → d.0 < length plan.devices → test suspending ≡ true → test resuming ≡ true
    → is_live plan h d ≡ true → Needs (world plan h) test d
live_needs plan h d test lawful within at_suspend at_resume live = elim (live_is plan h d live) [
  | inl up ↦ inl up
  | inr some ↦ inr (let more = weaker_parts (runs_in some.0) test d (places (world plan h)) (weaker some.0) in omega (arith, callbacks_run plan h d some.0 lawful within some.1, ap one some.2))
]
  where
    at_most : (a b : Bool) → b ≡ true → one a ≤ one b
    at_most a b e = omega (arith, one_most a, ap one e)

    weaker : (q : Cb) (x : Phase) → one (runs_in q x) ≤ one (test x)
    weaker cb.Suspend suspending = at_most (runs_in cb.Suspend suspending) (test suspending) at_suspend
    weaker cb.Resume resuming = at_most (runs_in cb.Resume resuming) (test resuming) at_resume
    weaker _ _ = omega arith

-- and takes no link
callback_apart : (q : Cb) (x : Phase) → one (runs_in q x) + one (gathers x) ≤ 1
callback_apart cb.Suspend suspending = omega arith
callback_apart cb.Resume resuming = omega arith
callback_apart cb.Idle preparing = omega arith
callback_apart cb.Idle setting = omega arith
callback_apart cb.Suspend preparing = omega arith
callback_apart cb.Suspend setting = omega arith
callback_apart cb.Resume preparing = omega arith
callback_apart cb.Resume setting = omega arith
callback_apart _ _ = omega arith

pub live_gathers : (plan : Plan) (h : History) (d : DevId) → IsLawful plan h → d.0 < length plan.devices → is_live plan h d ≡ true → tally (at_part gathers d) (places (world plan h)) ≡ 0
live_gathers plan h d lawful within live = elim (live_is plan h d live) [
  | inl up ↦ let none = unowned (device w.views d).status _ up owners in omega (arith, some_parts gathers d (places w))
  | inr some ↦
      let apart = apart_parts (runs_in some.0) gathers d (places w) (callback_apart some.0) in
      let few = at_most_one (device w.views d).status _ owners in
      omega (arith, callbacks_run plan h d some.0 lawful within some.1, ap one some.2)
]
  where
    w : World
    w = world plan h

    owners : one (is_suspending w.views d) + one (is_resuming w.views d) ≡ tally (at_part any_phase d) (places w)
    owners = owners_are plan w d (lawful_holds plan h lawful).owners within
