-- Supplier stays, over one line: given what the bonds between devices say of the line, the law is kept.
use Rattle.std.proofs.Common.{ℕ, ◌≡◌, ◌+◌, ◌<◌, ◌≤◌, ◌⊎◌, Bool, true, false, not, ◌&&◌, ◌||◌, List, [], ◌∷◌, Option, Some, None, length, drop, ap, refl, sym, ◌∙◌, subst, inl, inr, arith}
use Rattle.std.specs.List.{sum_by}
use Rattle.std.proofs.lemmas.Bool.Decides.{eqb_tells}
use Rattle.pm_base.specs.declared.DevId.{DevId}
use Rattle.pm_model.specs.declared.event.Line.{Line}
use Rattle.pm_model.specs.declared.plan.Plan.{Plan}
use Rattle.pm_model.specs.declared.rows.LinkRow.{LinkRow}
use Rattle.pm_model.specs.declared.stage.HelperStage.{HelperStage}
use Rattle.pm_model.specs.declared.stage.HelperStage.TheVariants as at
use Rattle.pm_model.specs.declared.stage.IdleStage.{IdleStage}
use Rattle.pm_model.specs.declared.stage.IdleStage.TheVariants as idle
use Rattle.pm_model.specs.declared.stage.SuspendStage.{SuspendStage}
use Rattle.pm_model.specs.declared.stage.SuspendStage.TheVariants as suspend
use Rattle.pm_model.specs.declared.stage.Purpose.{Purpose}
use Rattle.pm_model.specs.declared.stage.Purpose.TheVariants as purpose
use Rattle.pm_model.specs.declared.stage.ResumeCall.{ResumeCall}
use Rattle.pm_model.specs.declared.stage.Stage.{Stage}
use Rattle.pm_model.specs.declared.stage.Stage.TheVariants as stage
use Rattle.pm_base.specs.declared.Status.{Status}
use Rattle.std.specs.Option.{option_map_or, unwrap_or}
use Rattle.pm_model.specs.Counted.{says_status, status_of, is_held_pair}
use Rattle.pm_laws.proofs.counts.Said.{status_said, held_said}
use Rattle.pm_laws.proofs.safe.Takings.{row_takes, taken_by}
use Rattle.pm_model.specs.Derived.{is_active, is_active_status, is_suspended}
use Rattle.pm_model.specs.Excuse.{forces, since_suspended, is_denied, row_denies, ends_denied, is_excused_from_supplier}
use Rattle.pm_model.specs.Handing.{after_then}
use Rattle.pm_model.specs.Lawful.{IsLawful}
use Rattle.pm_model.specs.Row.{Row, writes, waits}
use Rattle.pm_model.specs.Views.{Views, is_held}
use Rattle.pm_model.specs.World.{World, row, place, with_place, after_line, world}
use Rattle.pm_laws.specs.counts.Sums.{one, tally}
use Rattle.pm_laws.specs.counts.Owners.{places}
use Rattle.pm_laws.proofs.counts.Places.{IsPlaced, is_placed, tally_placed}
use Rattle.pm_laws.proofs.counts.Rows.{said}
use Rattle.pm_laws.proofs.counts.Runs.{Holds, Paid, lawful_holds, places_moved}
use Rattle.pm_laws.specs.safe.Pends.{asks, link_of, is_for, is_done, pends, falls_back}
use Rattle.pm_laws.specs.safe.Supplied.{Bonds, Supplied}
use Rattle.pm_laws.specs.stacks.Shape.{call_of, raises, resume_call, IsLink, IsNested, Nested}
use Rattle.pm_laws.proofs.safe.Askings.{ForLink, nested_asked, nested_consumers, nested_link, link_consumer}
use Rattle.pm_laws.proofs.safe.Falling.{left, ends_bad, start_pends, pends_goes, bad_answers}
use Rattle.pm_laws.proofs.safe.Needing.{needing}
use Rattle.pm_laws.proofs.stacks.Nesting.{stands_nested}
use Rattle.pm_laws.proofs.safe.ResumePends.{MayWait, Owes, resume_owes}
use Rattle.pm_laws.proofs.stacks.Tests.{or_rear}
use Rattle.pm_laws.proofs.stacks.Stacks.{paid_row, stacks_nest}
use Rattle.pm_laws.proofs.stacks.Standing.{stands, stands_sum}

purpose_link : (p : Purpose) (l : ℕ) → link_of p ≡ Some l → p ≡ purpose.Link l
purpose_link (purpose.Link k) l e = cc
purpose_link purpose.Plain l e = cc
purpose_link purpose.Child l e = cc

resume_for : (plan : Plan) (r : ResumeCall) (l : ℕ) (rest : List Stage) → Nested plan (raises r.dev r.flags r.purpose) rest → link_of r.purpose ≡ Some l
    → ForLink plan l r.dev r.flags
resume_for plan r l rest nested e =
    nested_link plan r.dev r.flags l rest (subst (λ p. Nested plan (raises r.dev r.flags p) rest) (purpose_link r.purpose l e) nested)

-- a line leaves pending for link l what was, or its supplier is Active after it
abbrev OwedTo : Views → Stage → ℕ → DevId → Row → Type 0
OwedTo v s l d (writes e change next) = (pends l s ≤ left l (asks s) next) ⊎ (is_active_status (said e v d) ≡ true)
OwedTo v s l d (waits x) = Unit {0}

same_supplier : (plan : Plan) (l : ℕ) (c d s t : DevId) → IsLink plan l c s → IsLink plan l d t → s ≡ t
same_supplier plan l c d s t x y =
    let both : Some x.row ≡ Some y.row = sym x.is ∙ y.is in
    let same : x.row ≡ y.row = cc in sym x.supplier ∙ ap (λ (row : LinkRow). row.supplier) same ∙ y.supplier

lighter : (v : Views) (s : Stage) (l : ℕ) (d : DevId) (r : Row) → pends l s ≡ 0 → OwedTo v s l d r
lighter v s l d (writes e change next) none = inl (omega arith)
lighter v s l d (waits x) none = tt

resume_owed : (v : Views) (s : Stage) (l : ℕ) (x d : DevId) (r : Row) → Owes v s x r → (asks s ≡ Some l → x ≡ d) → OwedTo v s l d r
resume_owed v s l x d (waits y) o same = tt
resume_owed v s l x d (writes e change next) o same = elim (o.paid.paid l) [
  | inl le ↦ inl le
  | inr up ↦ go up (asks s) refl
]
  where
    up_at : asks s ≡ Some l → is_active_status (said e v x) ≡ true → is_active_status (said e v d) ≡ true
    up_at asked up = subst (λ k. is_active_status (said e v k) ≡ true) (same asked) up

    unasked : (b : Bool) → is_for l (asks s) ≡ false → one (b && is_for l (asks s)) ≡ 0
    unasked true e = rw e refl
    unasked false e = refl

    go : is_active_status (said e v x) ≡ true → (o : Option ℕ) → asks s ≡ o → (pends l s ≤ left l (asks s) next) ⊎ (is_active_status (said e v d) ≡ true)
    go up None is = let none = unasked (not (is_done s)) (ap (is_for l) is) in inl (omega arith)
    go up (Some k) is = elim (eqb_tells l k) [
      | inl q ↦ inr (up_at (is ∙ ap Some (sym q.1)) up)
      | inr q ↦ let none = unasked (not (is_done s)) (ap (is_for l) is ∙ q.0) in inl (omega arith)
    ]

owed_same : (v : Views) (s : Stage) (l : ℕ) (d : DevId) (x r : Row) → Some x ≡ Some r → OwedTo v s l d x → OwedTo v s l d r
owed_same v s l d x r e o = let same : x ≡ r = cc in subst (OwedTo v s l d) same o

idle_light : (l : ℕ) (s : IdleStage) → pends l (stage.Idle s) ≡ 0
idle_light l (idle.Enter d f) = refl
idle_light l _ = refl

suspend_light : (l : ℕ) (s : SuspendStage) → pends l (stage.Suspend s) ≡ 0
suspend_light l (suspend.Enter d f) = refl
suspend_light l _ = refl

helper_light : (l : ℕ) (s : HelperStage) → pends l (stage.Helper s) ≡ 0
helper_light l (at.Work d) = refl
helper_light l _ = refl

-- what each row owes to link l of consumer d and supplier s
row_owes : (plan : Plan) (v : Views) (t : ℕ) (st : Stage) (rest : List Stage) (l : ℕ) (d s : DevId) (r : Row) → IsLink plan l d s
    → IsNested plan (st ∷ rest) → row plan v st t ≡ Some r → OwedTo v st l s r
row_owes plan v t (stage.Resume st) rest l d s r is nested e =
    let call = resume_call st in
    let right : MayWait call = λ k asked. (resume_for plan call k rest nested.2 asked).flags in
    owed_same v (stage.Resume st) l s _ r e
    (resume_owed v (stage.Resume st) l call.dev s _ (resume_owes plan v t st nested.1 right) (λ asked. let for = resume_for plan call l rest nested.2 asked in same_supplier plan l for.consumer d call.dev s for.is is))
row_owes plan v t (stage.Idle st) rest l d s r is nested e = lighter v (stage.Idle st) l s r (idle_light l st)
row_owes plan v t (stage.Suspend st) rest l d s r is nested e = lighter v (stage.Suspend st) l s r (suspend_light l st)
row_owes plan v t (stage.Helper st) rest l d s r is nested e = lighter v (stage.Helper st) l s r (helper_light l st)
row_owes plan v t (stage.Control st) rest l d s r is nested e = lighter v (stage.Control st) l s r refl
row_owes plan v t (stage.Await st) rest l d s r is nested e = cc

-- a link that is held after the line was held before it, or is pending now
taken : (plan : Plan) (h : List Line) (line : Line) (l : ℕ) (d s : DevId) → IsLawful plan (line ∷ h) → IsLink plan l d s
    → (p : Paid plan (world plan h) line) → is_held (world plan (line ∷ h)).views l ≡ true
    → (is_held (world plan h).views l ≡ true) ⊎ (0 < left l (asks p.stage) p.next)
taken plan h line l d s lawful link p held =
    let paid = row_takes plan (world plan h).views line.time p.stage _ (paid_row plan (world plan h) line p) in
    let now : is_held_pair (line ∷ h) d s ≡ true = rw (link.consumer, link.supplier) at (sym (held_said plan (line ∷ h) l link.row lawful link.is) ∙ held) in
    elim (taken_by plan l d s (asks p.stage) line.event p.next (is_held_pair h d s) link paid.paid now) [
      | inl was ↦ inl (held_said plan h l link.row lawful.2 link.is ∙ ap (λ x. is_held_pair h x link.row.supplier) link.consumer ∙ ap (λ x. is_held_pair h d x) link.supplier ∙ was)
      | inr new ↦ inr new
    ]

-- a status that a line says is the status after it
said_now : (plan : Plan) (h : List Line) (line : Line) (s : DevId) → IsLawful plan (line ∷ h) → s.0 < length plan.devices
    → is_active_status (said line.event (world plan h).views s) ≡ true → is_active (world plan (line ∷ h)).views s ≡ true
said_now plan h line s lawful within up =
    ap is_active_status (status_said plan (line ∷ h) s lawful within) ∙ go (says_status s line.event) (ap (λ x. is_active_status (unwrap_or (says_status s line.event) x)) (sym (status_said plan h s lawful.2 within)) ∙ up)
  where
    go : (o : Option Status) → is_active_status (unwrap_or o (status_of h s)) ≡ true
        → is_active_status (elim o as (λ _. Status) [ Some x ↦ x | None ↦ status_of h s ]) ≡ true
    go None e = e
    go (Some x) e = e

-- an excuse that begins with the line, and one that goes on
begins : (plan : Plan) (test : World → Line → Bool) (line : Line) (h : List Line) (d : DevId) → is_suspended (world plan (line ∷ h)).views d ≡ false
    → test (world plan h) line ≡ true → since_suspended plan test (line ∷ h) d ≡ true
begins plan test line h d awake now = rw (awake, now) refl

goes_on : (plan : Plan) (test : World → Line → Bool) (line : Line) (h : List Line) (d : DevId) → is_suspended (world plan (line ∷ h)).views d ≡ false
    → since_suspended plan test h d ≡ true → since_suspended plan test (line ∷ h) d ≡ true
goes_on plan test line h d awake old = rw awake (or_rear (test (world plan h) line) (since_suspended plan test h d) old)

or_front : (a b : Bool) → a ≡ true → a || b ≡ true
or_front true b e = refl
or_front false b e = cc

or_either : (a b : Bool) → a || b ≡ true → (a ≡ true) ⊎ (b ≡ true)
or_either true b e = inl refl
or_either false b e = inr e

pub supplier_step : (plan : Plan) (h : List Line) (line : Line) (l : ℕ) (d s : DevId) → IsLawful plan (line ∷ h) → d.0 < length plan.devices → s.0 < length plan.devices → IsLink plan l d s
    → (p : Paid plan (world plan h) line) → Bonds plan h line l d s → Supplied plan h l d s → Supplied plan (line ∷ h) l d s
supplier_step plan h line l d s lawful within supplier_within is p bonds old held needs = go (ends_bad l p.next rest) refl
  where
    w : World
    w = world plan h

    rest : List Stage
    rest = drop 1 (place w line.actor)

    now : World
    now = world plan (line ∷ h)

    holds : Holds plan w
    holds = lawful_holds plan h lawful.2

    placed : IsPlaced w line.actor
    placed = is_placed plan w line.actor p.stage holds.entries holds.places p.stands

    nested : IsNested plan (p.stage ∷ rest)
    nested = stands_nested plan p.stage (place w line.actor) (stands plan w line.actor p.stage p.stands) (stacks_nest plan h lawful.2 line.actor)

    awake : (is_suspended now.views d ≡ false) × (tally (falls_back d) (places now) ≡ 0)
    awake = needing plan now d within (lawful_holds plan (line ∷ h) lawful).owners needs

    moved : places now ≡ places (with_place w line.actor (after_then p.next rest))
    moved = ap (λ r. places (after_line plan w line r)) p.leads ∙ places_moved w _ _ line.actor (after_then p.next rest)

    sums : tally (pends l) (places now) + pends l p.stage + one (ends_bad l p.next rest) ≡ tally (pends l) (places w) + left l (asks p.stage) p.next
    sums = rw moved (pends_goes plan w line.actor p.stage p.next l placed p.stands (nested_asked plan (call_of p.stage) rest nested.2))

    within_sum : pends l p.stage ≤ tally (pends l) (places w)
    within_sum =
        let whole = tally_placed (pends l) w line.actor [] placed in
        let top = stands_sum (pends l) p.stage (place w line.actor) (start_pends l p.stage) (stands plan w line.actor p.stage p.stands) in
        omega arith

    Goal : Type 0
    Goal = (is_active now.views s ≡ true) ⊎ ((is_excused_from_supplier plan (line ∷ h) d l s ≡ true) ⊎ (0 < tally (pends l) (places now)))

    denied : ends_bad l p.next rest ≡ true → ends_denied plan l w line ≡ true
    denied bad =
        let either = bad_answers plan l d p.next rest (nested_consumers plan (call_of p.stage) rest nested.2) (link_consumer plan l d s is) in
        let falls : sum_by (falls_back d) (after_then p.next rest) ≡ 0 = none_falls in
        ap (row_denies l rest) p.leads ∙ is_one (option_map_or (is_denied l rest) p.next.back false) (let bad_one : one (ends_bad l p.next rest) ≡ 1 = rw bad refl in omega arith)
      where
        is_one : (b : Bool) → 1 ≤ one b → b ≡ true
        is_one true e = refl
        is_one false e = absurd (omega arith)

        none_falls : sum_by (falls_back d) (after_then p.next rest) ≡ 0
        none_falls =
            let whole = tally_placed (falls_back d) w line.actor (after_then p.next rest) placed in
            let before = tally_placed (falls_back d) w line.actor [] placed in
            let all : tally (falls_back d) (places (with_place w line.actor (after_then p.next rest))) ≡ 0 = rw moved at awake.1 in omega arith

    owed : (pends l p.stage ≤ left l (asks p.stage) p.next) ⊎ (is_active_status (said line.event w.views s) ≡ true)
    owed = row_owes plan w.views line.time p.stage rest l d s _ is nested (paid_row plan w line p)

    go : (b : Bool) → ends_bad l p.next rest ≡ b → Goal
    go true bad = inr (inl (or_front _ _ (begins plan (ends_denied plan l) line h d awake.0 (denied bad))))
    go false good = elim (taken plan h line l d s lawful is p held) [ inl was ↦ kept was | inr new ↦ inr (inr (let none : one (ends_bad l p.next rest) ≡ 0 = rw good refl in omega (arith, sums, within_sum))) ]
      where
        kept : is_held w.views l ≡ true → Goal
        kept was = elim (old was (bonds.needed was needs)) [
          | inl up ↦ elim (bonds.stays was up) [
            | inl still ↦ inl still
            | inr forced ↦ inr (inl (or_rear _ _ (begins plan (λ w line. forces s line.event) line h d awake.0 forced)))
          ]
          | inr more ↦ elim more [
            | inl excused ↦ inr (inl (elim (or_either _ _ excused) [
              | inl a ↦ or_front _ _ (goes_on plan (ends_denied plan l) line h d awake.0 a)
              | inr b ↦ or_rear _ _ (goes_on plan (λ w line. forces s line.event) line h d awake.0 b)
            ]))
            | inr some ↦ elim owed [
              | inl le ↦ inr (inr (let none : one (ends_bad l p.next rest) ≡ 0 = rw good refl in omega (arith, sums)))
              | inr up ↦ inl (said_now plan h line s lawful supplier_within up)
            ]
          ]
        ]
