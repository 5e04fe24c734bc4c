-- A line of a get_sync's call: the stage that writes it, and what its row does.
use Rattle.std.proofs.Common.{ℕ, ◌≡◌, ◌+◌, ◌<◌, ◌≤◌, ◌⊎◌, inl, inr, Bool, true, false, List, [], ◌∷◌, Some, length, drop, ap, refl, sym, ◌∙◌, arith}
use Rattle.std.specs.List.{sum_by}
use Rattle.std.proofs.lemmas.List.Sums.{sum_by-cons}
use Rattle.pm_base.specs.declared.DevId.{DevId}
use Rattle.pm_base.specs.declared.codes.TheConstants.{ASYNC}
use Rattle.pm_model.specs.declared.event.Line.{Line}
use Rattle.pm_model.specs.declared.plan.Plan.{Plan}
use Rattle.pm_model.specs.declared.stage.HelperStage.{HelperStage}
use Rattle.pm_model.specs.declared.stage.HelperStage.TheVariants as at
use Rattle.pm_model.specs.declared.stage.Stage.{Stage}
use Rattle.pm_model.specs.declared.stage.Stage.TheVariants as stage
use Rattle.pm_model.specs.declared.stage.SuspendStage.{SuspendStage}
use Rattle.pm_model.specs.declared.stage.SuspendStage.TheVariants as suspend
use Rattle.pm_model.specs.Derived.{has, is_active, is_resuming}
use Rattle.pm_model.specs.History.{History}
use Rattle.pm_model.specs.Lawful.{IsLawful}
use Rattle.pm_model.specs.Row.{Row}
use Rattle.pm_model.specs.Views.{Views, device, is_held}
use Rattle.pm_model.specs.World.{World, place, row, world}
use Rattle.pm_laws.specs.counts.Sums.{one}
use Rattle.pm_laws.specs.counts.Owners.{owns_resume}
use Rattle.pm_laws.proofs.counts.Links.{neither}
use Rattle.pm_laws.proofs.counts.Places.{IsPlaced, is_placed}
use Rattle.pm_laws.proofs.counts.Runs.{Holds, Paid, permitted, lawful_holds}
use Rattle.pm_laws.specs.stacks.Shape.{call_of, suspend_call, Fits, IsNested, Nested}
use Rattle.pm_laws.proofs.stacks.Nesting.{stands_nested}
use Rattle.pm_laws.proofs.stacks.Obeying.{Obeys}
use Rattle.pm_laws.proofs.stacks.Stacks.{obeys_same, paid_row, stacks_nest}
use Rattle.pm_laws.proofs.stacks.Standing.{Stands, stands}
use Rattle.pm_laws.proofs.stacks.Tests.{front}
use Rattle.pm_laws.proofs.safe.Links.{links_hold}
use Rattle.pm_laws.proofs.safe.Owners.{one_most}
use Rattle.pm_laws.proofs.safe.Steps.{differ}
use Rattle.pm_laws.specs.gets.Answered.{some_of}
use Rattle.pm_laws.proofs.gets.Nexts.{active_within, apart, one_resuming, own_most}
use Rattle.pm_laws.proofs.gets.AloneOtherRows.{helper_cares, idle_cares, is_own, suspend_cares, suspend_flags}
use Rattle.pm_laws.proofs.gets.Reaching.{HeldAreTaken, IsPart, parts}
use Rattle.pm_laws.proofs.gets.AloneResumeRows.{resume_cares}
use Rattle.pm_laws.proofs.gets.Stacking.{gathers_sum}
use Rattle.pm_laws.proofs.gets.Watching.{Careful, Carefully, gathers, is_get_of, lacks, stands_on}

-- a suspend in a get_sync's call has ASYNC
asks : (plan : Plan) (v : Views) (d : DevId) (s : SuspendStage) → IsPart plan v d (suspend_call s) → has (suspend_flags s) ASYNC ≡ true
asks plan v d (suspend.Enter e f) piece = front _ _ piece
asks plan v d (suspend.Verdict e f) piece = front _ _ piece
asks plan v d (suspend.Waiting e f) piece = front _ _ piece
asks plan v d (suspend.Running e f since) piece = front _ _ piece
asks plan v d (suspend.Domain e f) piece = front _ _ piece
asks plan v d (suspend.Links e f) piece = front _ _ piece
asks plan v d (suspend.Deferred e f) piece = front _ _ piece
asks plan v d (suspend.Parent e f) piece = front _ _ piece
asks plan v d (suspend.Done e f c) piece = front _ _ piece

-- the stage is the get_sync's own, or a part of its call
abbrev pub IsOfCall : Plan → Views → DevId → Stage → Type 0
IsOfCall plan v d s = (is_get_of d s ≡ true) ⊎ IsPart plan v d (call_of s)

suspend_asks : (plan : Plan) (v : Views) (d : DevId) (s : SuspendStage) → IsOfCall plan v d (stage.Suspend s) → has (suspend_flags s) ASYNC ≡ true
suspend_asks plan v d s (inl is) = cc
suspend_asks plan v d s (inr piece) = asks plan v d s piece

helper_own : (plan : Plan) (v : Views) (d : DevId) (s : HelperStage) → IsOfCall plan v d (stage.Helper s) → is_own s ≡ true
helper_own plan v d (at.Start c) (inl is) = front _ _ is
helper_own plan v d (at.Ret h e c) (inl is) = refl
helper_own plan v d (at.Call c) (inl is) = cc
helper_own plan v d (at.Work e) (inl is) = cc
helper_own plan v d (at.Timer e) (inl is) = cc
helper_own plan v d (at.PutSuspends c) (inl is) = cc
helper_own plan v d (at.Delay ms since) (inl is) = cc
helper_own plan v d (at.Work e) (inr piece) = elim piece [ ]
helper_own plan v d (at.Timer e) (inr piece) = elim piece [ ]
helper_own plan v d (at.Start c) (inr piece) = elim piece [ ]
helper_own plan v d (at.Ret h e c) (inr piece) = elim piece [ ]
helper_own plan v d (at.Call c) (inr piece) = elim piece [ ]
helper_own plan v d (at.PutSuspends c) (inr piece) = elim piece [ ]
helper_own plan v d (at.Delay ms since) (inr piece) = elim piece [ ]

row_cares : (plan : Plan) (v : Views) (t : ℕ) (d : DevId) (s : Stage) (r : Row) → Fits plan s → IsOfCall plan v d s → ((x : DevId) → owns_resume x s ≡ 1 → is_active v x ≡ false)
    → row plan v s t ≡ Some r → Obeys (Carefully plan v s) r
row_cares plan v t d (stage.Idle s) r fits of owned e = obeys_same _ _ r e (idle_cares plan v t s)
row_cares plan v t d (stage.Suspend s) r fits of owned e = obeys_same _ _ r e (suspend_cares plan v t s fits (suspend_asks plan v d s of))
row_cares plan v t d (stage.Resume s) r fits of owned e = obeys_same _ _ r e (resume_cares plan v t s owned)
row_cares plan v t d (stage.Helper s) r fits of owned e = obeys_same _ _ r e (helper_cares plan v t s (helper_own plan v d s of))
row_cares plan v t d (stage.Control s) r fits (inl is) owned e = cc
row_cares plan v t d (stage.Control s) r fits (inr piece) owned e = elim piece [ ]
row_cares plan v t d (stage.Await a) r fits of owned e = cc

-- an actor whose place isn't empty stands at its top
based_stack : (d : DevId) (s : Stage) (stack : List Stage) → Stands s stack → stands_on d stack ≡ true → stack ≡ s ∷ drop 1 stack
based_stack d s stack st based = elim st.either [
  | inl p ↦ let none : stands_on d stack ≡ false = ap (stands_on d) p.0 in differ based none
  | inr is ↦ is
]

of_call : (plan : Plan) (v : Views) (d : DevId) (s : Stage) (rest : List Stage) → HeldAreTaken plan v → Nested plan (call_of s) rest → stands_on d (s ∷ rest) ≡ true
    → some_of (lacks (is_held v)) rest ≡ false → IsOfCall plan v d s
of_call plan v d s [] taken n based held = inl based
of_call plan v d s (x ∷ rest) taken n based held = inr (parts plan v d (call_of s) (x ∷ rest) taken n based held)

-- the stage that writes a line of a get_sync's call, the stages below it, and what its row does
pub record Written (plan : Plan) (h : History) (line : Line) (d : DevId) : Type 0 where
  pub paid : Paid plan (world plan h) line
  pub placed : IsPlaced (world plan h) line.actor
  pub stack : place (world plan h) line.actor ≡ paid.stage ∷ drop 1 (place (world plan h) line.actor)
  pub nested : IsNested plan (paid.stage ∷ drop 1 (place (world plan h) line.actor))
  pub of : IsOfCall plan (world plan h).views d paid.stage
  pub careful : Careful plan (world plan h).views paid.stage line.event paid.next
  pub alone : (x : DevId) → x.0 < length plan.devices → owns_resume x paid.stage ≡ 1 → some_of (gathers x) (drop 1 (place (world plan h) line.actor)) ≡ false
  pub resuming : (x : DevId) → x.0 < length plan.devices → owns_resume x paid.stage ≡ 1 → is_resuming (world plan h).views x ≡ true

pub written : (plan : Plan) (h : History) (line : Line) (d : DevId) → IsLawful plan (line ∷ h) → stands_on d (place (world plan h) line.actor) ≡ true
    → some_of (lacks (is_held (world plan h).views)) (place (world plan h) line.actor) ≡ false → Written plan h line d
written plan h line d lawful based held =
    record { paid = p; placed = placed; stack = stack; nested = nested; of = of; careful = careful; alone = alone; resuming = resuming }
  where
    w : World
    w = world plan h

    known : Holds plan w
    known = lawful_holds plan h lawful.2

    p : Paid plan w line
    p = permitted plan h line lawful.0 known

    placed : IsPlaced w line.actor
    placed = is_placed plan w line.actor p.stage known.entries known.places p.stands

    rest : List Stage
    rest = drop 1 (place w line.actor)

    st : Stands p.stage (place w line.actor)
    st = stands plan w line.actor p.stage p.stands

    stack : place w line.actor ≡ p.stage ∷ rest
    stack = based_stack d p.stage (place w line.actor) st based

    nested : IsNested plan (p.stage ∷ rest)
    nested = stands_nested plan p.stage (place w line.actor) st (stacks_nest plan h lawful.2 line.actor)

    taken : HeldAreTaken plan w.views
    taken l row is now = (links_hold plan h l row lawful.2 is).runtime now

    of : IsOfCall plan w.views d p.stage
    of = of_call plan w.views d p.stage rest taken nested.2 (sym (ap (stands_on d) stack) ∙ based) (neither (lacks (is_held w.views) p.stage) (some_of (lacks (is_held w.views)) rest) (sym (ap (some_of (lacks (is_held w.views))) stack) ∙ held)).1

    most : (x : DevId) → x.0 < length plan.devices → owns_resume x p.stage + sum_by (owns_resume x) rest ≤ one (is_resuming w.views x)
    most x within =
        let mine = own_most plan w line.actor x known placed within in
        let whole : sum_by (owns_resume x) (place w line.actor) ≡ sum_by (owns_resume x) (p.stage ∷ rest) = ap (sum_by (owns_resume x)) stack in
        omega (arith, mine, whole, sum_by-cons (owns_resume x) p.stage rest)

    resuming : (x : DevId) → x.0 < length plan.devices → owns_resume x p.stage ≡ 1 → is_resuming w.views x ≡ true
    resuming x within is = let le = most x within in one_resuming (is_resuming w.views x) (omega (arith, le, is))

    owned : (x : DevId) → owns_resume x p.stage ≡ 1 → is_active w.views x ≡ false
    owned x is = go (is_active w.views x) refl
      where
        go : (b : Bool) → is_active w.views x ≡ b → is_active w.views x ≡ false
        go false e = e
        go true e = apart (device w.views x).status e (resuming x (active_within plan w x known e) is)

    careful : Careful plan w.views p.stage line.event p.next
    careful = (row_cares plan w.views line.time d p.stage _ nested.1 of owned (paid_row plan w line p)).paid

    alone : (x : DevId) → x.0 < length plan.devices → owns_resume x p.stage ≡ 1 → some_of (gathers x) rest ≡ false
    alone x within is = go (some_of (gathers x) rest) refl
      where
        go : (b : Bool) → some_of (gathers x) rest ≡ b → some_of (gathers x) rest ≡ false
        go false e = e
        go true e =
            let le = most x within in
            let more = gathers_sum x rest e in
            absurd (omega (arith, le, more, is, one_most (is_resuming w.views x)))
