-- What stands at the bottom of each actor's stack: a command of a caller, what a work item carries out, and a timer's suspend.
use Rattle.std.proofs.Common.{ℕ, ◌≡◌, ◌≤◌, ◌⊎◌, ◌+◌, Bool, true, false, List, [], ◌∷◌, ◌++◌, drop, length, slice_get, Option, Some, None, ℤ, if◌then◌else◌, ap, refl, sym, ◌∙◌, subst, inl, inr, arith}
use Rattle.std.specs.Option.{option_map_or}
use Rattle.pm_base.specs.declared.ActorId.{ActorId}
use Rattle.pm_base.specs.declared.ActorId.TheVariants.{Caller, Work, Timer}
use Rattle.pm_base.specs.declared.DevId.{DevId}
use Rattle.pm_base.specs.declared.Req.{Req}
use Rattle.pm_base.specs.declared.Req.TheVariants as req
use Rattle.pm_model.specs.declared.event.Command.{Command}
use Rattle.pm_model.specs.declared.event.Line.{Line}
use Rattle.pm_model.specs.declared.plan.Plan.{Plan}
use Rattle.pm_model.specs.declared.rows.CallerRow.{CallerRow}
use Rattle.pm_model.specs.declared.stage.Await.{Await}
use Rattle.pm_model.specs.declared.stage.Handed.{Handed}
use Rattle.pm_model.specs.declared.stage.Handed.TheVariants as handed
use Rattle.pm_model.specs.declared.stage.HelperStage.TheVariants as at
use Rattle.pm_model.specs.declared.stage.Purpose.TheVariants.{Plain}
use Rattle.pm_model.specs.declared.stage.Stage.{Stage}
use Rattle.pm_model.specs.declared.stage.Stage.TheVariants as stage
use Rattle.pm_model.specs.declared.stage.Then.{Then}
use Rattle.pm_model.specs.Changes.{has_auto_timer}
use Rattle.pm_model.specs.Derived.{has}
use Rattle.pm_model.specs.Handing.{take_code, after_code, after_back, after_then}
use Rattle.pm_model.specs.HelperTable.{carries_out, helper_row, timer_fires}
use Rattle.pm_model.specs.Lawful.{IsLawful, last_time}
use Rattle.pm_model.specs.Row.{Row, writes, waits}
use Rattle.pm_model.specs.Views.{Views, pending_of}
use Rattle.pm_model.specs.WellFormed.{called_for}
use Rattle.pm_model.specs.World.{World, row, place, after_line, world}
use Rattle.pm_model.proofs.Arrivals.{on_handed, after_await}
use Rattle.pm_laws.proofs.counts.Runs.{Paid, permitted, lawful_holds}
use Rattle.pm_laws.proofs.counts.Places.{IsPlaced, is_placed}
use Rattle.pm_laws.specs.stacks.Shape.{Call, none, own, lowers, raises, lowering, call_of, Nested, IsNested}
use Rattle.pm_laws.specs.stacks.Depth.{AreShallow, command_chain, greatest, longest_chain, quiet_chain}
use Rattle.pm_laws.proofs.stacks.Chains.{greatest_at}
use Rattle.pm_laws.proofs.stacks.Depth.{bottom, depth_of, room}
use Rattle.pm_laws.proofs.stacks.Nesting.{Chain, GivesBack, Gives, GoesOn, Nesting, Stays, goes_on, none_awaited, stands_nested}
use Rattle.pm_laws.proofs.stacks.Obeying.{Obeys}
use Rattle.pm_laws.proofs.stacks.Readying.{IsReady, IsScripted, stands_ready}
use Rattle.pm_laws.proofs.stacks.Stacks.{Told, stacked, stacks_nest, stack_placed, told, paid_row, empty_place}
use Rattle.pm_laws.proofs.stacks.Standing.{stands}

-- the call at the bottom of an actor's stack
abbrev pub IsBase : Plan → ActorId → Call → Type 0
IsBase plan (Caller c) k = (command : Command) × IsScripted plan c command × (k ≡ own (called_for command.helper command.dev))
IsBase plan (Work d) k = (k ≡ lowers (record { 0 = d }) false) ⊎ (k ≡ raises (record { 0 = d }) 2 Plain)
IsBase plan (Timer d) k = k ≡ lowers (record { 0 = d }) true

abbrev pub IsOver : (Call → Type 0) → List Stage → Type 0
IsOver P [] = Unit {0}
IsOver P (s ∷ rest) = P (bottom (call_of s) rest)

chain_bottom : (plan : Plan) (x : Stage) (push : List Stage) (k : Call) (rest : List Stage) → Chain plan (x ∷ push) k → bottom (call_of x) (push ++ rest) ≡ bottom k rest
chain_bottom plan x [] k rest chain = ap (λ z. bottom z rest) chain.1
chain_bottom plan x (y ∷ push) k rest chain = chain_bottom plan y push k rest chain.2

handed_over : (P : Call → Type 0) (plan : Plan) (a : Await) (h : Handed) (rest : List Stage) → GoesOn plan a h → P (bottom (call_of (stage.Await a)) rest)
    → ((c : ℤ) → IsOver P (after_code rest c)) → IsOver P (on_handed h rest (after_code rest))
handed_over P plan a (handed.Goes s) rest is base below = subst (λ k. P (bottom k rest)) (sym is.2) base
handed_over P plan a (handed.Back c) rest is base below = below c

code_over : (P : Call → Type 0) (plan : Plan) (k : Call) (rest : List Stage) (c : ℤ) → Nested plan k rest → P (bottom k rest) → IsOver P (after_code rest c)
code_over P plan k [] c nested base = tt
code_over P plan k (stage.Await a ∷ rest) c nested base =
    subst (IsOver P) (sym (after_await a c rest)) (handed_over P plan a (take_code a c) rest (goes_on plan a c) base (λ kept. code_over P plan (call_of (stage.Await a)) rest kept nested.2 base))
code_over P plan k (s ∷ rest) c nested base = elim nested.0 [ ]

stays_over : (P : Call → Type 0) (plan : Plan) (k : Call) (next : Then) (rest : List Stage) → Stays plan k next → Nested plan k rest → P (bottom k rest)
    → IsOver P (after_then next rest)
stays_over P plan k next rest stays nested base = go next.back next.push stays
  where
    go : (back : Option ℤ) (push : List Stage) → GivesBack plan k back push → IsOver P (after_back back push rest)
    go None [] gives = elim gives.0 [ ]
    go None (x ∷ push) gives = subst P (sym (chain_bottom plan x push k rest gives.1)) base
    go (Some c) push gives = code_over P plan k rest c nested base

-- no call that hasn't started is at a bottom
none_at : (plan : Plan) (a : ActorId) → IsBase plan a none → ⊥
none_at plan (Caller c) (command, at, e) = cc
none_at plan (Work d) (inl e) = cc
none_at plan (Work d) (inr e) = cc
none_at plan (Timer d) e = cc

gives_over : (plan : Plan) (a : ActorId) (k : Call) (next : Then) (rest : List Stage) → (k ≡ none → ⊥) → Gives plan k next → Nested plan k rest
    → IsBase plan a (bottom k rest) → IsOver (IsBase plan a) (after_then next rest)
gives_over plan a none next rest started gives nested base = absurd (started refl)
gives_over plan a (own d) next rest started gives nested base = stays_over (IsBase plan a) plan (own d) next rest gives nested base
gives_over plan a (lowers d odd) next rest started gives nested base = stays_over (IsBase plan a) plan (lowers d odd) next rest gives nested base
gives_over plan a (raises d f p) next rest started gives nested base = stays_over (IsBase plan a) plan (raises d f p) next rest gives nested base

none_bottom : (plan : Plan) (rest : List Stage) → Nested plan none rest → bottom none rest ≡ none
none_bottom plan [] nested = refl
none_bottom plan (stage.Await a ∷ rest) nested = absurd (none_awaited plan a nested.0)
none_bottom plan (s ∷ rest) nested = elim nested.0 [ ]

-- what stands on a base has started
has_started : (plan : Plan) (a : ActorId) (k : Call) (rest : List Stage) → Nested plan k rest → IsBase plan a (bottom k rest) → k ≡ none → ⊥
has_started plan a k rest nested base is =
    let nothing : Nested plan none rest = subst (λ z. Nested plan z rest) is nested in
    none_at plan a (subst (IsBase plan a) (ap (λ z. bottom z rest) is ∙ none_bottom plan rest nothing) base)

-- what a work item and a timer start
even_two : (d : DevId) → lowering d 2 ≡ lowers d false
unfolding has
even_two d = refl

even_ten : (d : DevId) → lowering d 10 ≡ lowers d false
unfolding has
even_ten d = refl

carries_base : (plan : Plan) (d : ℕ) (r : Req) → IsOver (IsBase plan (Work d)) (after_then (carries_out (record { 0 = d }) r) [])
carries_base plan d req.Nothing = tt
carries_base plan d req.Idle = inl (even_two (record { 0 = d }))
carries_base plan d req.Suspend = inl (even_two (record { 0 = d }))
carries_base plan d req.Autosuspend = inl (even_ten (record { 0 = d }))
carries_base plan d req.Resume = inr refl

odd_timer : (d : DevId) (b : Bool) → lowering d (if b then 9 else 1) ≡ lowers d true
unfolding has
odd_timer d true = refl
odd_timer d false = refl

-- the row of a stage is the one that writes the line
abbrev LeavesOver : (Call → Type 0) → Row → Type 0
LeavesOver P (writes e change next) = IsOver P (after_then next [])
LeavesOver P (waits d) = Unit {0}

timer_base : (plan : Plan) (v : Views) (d : ℕ) → LeavesOver (IsBase plan (Timer d)) (timer_fires v (record { 0 = d }))
unfolding timer_fires
timer_base plan v d = odd_timer (record { 0 = d }) (has_auto_timer v (record { 0 = d }))

start_leaves : (plan : Plan) (v : Views) (t : ℕ) (a : ActorId) (s : Stage) (r : Row) → IsReady plan a s → row plan v s t ≡ Some r → Obeys (Nesting plan (call_of s)) r
    → LeavesOver (IsBase plan a) r
start_leaves plan v t (Caller c) s (waits d) (command, is, at) e nests = tt
start_leaves plan v t (Caller c) s (writes event change next) (command, is, at) e nests =
    let gives : Gives plan (own (called_for command.helper command.dev)) next = subst (λ z. Gives plan (call_of z) next) is nests.paid in
    stays_over (IsBase plan (Caller c)) plan (own (called_for command.helper command.dev)) next [] gives tt (command, at, refl)
start_leaves plan v t (Work d) s r is e nests =
    let it : Some (helper_row plan v (at.Work (record { 0 = d })) t) ≡ Some r = sym (ap (λ z. row plan v z t) is) ∙ e in
    let same : helper_row plan v (at.Work (record { 0 = d })) t ≡ r = cc in
    subst (LeavesOver (IsBase plan (Work d))) same (carries_base plan d (let p = pending_of v (record { 0 = d }) in p.request))
start_leaves plan v t (Timer d) s r is e nests =
    let it : Some (helper_row plan v (at.Timer (record { 0 = d })) t) ≡ Some r = sym (ap (λ z. row plan v z t) is) ∙ e in
    let same : helper_row plan v (at.Timer (record { 0 = d })) t ≡ r = cc in
    subst (LeavesOver (IsBase plan (Timer d))) same (timer_base plan v d)

-- each actor's place stands on its base
abbrev pub AreBased : Plan → World → Type 0
AreBased plan w = (a : ActorId) → IsOver (IsBase plan a) (place w a)

based_stack : (plan : Plan) (w : World) (line : Line) (p : Paid plan w line) → Told plan w line p → IsNested plan (p.stage ∷ drop 1 (place w line.actor)) → AreBased plan w
    → IsOver (IsBase plan line.actor) (after_then p.next (drop 1 (place w line.actor)))
based_stack plan w line p it nested based = let st = stands plan w line.actor p.stage p.stands in elim st.either [
  | inl q ↦ rw q.0 (start_leaves plan w.views line.time line.actor p.stage (writes line.event p.change p.next) (stands_ready plan w line.actor p.stage p.stands q.0) (paid_row plan w line p) (record { paid = it.nests }))
  | inr is ↦
      let base : IsBase plan line.actor (bottom (call_of p.stage) (drop 1 (place w line.actor))) = let all : IsOver (IsBase plan line.actor) (p.stage ∷ drop 1 (place w line.actor)) = subst (IsOver (IsBase plan line.actor)) is (based line.actor) in all in
      gives_over plan line.actor (call_of p.stage) p.next (drop 1 (place w line.actor)) (has_started plan line.actor (call_of p.stage) (drop 1 (place w line.actor)) nested.2 base) it.nests nested.2 base
]

based_line : (plan : Plan) (w : World) (line : Line) (p : Paid plan w line) → IsPlaced w line.actor → IsOver (IsBase plan line.actor) (after_then p.next (drop 1 (place w line.actor)))
    → AreBased plan w → AreBased plan (after_line plan w line (Some (writes line.event p.change p.next)))
based_line plan w line p placed over based b = stack_placed (λ a. IsOver (IsBase plan a)) w _ _ line.actor b _ placed over based

pub are_based : (plan : Plan) (h : List Line) → IsLawful plan h → AreBased plan (world plan h)
are_based plan [] lawful = λ a. rw (empty_place plan a) tt
are_based plan (line ∷ h) lawful =
    let w = world plan h in
    let holds = lawful_holds plan h lawful.2 in
    let p = permitted plan h line lawful.0 holds in
    let k = stacked plan h lawful.2 in
    let it = told plan w (last_time h) line p holds k lawful.0.in_time in
    let nested = stands_nested plan p.stage (place w line.actor) (stands plan w line.actor p.stage p.stands) (k.nested line.actor) in
    let based = are_based plan h lawful.2 in
    subst (λ r. AreBased plan (after_line plan w line r)) (sym p.leads)
    (based_line plan w line p (is_placed plan w line.actor p.stage holds.entries holds.places p.stands) (based_stack plan w line p it nested based) based)

-- so stacks are no deeper than the longest chain allows
pub stacks_shallow : (plan : Plan) (h : List Line) → IsLawful plan h → AreShallow plan (world plan h)
stacks_shallow plan h lawful = record {
  callers = λ c caller is. callers c caller is (place w (Caller c)) (nested (Caller c)) (are_based plan h lawful (Caller c));
  works = λ d. works d (place w (Work d.0)) (nested (Work d.0)) (are_based plan h lawful (Work d.0));
  timers = λ d. timers d (place w (Timer d.0)) (nested (Timer d.0)) (are_based plan h lawful (Timer d.0));
}
  where
    w : World
    w = world plan h

    nested : (a : ActorId) → IsNested plan (place w a)
    nested = stacks_nest plan h lawful

    callers : (c : ℕ) (caller : CallerRow) → slice_get plan.callers c ≡ Some caller → (stack : List Stage) → IsNested plan stack → IsOver (IsBase plan (Caller c)) stack
        → length stack ≤ greatest (command_chain plan) caller.script + 3
    callers c caller is [] nested over = omega arith
    callers c caller is (s ∷ rest) nested (command, at, e) =
        let both : Some at.caller ≡ Some caller = sym at.calls ∙ is in
        let same : at.caller ≡ caller = cc in
        let here : slice_get caller.script at.at ≡ Some command = subst (λ (r : CallerRow). slice_get r.script at.at ≡ Some command) same at.is in
        let deep : length (s ∷ rest) ≤ room plan (own (called_for command.helper command.dev)) = subst (λ k. length (s ∷ rest) ≤ room plan k) e (depth_of plan s rest nested) in
        omega (arith, deep, greatest_at (command_chain plan) caller.script at.at command here, of_command (called_for command.helper command.dev))
      where
        of_command : (o : Option DevId) → room plan (own o) ≤ option_map_or (longest_chain plan) o 0 + 3
        of_command None = omega arith
        of_command (Some d) = omega arith

    works : (d : DevId) (stack : List Stage) → IsNested plan stack → IsOver (IsBase plan (Work d.0)) stack → length stack ≤ longest_chain plan d + 2
    works d [] nested over = omega arith
    works d (s ∷ rest) nested (inl e) = subst (λ k. length (s ∷ rest) ≤ room plan k) e (depth_of plan s rest nested)
    works d (s ∷ rest) nested (inr e) = let deep : length (s ∷ rest) ≤ longest_chain plan d + 1 = subst (λ k. length (s ∷ rest) ≤ room plan k) e (depth_of plan s rest nested) in omega (arith, deep)

    timers : (d : DevId) (stack : List Stage) → IsNested plan stack → IsOver (IsBase plan (Timer d.0)) stack → length stack ≤ quiet_chain plan d
    timers d [] nested over = omega arith
    timers d (s ∷ rest) nested e = subst (λ k. length (s ∷ rest) ≤ room plan k) e (depth_of plan s rest nested)
