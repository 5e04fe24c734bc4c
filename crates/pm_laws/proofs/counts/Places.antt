-- Where an actor stands, and how a sum over all places changes where its stage gives way.
use Rattle.std.proofs.Common.{ℕ, ◌≡◌, ◌+◌, ◌<◌, ◌≤◌, Bool, true, false, List, [], ◌∷◌, ◌++◌, Option, Some, None, ℤ, length, drop, slice_set, slice_index_or, slice_get, if◌then◌else◌, ap, refl, sym, ◌∙◌, arith, inl, inr}
use Rattle.std.specs.List.{sum_by}
use Rattle.std.specs.Option.{option_map}
use Rattle.std.proofs.lemmas.Bool.{cases_lt}
use Rattle.std.proofs.lemmas.List.{get_or_past, length-set}
use Rattle.std.proofs.lemmas.List.Sums.{sum_by-cons, sum_by-append}
use Rattle.std.proofs.lemmas.Option.{slice_get_past}
use Rattle.pm_base.specs.declared.ActorId.{ActorId}
use Rattle.pm_base.specs.declared.ActorId.TheVariants.{Caller, Work, Timer}
use Rattle.pm_base.specs.declared.Armed.{Armed}
use Rattle.pm_base.specs.declared.DevId.{DevId}
use Rattle.pm_base.specs.declared.Req.TheVariants.{Nothing}
use Rattle.pm_model.specs.declared.event.Command.{Command}
use Rattle.pm_model.specs.declared.plan.Plan.{Plan}
use Rattle.pm_model.specs.declared.stage.Await.{Await}
use Rattle.pm_model.specs.declared.stage.Handed.{Handed}
use Rattle.pm_model.specs.declared.stage.Handed.TheVariants as handed
use Rattle.pm_model.specs.declared.stage.HelperStage.TheVariants as at
use Rattle.pm_model.specs.declared.stage.Stage.{Stage}
use Rattle.pm_model.specs.declared.stage.Stage.TheVariants as stage
use Rattle.pm_model.specs.declared.stage.Then.{Then}
use Rattle.pm_model.specs.Handing.{take_code, after_code, after_back, after_then}
use Rattle.pm_model.specs.Views.{pending_of, timer}
use Rattle.pm_model.specs.World.{World, place, with_place, ready, stage_at, top, next_command}
use Rattle.pm_model.proofs.Arrivals.{on_handed, after_await}
use Rattle.pm_laws.specs.counts.Sums.{tally, weigh}
use Rattle.pm_laws.proofs.counts.Tally.{weigh_is, tally-append, tally-set}
use Rattle.pm_laws.specs.counts.Owners.{places}
use Rattle.pm_laws.specs.counts.Sizes.{HasEntries, HasPlaces}

-- the stages that take a stage's place; none where it ends
abbrev pub shown_of : Option ℤ → List Stage → List Stage
shown_of None push = push
shown_of (Some c) push = []

abbrev pub shown : Then → List Stage
shown next = shown_of next.back next.push

-- a weight that is the same where a stage awaits a call and where it goes on, whatever code comes
abbrev pub IsHanded : (Stage → ℕ) → Await → Handed → Type 0
IsHanded f a (handed.Goes s) = f s ≡ f (stage.Await a)
IsHanded f a (handed.Back c) = f (stage.Await a) ≡ 0

pub record IsWeight (f : Stage → ℕ) : Type 0 where
  pub call : (c : Command) → f (stage.Helper (at.Call c)) ≡ 0
  pub work : (d : DevId) → f (stage.Helper (at.Work d)) ≡ 0
  pub timer : (d : DevId) → f (stage.Helper (at.Timer d)) ≡ 0
  pub handed : (a : Await) (c : ℤ) → IsHanded f a (take_code a c)

handed_keeps : (f : Stage → ℕ) (a : Await) (h : Handed) (rest : List Stage) (further : ℤ → List Stage) → IsHanded f a h
    → ((c : ℤ) → sum_by f (further c) ≡ sum_by f rest) → sum_by f (on_handed h rest further) ≡ sum_by f (stage.Await a ∷ rest)
handed_keeps f a (handed.Goes s) rest further is below = omega (arith, sum_by-cons f s rest, sum_by-cons f (stage.Await a) rest)
handed_keeps f a (handed.Back c) rest further is below = omega (arith, below c, sum_by-cons f (stage.Await a) rest)

pub code_keeps : (f : Stage → ℕ) → IsWeight f → (rest : List Stage) (c : ℤ) → sum_by f (after_code rest c) ≡ sum_by f rest
code_keeps f is [] c = refl
code_keeps f is (stage.Await a ∷ rest) c =
    ap (sum_by f) (after_await a c rest) ∙ handed_keeps f a (take_code a c) rest (after_code rest) (is.handed a c) (code_keeps f is rest)
code_keeps f is (s ∷ rest) c = refl

pub then_keeps : (f : Stage → ℕ) → IsWeight f → (next : Then) (rest : List Stage)
    → sum_by f (after_then next rest) ≡ weigh f (shown next) + sum_by f rest
then_keeps f is next rest = go next.back next.push
  where
    go : (back : Option ℤ) (push : List Stage) → sum_by f (after_back back push rest) ≡ weigh f (shown_of back push) + sum_by f rest
    go None push = omega (arith, sum_by-append f push rest, weigh_is f push)
    go (Some c) push = omega (arith, code_keeps f is rest c)

-- the actor's place is among the places
abbrev pub IsPlaced : World → ActorId → Type 0
IsPlaced w (Caller c) = c < length w.caller_places
IsPlaced w (Work d) = d < length w.work_places
IsPlaced w (Timer d) = d < length w.timer_places

-- the sum over three lists of stacks
pub tally_joined : (f : Stage → ℕ) (xs ys zs : List (List Stage)) → tally f (xs ++ ys ++ zs) ≡ tally f xs + tally f ys + tally f zs
tally_joined f xs ys zs = omega (arith, tally-append f (xs ++ ys) zs, tally-append f xs ys)

pub tally_placed : (f : Stage → ℕ) (w : World) (a : ActorId) (stack : List Stage) → IsPlaced w a
    → tally f (places (with_place w a stack)) + sum_by f (place w a) ≡ tally f (places w) + sum_by f stack
tally_placed f w (Caller c) stack is =
    let old = tally_joined f w.caller_places w.work_places w.timer_places in
    let new = tally_joined f (slice_set w.caller_places c stack) w.work_places w.timer_places in
    omega (arith, tally-set f w.caller_places c stack is)
tally_placed f w (Work d) stack is =
    let old = tally_joined f w.caller_places w.work_places w.timer_places in
    let new = tally_joined f w.caller_places (slice_set w.work_places d stack) w.timer_places in
    omega (arith, tally-set f w.work_places d stack is)
tally_placed f w (Timer d) stack is =
    let old = tally_joined f w.caller_places w.work_places w.timer_places in
    let new = tally_joined f w.caller_places w.work_places (slice_set w.timer_places d stack) in
    omega (arith, tally-set f w.timer_places d stack is)

-- where the actor is placed
none_some : {A : Type 0} {P : Type 0} (x : A) → None ≡ Some x → P
none_some x e = cc

within : {A : Type 0} (l : List A) (i : ℕ) (d : A) → (length l ≤ i → ⊥) → i < length l
within l i d refuted = elim (cases_lt i (length l)) [ inl lt ↦ lt | inr le ↦ absurd (refuted le) ]

past_caller : (plan : Plan) (w : World) (c : ℕ) (s : Stage) → HasPlaces plan w → length w.caller_places ≤ c → stage_at plan w (Caller c) ≡ Some s → ⊥
past_caller plan w c s h past e =
    let none : slice_get plan.callers c ≡ None = slice_get_past plan.callers c (omega (arith, h.callers)) in
    let empty : slice_index_or w.caller_places c [] ≡ [] = get_or_past w.caller_places c [] past in
    let k : None ≡ Some s = rw (empty, none) at e in none_some s k

past_work : (plan : Plan) (w : World) (d : ℕ) (s : Stage) → HasEntries plan w.views → HasPlaces plan w → length w.work_places ≤ d
    → stage_at plan w (Work d) ≡ Some s → ⊥
past_work plan w d s g h past e =
    let empty : slice_index_or w.work_places d [] ≡ [] = get_or_past w.work_places d [] past in
    let fresh = get_or_past w.views.pending d (record { request = Nothing; queued = false; deferred = false }) (omega (arith, g.pending, h.works)) in
    let k : None ≡ Some s = rw (empty, fresh) at e in none_some s k

past_timer : (plan : Plan) (w : World) (d : ℕ) (s : Stage) → HasEntries plan w.views → HasPlaces plan w → length w.timer_places ≤ d
    → stage_at plan w (Timer d) ≡ Some s → ⊥
past_timer plan w d s g h past e =
    let empty : slice_index_or w.timer_places d [] ≡ [] = get_or_past w.timer_places d [] past in
    let none = get_or_past w.views.timers d None (omega (arith, g.timers, h.timers)) in
    let k : None ≡ Some s = rw (empty, none) at e in none_some s k

pub is_placed : (plan : Plan) (w : World) (a : ActorId) (s : Stage) → HasEntries plan w.views → HasPlaces plan w → stage_at plan w a ≡ Some s
    → IsPlaced w a
is_placed plan w (Caller c) s g h e = within w.caller_places c [] (λ past. past_caller plan w c s h past e)
is_placed plan w (Work d) s g h e = within w.work_places d [] (λ past. past_work plan w d s g h past e)
is_placed plan w (Timer d) s g h e = within w.timer_places d [] (λ past. past_timer plan w d s g h past e)

-- the stage at which an actor stands is the top of its stack, or a stage with no weight above an empty one
ready_weighs : (f : Stage → ℕ) → IsWeight f → (plan : Plan) (w : World) (a : ActorId) (s : Stage) → ready plan w a ≡ Some s → f s ≡ 0
ready_weighs f is plan w (Caller c) s e = go (next_command plan w c) e
  where
    go : (o : Option Command) → option_map (λ command. stage.Helper (at.Call command)) o ≡ Some s → f s ≡ 0
    go None e = none_some s e
    go (Some command) e = let same : stage.Helper (at.Call command) ≡ s = cc in ap f (sym same) ∙ is.call command
ready_weighs f is plan w (Work d) s e = go (pending_of w.views (record { 0 = d })).queued e
  where
    go : (b : Bool) → (if b then Some (stage.Helper (at.Work (record { 0 = d }))) else None) ≡ Some s → f s ≡ 0
    go true e = let same : stage.Helper (at.Work (record { 0 = d })) ≡ s = cc in ap f (sym same) ∙ is.work (record { 0 = d })
    go false e = none_some s e
ready_weighs f is plan w (Timer d) s e = go (timer w.views (record { 0 = d })) e
  where
    go : (o : Option Armed) → option_map (λ armed. stage.Helper (at.Timer (record { 0 = d }))) o ≡ Some s → f s ≡ 0
    go None e = none_some s e
    go (Some armed) e = let same : stage.Helper (at.Timer (record { 0 = d })) ≡ s = cc in ap f (sym same) ∙ is.timer (record { 0 = d })

top_weighs : (f : Stage → ℕ) (o : Option Stage) (s : Stage) → (o ≡ Some s → f s ≡ 0) → (stack : List Stage) → top o stack ≡ Some s
    → sum_by f stack ≡ f s + sum_by f (drop 1 stack)
top_weighs f o s light [] e = let none = light e in omega arith
top_weighs f o s light (x ∷ rest) e = let same : x ≡ s = cc in rw (← same) (sum_by-cons f x rest)

pub stands_weighs : (f : Stage → ℕ) → IsWeight f → (plan : Plan) (w : World) (a : ActorId) (s : Stage) → stage_at plan w a ≡ Some s
    → sum_by f (place w a) ≡ f s + sum_by f (drop 1 (place w a))
stands_weighs f is plan w a s e = top_weighs f (ready plan w a) s (ready_weighs f is plan w a s) (place w a) e

-- the sum over all places once an actor's stage has given way
pub tally_goes : (f : Stage → ℕ) → IsWeight f → (plan : Plan) (w : World) (a : ActorId) (s : Stage) (next : Then) → IsPlaced w a
    → stage_at plan w a ≡ Some s
    → tally f (places (with_place w a (after_then next (drop 1 (place w a))))) + f s ≡ tally f (places w) + weigh f (shown next)
tally_goes f is plan w a s next placed e =
    omega (arith, tally_placed f w a (after_then next (drop 1 (place w a))) placed, then_keeps f is next (drop 1 (place w a)), stands_weighs f is plan w a s e)

pub places_kept : (plan : Plan) (w : World) (a : ActorId) (stack : List Stage) → HasPlaces plan w → HasPlaces plan (with_place w a stack)
places_kept plan w (Caller c) stack h = record { callers = length-set w.caller_places c stack ∙ h.callers; works = h.works; timers = h.timers }
places_kept plan w (Work d) stack h = record { callers = h.callers; works = length-set w.work_places d stack ∙ h.works; timers = h.timers }
places_kept plan w (Timer d) stack h = record { callers = h.callers; works = h.works; timers = length-set w.timer_places d stack ∙ h.timers }
