-- A caller calls its script's commands in turn, and no more.
use Rattle.std.proofs.Common.{ℕ, zero, suc, ◌≡◌, ◌+◌, ◌<◌, ◌≤◌, true, List, [], ◌∷◌, Option, Some, None, length, map, slice_get, slice_index_or, ap, refl, sym, ◌∙◌, subst, arith, inl, inr}
use Rattle.std.specs.Option.{option_and_then, option_map}
use Rattle.std.proofs.lemmas.Bool.Decides.{eqb_tells}
use Rattle.std.proofs.lemmas.List.{get_or-set_other}
use Rattle.std.proofs.lemmas.Option.{slice_get_within}
use Rattle.pm_base.specs.declared.ActorId.{ActorId}
use Rattle.pm_base.specs.declared.ActorId.TheVariants.{Caller, Work, Timer}
use Rattle.pm_base.specs.declared.limits.TheConstants.{MAX_COMMANDS}
use Rattle.pm_model.specs.declared.event.Command.{Command}
use Rattle.pm_model.specs.declared.event.Event.{Event}
use Rattle.pm_model.specs.declared.event.Event.TheVariants as event
use Rattle.pm_model.specs.declared.event.Line.{Line}
use Rattle.pm_model.specs.declared.plan.Plan.{Plan}
use Rattle.pm_model.specs.declared.rows.CallerRow.{CallerRow}
use Rattle.pm_model.specs.declared.stage.HelperStage.TheVariants as at
use Rattle.pm_model.specs.declared.stage.Stage.{Stage}
use Rattle.pm_model.specs.declared.stage.Stage.TheVariants as stage
use Rattle.pm_model.specs.CanTake.{has_room}
use Rattle.pm_model.specs.ChangeViews.{change_views}
use Rattle.pm_model.specs.Events.{by_event}
use Rattle.pm_model.specs.Lawful.{IsLawful, Permits}
use Rattle.pm_model.specs.Views.{Views}
use Rattle.pm_model.specs.World.{World, after_line, called_by, counts_call, next_command, place, ready, stage_at, top, with_place, world}
use Rattle.pm_laws.proofs.bounds.Bounded.{room}
use Rattle.pm_laws.proofs.bounds.Limits.{few_commands}
use Rattle.pm_laws.proofs.bounds.Said.{leads, places_later, said}
use Rattle.pm_laws.proofs.bounds.Saying.{AreLater, IsSaid}
use Rattle.pm_laws.proofs.bounds.Timers.{set_either}

-- a stage that calls a command stands only at an empty place
calls_ready : (o : Option Stage) (c : Command) (stack : List Stage) → AreLater stack → top o stack ≡ Some (stage.Helper (at.Call c))
    → o ≡ Some (stage.Helper (at.Call c))
calls_ready o c [] all is = is
calls_ready o c (s ∷ rest) all is =
    let same : s ≡ stage.Helper (at.Call c) = cc in let first : AreLater (stage.Helper (at.Call c) ∷ rest) = subst (λ x. AreLater (x ∷ rest)) same all in absurd first.0

command_is : (o : Option Command) (c : Command) → option_map (λ command. stage.Helper (at.Call command)) o ≡ Some (stage.Helper (at.Call c)) → o ≡ Some c
command_is None c is = cc
command_is (Some x) c is = cc

-- the command of a caller's call line is its script's next
pub next_called : (plan : Plan) (h : List Line) (line : Line) (c : ℕ) (command : Command) → IsLawful plan h → Permits plan h line → line.actor ≡ Caller c
    → line.event ≡ event.Call command → next_command plan (world plan h) c ≡ Some command
next_called plan h line c command lawful p actor calls =
    let w = world plan h in
    let at_call : p.stage ≡ stage.Helper (at.Call command) = called line.event calls (said plan h line lawful p).0 in
    let stands : stage_at plan w (Caller c) ≡ Some (stage.Helper (at.Call command)) = subst (λ a. stage_at plan w a ≡ Some (stage.Helper (at.Call command))) actor (p.stands ∙ ap (λ s. Some s) at_call) in
    command_is (next_command plan w c) command (calls_ready (ready plan w (Caller c)) command (place w (Caller c)) (places_later plan h lawful (Caller c)) stands)
  where
    called : (e : Event) → e ≡ event.Call command → IsSaid plan (world plan h).views line.time p.stage e → p.stage ≡ stage.Helper (at.Call command)
    called e is says = subst (λ x. IsSaid plan (world plan h).views line.time p.stage x) is says

-- so it isn't past the end of the script
next_within : (plan : Plan) (w : World) (c : ℕ) (command : Command) (caller : CallerRow) → next_command plan w c ≡ Some command
    → slice_get plan.callers c ≡ Some caller → called_by w c < length caller.script
next_within plan w c command caller next is =
    let here : option_and_then (λ (row : CallerRow). slice_get row.script (called_by w c)) (Some caller) ≡ Some command = subst (λ o. option_and_then (λ (row : CallerRow). slice_get row.script (called_by w c)) o ≡ Some command) is next in
    slice_get_within caller.script (called_by w c) command here

-- how many commands the callers have called after a line
counts_within : (called : List ℕ) (a : ActorId) (e : Event) (c m : ℕ)
    → ((command : Command) → a ≡ Caller c → e ≡ event.Call command → slice_index_or called c 0 < m) → slice_index_or called c 0 ≤ m
    → slice_index_or (counts_call a e called) c 0 ≤ m
counts_within called (Caller b) (event.Call command) c m less old = elim (eqb_tells b c) [
  | inl q ↦ let fewer : slice_index_or called b 0 < m = subst (λ n. slice_index_or called n 0 < m) (sym q.1) (less command (ap Caller q.1) refl) in set_either (λ n. n ≤ m) called b c (slice_index_or called b 0 + 1) 0 (omega (arith, fewer)) old
  | inr q ↦ rw (get_or-set_other called b c (slice_index_or called b 0 + 1) 0 (λ same. q.1 (sym same))) old
]
counts_within called (Caller b) _ c m less old = old
counts_within called (Work d) e c m less old = old
counts_within called (Timer d) e c m less old = old

called_moved : (w : World) (v : Views) (called : List ℕ) (a : ActorId) (stack : List Stage) (c : ℕ)
    → called_by (with_place (record w { views = v; called = called }) a stack) c ≡ slice_index_or called c 0
called_moved w v called (Caller b) stack c = refl
called_moved w v called (Work d) stack c = refl
called_moved w v called (Timer d) stack c = refl

start_called : {A : Type 0} (l : List A) (i : ℕ) → (let none : ℕ = 0 in slice_index_or (map (λ row. none) l) i none ≡ none)
start_called [] i = refl
start_called (x ∷ l) zero = refl
start_called (x ∷ l) (suc i) = start_called l i

-- where each next command has less than m before it, no more than m are called
called_upto : (plan : Plan) (h : List Line) (c m : ℕ) → IsLawful plan h → ((w : World) (command : Command) → next_command plan w c ≡ Some command → called_by w c < m)
    → called_by (world plan h) c ≤ m
called_upto plan [] c m lawful within = omega (arith, start_called plan.callers c)
called_upto plan (line ∷ h) c m lawful within =
    let w = world plan h in
    let p = lawful.0 in
    let less : (command : Command) → line.actor ≡ Caller c → line.event ≡ event.Call command → called_by w c < m = λ command actor calls. within w command (next_called plan h line c command lawful.2 p actor calls) in
    let counted = counts_within w.called line.actor line.event c m less (called_upto plan h c m lawful.2 within) in
    let now : called_by (world plan (line ∷ h)) c ≡ slice_index_or (counts_call line.actor line.event w.called) c 0 = ap (λ r. called_by (after_line plan w line r) c) (leads plan h line p) ∙ called_moved w (by_event plan line.time line.event (change_views plan line.time p.change w.views)) (counts_call line.actor line.event w.called) line.actor _ c in
    omega (arith, counted, now)

pub called_bounded : (plan : Plan) (h : List Line) (c : ℕ) (caller : CallerRow) → IsLawful plan h → slice_get plan.callers c ≡ Some caller
    → called_by (world plan h) c ≤ length caller.script
called_bounded plan h c caller lawful is =
    called_upto plan h c (length caller.script) lawful (λ w command next. next_within plan w c command caller next is)

few_next : (plan : Plan) (w : World) (c : ℕ) (command : Command) → next_command plan w c ≡ Some command → called_by w c < MAX_COMMANDS
few_next plan w c command next = go (slice_get plan.callers c) refl next
  where
    go : (o : Option CallerRow) → slice_get plan.callers c ≡ o → option_and_then (λ (row : CallerRow). slice_get row.script (called_by w c)) o ≡ Some command
        → called_by w c < MAX_COMMANDS
    go None is e = cc
    go (Some caller) is e = omega (arith, slice_get_within caller.script (called_by w c) command e, few_commands plan c caller is)

-- so one more call can be counted, of whichever caller
pub called_room : (plan : Plan) (h : List Line) (c : ℕ) → IsLawful plan h → has_room (called_by (world plan h) c) ≡ true
called_room plan h c lawful =
    room (called_by (world plan h) c) (omega (arith, called_upto plan h c MAX_COMMANDS lawful (λ w command next. few_next plan w c command next)))
