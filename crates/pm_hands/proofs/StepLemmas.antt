-- What a step's answer tells.
use Rattle.std.proofs.Common.{◌≡◌, ◌+◌, ◌≤◌, ℕ, Bool, true, false, Option, Some, None, length, MatchOption, refl, sym, ap, arith, inr, ◌∙◌, if◌then◌else◌}
use Rattle.std.proofs.lemmas.Bool.{false_from_ne_true, false≢true}
use Rattle.std.proofs.lemmas.Option.{slice_get_past}
use Rattle.std.specs.Option.{option_map_or}
use Rattle.pm_base.specs.declared.ActorId.{ActorId}
use Rattle.pm_base.specs.declared.Cb.{Cb}
use Rattle.pm_base.specs.declared.DevId.{DevId}
use Rattle.pm_model.specs.declared.event.Event.{Event}
use Rattle.pm_model.specs.declared.event.Event.TheVariants as event
use Rattle.pm_model.specs.declared.plan.Plan.{Plan}
use Rattle.pm_model.specs.declared.stage.Move.TheVariants.{Write}
use Rattle.pm_model.specs.declared.stage.Stage.{Stage}
use Rattle.pm_model.specs.Derived.{begun}
use Rattle.pm_model.specs.PlanRows.{ms_of, ms_of_row}
use Rattle.pm_model.specs.Views.{Views}
use Rattle.pm_model.specs.World.{move, stage_at}
use Rattle.pm_book.specs.declared.steps.Step.{Step}
use Rattle.pm_book.specs.declared.steps.Step.TheVariants as step
use Rattle.pm_book.specs.Pages.{Adds, Pages, by_move, by_running, by_stage, has_written, is_full, moment_from, step_answer, world_of, written}
use Rattle.pm_book.specs.Turn.{HasTime, IsTurn, says_running}
use Rattle.pm_book.proofs.TurnLemmas.{runs_behind, step_alone}
use Rattle.pm_state.specs.Turns.{is_running, running_due}
use Rattle.pm_hands.specs.declared.callback.Wrote.{Wrote}
use Rattle.pm_hands.specs.Turning.{Begins, ByWrote, IsOver}

-- a callback of a device that isn't the plan's takes no time
pub no_device : (plan : Plan) (k : Cb) (d : DevId) → length plan.devices ≤ d.0 → ms_of plan k d ≡ 0
unfolding ms_of
no_device plan k d past = ap (λ o. option_map_or (ms_of_row k) o 0) (slice_get_past plan.devices d.0 past)

-- where whose turn it is writes no line at the moment of its turn, there isn't time for the lines that are left
pub out_of_time : (p : Pages) (a : ActorId) (now : ℕ) → IsTurn p a now → is_full p ≡ false → is_running p.plan (world_of p) a ≡ false → has_written (step_answer p a now) ≡ false
    → ¬ HasTime p.plan p.lines
out_of_time p a now turn free rests silent time =
    let s = step_answer p a now in
    let says : says_running s ≡ false = false_from_ne_true (says_running s) (λ runs. absurd (false≢true (sym rests ∙ runs_behind p p a now s free refl runs (λ same. refl)))) in
    let w = step_alone p p a now s turn free time refl says (λ yes. absurd (false≢true (sym silent ∙ yes))) in
    let longer = ap length w.added.lines in
    absurd (omega (arith, longer))

pub over_then : (old new : Pages) (a : ActorId) (now : ℕ) (o : Option Wrote) → IsTurn old a now → is_full old ≡ false → is_running old.plan (world_of old) a ≡ false → o ≡ None
    → MatchOption o ((new ≡ old) × (has_written (step_answer old a now) ≡ false)) (ByWrote old new) → (new ≡ old) × IsOver old
over_then old new a now None turn free rests is ok = (ok.0, inr (inr (out_of_time old a now turn free rests ok.1)))
over_then old new a now (Some w) turn free rests is ok = cc is

-- what an answer tells of a callback that began
abbrev begun_event : Event → Step → Event
begun_event e (step.Begun d k nth) = event.Begin d k
begun_event e _ = e

abbrev begun_number : Step → ℕ
begun_number (step.Begun d k nth) = nth
begun_number _ = 0

abbrev begun_count : Views → Step → ℕ
begun_count v (step.Begun d k nth) = begun v k d + 1
begun_count v _ = 0

record IsBegin (v : Views) (e : Event) (d : DevId) (k : Cb) (nth : ℕ) : Type 0 where
  pub event_is : e ≡ event.Begin d k
  pub nth_is : nth ≡ begun v k d + 1

written_begins : (v : Views) (e : Event) (d : DevId) (k : Cb) (nth : ℕ) → written v e ≡ step.Begun d k nth → IsBegin v e d k nth
written_begins v (event.Begin d' k') d k nth is = record {
  event_is = ap (begun_event (event.Begin d' k')) is;
  nth_is = sym (ap begun_number is) ∙ ap (begun_count v) is;
}
written_begins v _ d k nth is = cc is

step_begins : (p : Pages) (a : ActorId) (now : ℕ) (s : Stage) (e : Event) (d : DevId) (k : Cb) (nth : ℕ) → stage_at p.plan (world_of p) a ≡ Some s
    → by_move (world_of p).views (move p.plan (world_of p).views s (moment_from p.lines now)) ≡ written (world_of p).views e → step.Begun d k nth ≡ step_answer p a now
    → IsBegin (world_of p).views e d k nth
step_begins p a now s e d k nth at gives is =
    full (is_full p) (is ∙ ap (λ o. if is_full p then step.AtLimit else by_stage p.plan v t o) at)
  where
    v : Views
    v = (world_of p).views

    t : ℕ
    t = moment_from p.lines now

    runs : (o : Option ℕ) → step.Begun d k nth ≡ by_running o (by_move v (move p.plan v s t)) → IsBegin v e d k nth
    runs (Some due) is = cc is
    runs None is = written_begins v e d k nth (sym (is ∙ gives))

    full : (b : Bool) → step.Begun d k nth ≡ (if b then step.AtLimit else by_stage p.plan v t (Some s)) → IsBegin v e d k nth
    full true is = cc is
    full false is = runs (running_due p.plan s) is

-- a step that says that a callback began wrote its begin line
pub begins : (old new : Pages) (a : ActorId) (now : ℕ) (d : DevId) (k : Cb) (nth ms : ℕ) (answer : Step) → answer ≡ step.Begun d k nth → answer ≡ step_answer old a now
    → (has_written answer ≡ true → Adds old new a (moment_from old.lines now)) → ms ≡ ms_of new.plan k d → Begins old new (record { actor = a; dev = d; cb = k; nth = nth; ms = ms })
begins old new a now d k nth ms answer is answers writes takes =
    let adds = writes (ap has_written is) in
    let line = adds.line in
    let p = adds.permits in
    let w = world_of old in
    let at : stage_at old.plan w a ≡ Some p.stage = ap (stage_at old.plan w) (sym adds.actor_is) ∙ p.stands in
    let gives : by_move w.views (move old.plan w.views p.stage (moment_from old.lines now)) ≡ written w.views line.event =
    ap (λ t. by_move w.views (move old.plan w.views p.stage t)) (sym adds.time_is) ∙ ap (by_move w.views) p.gives in
    let b = step_begins old a now p.stage line.event d k nth at gives (sym is ∙ answers) in
    record {
      time = moment_from old.lines now;
      adds = adds;
      event_is = b.event_is;
      nth_is = b.nth_is;
      ms_is = takes ∙ ap (λ plan. ms_of plan k d) adds.added.plan;
    }
