-- One call alone, over the lines of a get_sync's call, wherever they stand in a lawful list.
use Rattle.std.proofs.Common.{ℕ, ◌≡◌, ◌≤◌, inl, inr, Bool, true, false, not, ◌&&◌, List, [], ◌∷◌, ◌++◌, Some, ℤ, drop, ap, refl, sym, ◌∙◌, subst, arith}
use Rattle.pm_base.specs.declared.ActorId.TheVariants.{Caller}
use Rattle.pm_base.specs.declared.DevId.{DevId}
use Rattle.pm_model.specs.declared.event.Command.{Command}
use Rattle.pm_model.specs.declared.event.Event.{Event}
use Rattle.pm_model.specs.declared.event.Event.TheVariants as event
use Rattle.pm_model.specs.declared.event.Helper.{Helper}
use Rattle.pm_model.specs.declared.event.Helper.TheVariants as helper
use Rattle.pm_model.specs.declared.event.Line.{Line}
use Rattle.pm_model.specs.declared.plan.Plan.{Plan}
use Rattle.pm_model.specs.declared.stage.Change.{Change}
use Rattle.pm_model.specs.declared.stage.HelperStage.TheVariants as at
use Rattle.pm_model.specs.declared.stage.Stage.{Stage}
use Rattle.pm_model.specs.declared.stage.Stage.TheVariants as stage
use Rattle.pm_model.specs.declared.stage.Then.{Then}
use Rattle.pm_model.specs.Counted.{is_same}
use Rattle.pm_model.specs.Handing.{after_then}
use Rattle.pm_model.specs.HelperTable.{begins}
use Rattle.pm_model.specs.History.{History}
use Rattle.pm_model.specs.Lawful.{IsLawful}
use Rattle.pm_model.specs.Promises.{calls_get_sync}
use Rattle.pm_model.specs.Row.{goes, writes}
use Rattle.pm_model.specs.Views.{is_held}
use Rattle.pm_model.specs.World.{World, place, row, world}
use Rattle.pm_laws.specs.counts.Sums.{one}
use Rattle.pm_laws.proofs.counts.HelperRows.{command}
use Rattle.pm_laws.proofs.counts.Places.{IsPlaced, is_placed}
use Rattle.pm_laws.proofs.counts.Runs.{Holds, Paid, permitted, lawful_holds}
use Rattle.pm_laws.specs.stacks.Shape.{IsNested}
use Rattle.pm_laws.proofs.stacks.Stacks.{paid_row, stacks_nest}
use Rattle.pm_laws.proofs.stacks.Standing.{Stands, stands}
use Rattle.pm_laws.proofs.stacks.Tests.{front}
use Rattle.pm_laws.proofs.safe.Steps.{differ}
use Rattle.pm_laws.proofs.bounds.Said.{said}
use Rattle.pm_laws.proofs.bounds.Saying.{IsSaid}
use Rattle.pm_laws.specs.gets.Answered.{is_get_sync, some_of}
use Rattle.pm_laws.specs.gets.Alone.{OneCall, from_call, one_more, AreReached, IsAlone, begins_resume, is_open, is_return, resumes_begun}
use Rattle.pm_laws.proofs.gets.AloneKeeping.{Inside, Within, begun_more, counted_line, inside_line, reached_line}
use Rattle.pm_laws.proofs.gets.Nexts.{place_next}
use Rattle.pm_laws.proofs.gets.Stacking.{own_bottom}
use Rattle.pm_laws.proofs.gets.Watching.{lacks, stands_on}
use Rattle.pm_laws.proofs.gets.Writing.{written}

-- the command of a call line
record Calls (d : DevId) (e : Event) : Type 0 where
  pub command : Command
  pub is : e ≡ event.Call command
  pub get : is_get_sync command.helper && is_same d command.dev ≡ true

calls_it : (d : DevId) (e : Event) → calls_get_sync d e ≡ true → Calls d e
calls_it d (event.Call c) is = record { command = c; is = refl; get = go c.helper is }
  where
    go : (h : Helper) → (elim h as (λ _. Bool) [ helper.GetSync ↦ is_same d c.dev | _ ↦ false ]) ≡ true → is_get_sync h && is_same d c.dev ≡ true
    go helper.GetSync e = e
    go _ e = cc
calls_it d _ is = cc

-- a get_sync starts with its own stage
starts : (h : Helper) (d : DevId) (n : ℤ) (t : ℕ) → is_get_sync h ≡ true → begins (command h d n) t ≡ goes (stage.Helper (at.Start (command h d n)))
starts helper.GetSync d n t is = refl
starts _ d n t is = cc

row_next : (e f : Event) (c : Change) (next : Then) (g : Change) (to : Then) → Some (writes e c next) ≡ Some (writes f g to) → to ≡ next
row_next e f c next g to is = cc

same_stage : (s t : Stage) → Some s ≡ Some t → s ≡ t
same_stage s t is = cc

-- after the call line the stage stands alone in the caller's place
empty_below : (plan : Plan) (c : Command) (stack : List Stage) → Stands (stage.Helper (at.Call c)) stack → IsNested plan stack → drop 1 stack ≡ []
empty_below plan c stack st n = elim st.either [
  | inl p ↦ ap (drop 1) p.0
  | inr is ↦ let below : IsNested plan (stage.Helper (at.Call c) ∷ drop 1 stack) = subst (IsNested plan) is n in own_bottom plan _ (drop 1 stack) below.2
]

call_place : (plan : Plan) (h : History) (line : Line) (d : DevId) → IsLawful plan (line ∷ h) → (k : Calls d line.event)
    → place (world plan (line ∷ h)) line.actor ≡ stage.Helper (at.Start k.command) ∷ []
call_place plan h line d lawful k = place_next plan h line p placed ∙ ap (λ rest. after_then p.next rest) below ∙ ap (λ next. after_then next []) next_is
  where
    w : World
    w = world plan h

    known : Holds plan w
    known = lawful_holds plan h lawful.2

    p : Paid plan w line
    p = permitted plan h line lawful.0 known

    placed : IsPlaced w line.actor
    placed = is_placed plan w line.actor p.stage known.entries known.places p.stands

    says : lawful.0.stage ≡ stage.Helper (at.Call k.command)
    says = subst (λ e. IsSaid plan w.views line.time lawful.0.stage e) k.is (said plan h line lawful.2 lawful.0).0

    at_call : p.stage ≡ stage.Helper (at.Call k.command)
    at_call = same_stage _ _ (sym p.stands ∙ lawful.0.stands) ∙ says

    st : Stands (stage.Helper (at.Call k.command)) (place w line.actor)
    st = subst (λ s. Stands s (place w line.actor)) at_call (stands plan w line.actor p.stage p.stands)

    below : drop 1 (place w line.actor) ≡ []
    below = empty_below plan k.command (place w line.actor) st (stacks_nest plan h lawful.2 line.actor)

    written_row : row plan w.views (stage.Helper (at.Call k.command)) line.time ≡ Some (writes line.event p.change p.next)
    written_row = subst (λ s. row plan w.views s line.time ≡ Some (writes line.event p.change p.next)) at_call (paid_row plan w line p)

    next_is : p.next ≡ goes (stage.Helper (at.Start k.command))
    next_is = row_next _ _ _ _ _ _ written_row ∙ starts k.command.helper k.command.dev k.command.number line.time (front _ _ k.get)

-- the call line itself
never_begins : (x : DevId) (e : Event) (c : Command) → e ≡ event.Call c → begins_resume x e ≡ false
never_begins x e c is = ap (begins_resume x) is

none_begun : (x : DevId) (line : Line) → begins_resume x line.event ≡ false → resumes_begun x (line ∷ []) ≡ 0
none_begun x line quiet =
    let more = begun_more x line [] in
    let now : one (begins_resume x line.event) ≡ 0 = rw quiet refl in
    let none : resumes_begun x [] ≡ 0 = refl in
    omega (arith, more, now, none)

inside_call : (plan : Plan) (h : History) (line : Line) (d : DevId) → IsLawful plan (line ∷ h) → Calls d line.event → Inside plan (line ∷ h) line.actor d (line ∷ [])
inside_call plan h line d lawful k =
    let is = call_place plan h line d lawful k in
    record {
      based = ap (stands_on d) is ∙ k.get;
      held = ap (some_of (lacks (is_held (world plan (line ∷ h)).views))) is;
      spent = λ x some. absurd (omega (arith, some, none_begun x line (never_begins x line.event k.command k.is)));
    }

-- what holds of the lines of one call
record Counted (plan : Plan) (before : History) (c : ℕ) (d : DevId) (lines : History) : Type 0 where
  pub once : (x : DevId) → resumes_begun x lines ≤ 1
  pub reached : AreReached plan d before lines
  pub inside : is_open lines ≡ true → Inside plan (lines ++ before) (Caller c) d lines

open_front : (line : Line) (lines : History) → is_open (line ∷ lines) ≡ true → is_return line.event ≡ false
open_front line lines unclosed = go (is_return line.event) (front _ _ unclosed)
  where
    go : (b : Bool) → not b ≡ true → b ≡ false
    go true e = cc
    go false e = refl

counted_call : (plan : Plan) (before : History) (c : ℕ) (d : DevId) (line : Line) → line.actor ≡ Caller c → Calls d line.event → IsLawful plan (line ∷ before)
    → Counted plan before c d (line ∷ [])
counted_call plan before c d line actor k lawful = record {
  once = λ x. let none = none_begun x line (never_begins x line.event k.command k.is) in omega (arith, none);
  reached = (λ x begun. differ begun (never_begins x line.event k.command k.is), tt);
  inside = λ _. subst (λ a. Inside plan (line ∷ before) a d (line ∷ [])) actor (inside_call plan before line d lawful k);
}

counted_more : (plan : Plan) (before : History) (c : ℕ) (d : DevId) (line : Line) (lines : History) → Counted plan before c d lines → is_open lines ≡ true → line.actor ≡ Caller c
    → IsLawful plan (line ∷ (lines ++ before)) → Counted plan before c d (line ∷ lines)
counted_more plan before c d line lines so_far unclosed actor lawful = record {
  once = counted_line plan (lines ++ before) line d lines k so_far.once;
  reached = (reached_line plan (lines ++ before) line d lines k, so_far.reached);
  inside = λ more. subst (λ a. Inside plan (line ∷ (lines ++ before)) a d (line ∷ lines)) actor (inside_line plan (lines ++ before) line d lines lawful (open_front line lines more) k);
}
  where
    inside : Inside plan (lines ++ before) line.actor d lines
    inside = subst (λ a. Inside plan (lines ++ before) a d lines) (sym actor) (so_far.inside unclosed)

    k : Within plan (lines ++ before) line d lines
    k = record { it = written plan (lines ++ before) line d lawful inside.based inside.held; before = inside }

counted : (plan : Plan) (before : History) (c : ℕ) (d : DevId) (lines : History) → OneCall c d lines → IsLawful plan (lines ++ before) → Counted plan before c d lines
counted plan before c d _ (from_call line actor calls) lawful = counted_call plan before c d line actor (calls_it d line.event calls) lawful
counted plan before c d _ (one_more line lines call unclosed actor) lawful = counted_more plan before c d line lines (counted plan before c d lines call lawful.2) unclosed actor lawful

-- a lawful list without its newest lines is lawful
older : (plan : Plan) (later h : History) → IsLawful plan (later ++ h) → IsLawful plan h
older plan [] h lawful = lawful
older plan (line ∷ later) h lawful = older plan later h lawful.2

pub one_call_alone : (plan : Plan) (h : History) → IsLawful plan h → IsAlone plan h
one_call_alone plan h lawful later lines before c d is call =
    let it = counted plan before c d lines call (older plan later (lines ++ before) (subst (IsLawful plan) is lawful)) in
    (it.once, it.reached)
