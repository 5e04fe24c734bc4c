-- What each line that may come next says, and that no place of an actor calls a command.
use Rattle.std.proofs.Common.{ℕ, suc, ◌≡◌, List, [], ◌∷◌, Some, drop, length, ap, sym, ◌∙◌, subst, arith}
use Rattle.std.specs.Option.{option_and_then}
use Rattle.pm_base.specs.declared.ActorId.{ActorId}
use Rattle.pm_model.specs.declared.event.Line.{Line}
use Rattle.pm_model.specs.declared.plan.Plan.{Plan}
use Rattle.pm_model.specs.declared.stage.Stage.{Stage}
use Rattle.pm_model.specs.declared.stage.Stage.TheVariants as stage
use Rattle.pm_model.specs.ChangeViews.{change_views}
use Rattle.pm_model.specs.Events.{by_event}
use Rattle.pm_model.specs.Lawful.{IsLawful, Permits}
use Rattle.pm_model.specs.Row.{Row, writes}
use Rattle.pm_model.specs.Views.{Views}
use Rattle.pm_model.specs.WellFormed.{suspend_device}
use Rattle.pm_model.specs.World.{World, after_line, counts_call, due, place, row, row_at, world}
use Rattle.pm_laws.proofs.counts.Places.{is_placed}
use Rattle.pm_laws.proofs.counts.Runs.{lawful_holds, views_after, written}
use Rattle.pm_laws.specs.stacks.Fit.{HasDelays, IsTold}
use Rattle.pm_laws.specs.stacks.Shape.{Fits}
use Rattle.pm_laws.proofs.stacks.Fitting.{delays_kept, stands_fit}
use Rattle.pm_laws.proofs.stacks.Obeying.{Obeys}
use Rattle.pm_laws.proofs.stacks.Stacks.{empty_place, obeys_same, stack_placed}
use Rattle.pm_laws.proofs.stacks.Standing.{stands}
use Rattle.pm_laws.proofs.bounds.ControlSays.{control_says}
use Rattle.pm_laws.proofs.bounds.Places.{IsRet, rest_later, stands_ret, then_later}
use Rattle.pm_laws.proofs.bounds.Rising.{AreWithin, within_lines}
use Rattle.pm_laws.proofs.bounds.Saying.{AreLater, Saying, soon_armed}
use Rattle.pm_laws.proofs.bounds.TableSays.{helper_says, idle_says, resume_says, suspend_says}

row_says : (plan : Plan) (v : Views) (n t : ℕ) (s : Stage) (r : Row) → HasDelays v → AreWithin n t v → IsTold plan v s → Fits plan s → IsRet s
    → row plan v s t ≡ Some r → Obeys (Saying plan v t s) r
row_says plan v n t (stage.Idle s) r delays within told fits ret e = obeys_same _ _ r e (idle_says plan v t (stage.Idle s) s)
row_says plan v n t (stage.Suspend s) r delays within told fits ret e =
    let d = suspend_device s in obeys_same _ _ r e (suspend_says plan v t (stage.Suspend s) s (soon_armed v d t (delays d) (within d).1))
row_says plan v n t (stage.Resume s) r delays within told fits ret e = obeys_same _ _ r e (resume_says plan v t (stage.Resume s) s)
row_says plan v n t (stage.Helper s) r delays within told fits ret e = obeys_same _ _ r e (helper_says plan v t s fits ret)
row_says plan v n t (stage.Control s) r delays within told fits ret e = obeys_same _ _ r e (control_says plan v t (stage.Control s) s told)
row_says plan v n t (stage.Await s) r delays within told fits ret e = cc

-- the row that writes a permitted line
pub row_is : (plan : Plan) (h : List Line) (line : Line) → (p : Permits plan h line)
    → row plan (world plan h).views p.stage line.time ≡ Some (writes line.event p.change p.next)
row_is plan h line p =
    let v = (world plan h).views in written (due plan v p.stage) line.time (row plan v p.stage line.time) line.event p.change p.next p.gives

pub leads : (plan : Plan) (h : List Line) (line : Line) → (p : Permits plan h line)
    → row_at plan (world plan h) line.actor line.time ≡ Some (writes line.event p.change p.next)
leads plan h line p = ap (option_and_then (λ s. row plan (world plan h).views s line.time)) p.stands ∙ row_is plan h line p

-- the views after it
pub views_now : (plan : Plan) (h : List Line) (line : Line) → (p : Permits plan h line)
    → (world plan (line ∷ h)).views ≡ by_event plan line.time line.event (change_views plan line.time p.change (world plan h).views)
views_now plan h line p =
    let w = world plan h in ap (λ r. let x : World = after_line plan w line r in x.views) (leads plan h line p) ∙ views_after plan w line p.change p.next

says : (plan : Plan) (h : List Line) (line : Line) → IsLawful plan h → ((a : ActorId) → AreLater (place (world plan h) a)) → (p : Permits plan h line)
    → Saying plan (world plan h).views line.time p.stage line.event p.change p.next
says plan h line lawful later p =
    let w = world plan h in
    let fit = stands_fit plan h line.actor p.stage lawful p.stands in
    let ret = stands_ret p.stage (place w line.actor) (later line.actor) (stands plan w line.actor p.stage p.stands) in
    let within : AreWithin (suc (length h)) line.time w.views = λ d. ((within_lines plan h lawful d).0, omega (arith, (within_lines plan h lawful d).1, p.in_time)) in
    (row_says plan w.views (suc (length h)) line.time p.stage (writes line.event p.change p.next) (delays_kept plan h lawful) within fit.told fit.fits ret (row_is plan h line p)).paid

-- no stage of a place calls a command
pub places_later : (plan : Plan) (h : List Line) → IsLawful plan h → (a : ActorId) → AreLater (place (world plan h) a)
places_later plan [] lawful a = rw (empty_place plan a) tt
places_later plan (line ∷ h) lawful a =
    let w = world plan h in
    let p = lawful.0 in
    let holds = lawful_holds plan h lawful.2 in
    let before = places_later plan h lawful.2 in
    let placed = is_placed plan w line.actor p.stage holds.entries holds.places p.stands in
    let new = then_later p.next (drop 1 (place w line.actor)) (says plan h line lawful.2 before p).1 (rest_later (place w line.actor) (before line.actor)) in
    let now : AreLater (place (after_line plan w line (Some (writes line.event p.change p.next))) a) = stack_placed (λ _. AreLater) w (by_event plan line.time line.event (change_views plan line.time p.change w.views)) (counts_call line.actor line.event w.called) line.actor a _ placed new before in
    subst (λ r. AreLater (place (after_line plan w line r) a)) (sym (leads plan h line p)) now

pub said : (plan : Plan) (h : List Line) (line : Line) → IsLawful plan h → (p : Permits plan h line)
    → Saying plan (world plan h).views line.time p.stage line.event p.change p.next
said plan h line lawful p = says plan h line lawful (places_later plan h lawful) p
