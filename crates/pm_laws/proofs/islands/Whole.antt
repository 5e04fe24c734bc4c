-- Lawful lists of the islands make a lawful list of the whole.
use Rattle.std.proofs.Common.{ℕ, ◌≡◌, ◌≤◌, Bool, true, false, cond, List, [], ◌∷◌, Option, Some, None, nat_eq, refl, sym, subst, ◌∙◌, ap, length, arith}
use Rattle.std.specs.Prelude.{option_map}
use Rattle.std.proofs.lemmas.Bool.{eqb-true}
use Rattle.pm_base.specs.declared.ActorId.{ActorId}
use Rattle.pm_base.specs.declared.ActorId.TheVariants.{Caller, Work, Timer}
use Rattle.pm_model.specs.declared.event.Line.{Line}
use Rattle.pm_model.specs.declared.plan.Plan.{Plan}
use Rattle.pm_model.specs.declared.stage.Change.{Change}
use Rattle.pm_model.specs.declared.stage.Move.TheVariants.{Write}
use Rattle.pm_model.specs.declared.stage.Stage.{Stage}
use Rattle.pm_model.specs.declared.stage.Then.{Then}
use Rattle.pm_laws.specs.islands.Apart.{IsInTime}
use Rattle.pm_model.specs.ChangeViews.{change_views}
use Rattle.pm_model.specs.Lawful.{IsLawful, Permits, last_time}
use Rattle.pm_model.specs.PlanRows.{ms_of}
use Rattle.pm_model.specs.Row.{Row, writes, waits, timed}
use Rattle.pm_model.specs.Views.{Views}
use Rattle.pm_model.specs.World.{World, row, due, move, stage_at, row_at, after_line, start, world}
use Rattle.pm_laws.proofs.counts.Runs.{written}
use Rattle.pm_laws.proofs.stacks.Tests.{same_self}
use Rattle.pm_laws.proofs.islands.HeldLinks.{bound_holds}
use Rattle.pm_laws.proofs.islands.Region.{AreBound, WorldsAgree, ArePlaced, StageIn, StagesIn, StaysIn, is_actor_of, is_own_link}
use Rattle.pm_laws.proofs.islands.Isles.{Labelled, are_apart, at_home, callers_in, home, isle, law_in, own_of, part, same_scripts}
use Rattle.pm_laws.proofs.islands.LocalChanges.{agree_refl}
use Rattle.pm_laws.proofs.islands.AlikeLists.{const_at, alike_refl, alike_sym, alike_const, alike_get}
use Rattle.pm_laws.proofs.islands.ScriptsAside.{same_change, same_event, same_row}
use Rattle.pm_laws.proofs.islands.StageSteps.{row_alike, row_stays, due_alike, bound_alike}
use Rattle.pm_laws.proofs.islands.IslandSteps.{stage_alike, stage_in, own_line, other_line, own_placed, worlds_trans, worlds_sym}

-- a stage of an island's actor doesn't read other scripts
part_stage : (plan : Plan) (p : Labelled plan) (i : ℕ) (w : World) (a : ActorId) → is_actor_of (isle p i) a ≡ true → stage_at (part p i) w a ≡ stage_at plan w a
part_stage plan p i w (Caller c) own = rw (alike_get (isle p i).callers (callers_in p i) plan.callers c (same_scripts p i) own) refl
part_stage plan p i w (Work d) own = refl
part_stage plan p i w (Timer d) own = refl

part_due : (plan : Plan) (p : Labelled plan) (i : ℕ) (v : Views) (s : Stage) → due (part p i) v s ≡ due plan v s
unfolding ms_of
part_due plan p i v s = refl

part_line : (plan : Plan) (p : Labelled plan) (i : ℕ) (w : World) (line : Line) (r : Option Row) → after_line (part p i) w line r ≡ after_line plan w line r
part_line plan p i w line (Some (writes e change next)) =
    rw (same_change plan (callers_in p i) (law_in p i) line.time change w.views, same_event plan (callers_in p i) (law_in p i) line.time line.event (change_views plan line.time change w.views)) refl
part_line plan p i w line (Some (waits d)) = rw (same_event plan (callers_in p i) (law_in p i) line.time line.event w.views) refl
part_line plan p i w line None = rw (same_event plan (callers_in p i) (law_in p i) line.time line.event w.views) refl

abbrev pub no_stages : List Stage
no_stages = []

-- after lines h of all, and g of its own in its part, the island stands alike, and its stages lie in it
abbrev pub Fares : {plan : Plan} → Labelled plan → ℕ → List Line → List Line → Type 0
Fares {plan} p i h g = WorldsAgree plan (isle p i) (world plan h) (world (part p i) g) × ArePlaced plan (isle p i) (world (part p i) g)

-- after these lines each island is as after its own
abbrev pub Meets : {plan : Plan} → Labelled plan → List Line → Type 0
Meets p h = (i : ℕ) → Fares p i h (own_of p i h)

start_agrees : (plan : Plan) (p : Labelled plan) (i : ℕ) → WorldsAgree plan (isle p i) (start plan) (start (part p i))
start_agrees plan p i = record {
  views = agree_refl plan (isle p i).region (start plan).views;
  caller_places = alike_const (isle p i).callers [] plan.callers (callers_in p i) (alike_sym (isle p i).callers (callers_in p i) plan.callers (same_scripts p i));
  work_places = alike_refl (isle p i).region.inside (start plan).work_places;
  timer_places = alike_refl (isle p i).region.inside (start plan).timer_places;
  called = alike_const (isle p i).callers 0 plan.callers (callers_in p i) (alike_sym (isle p i).callers (callers_in p i) plan.callers (same_scripts p i));
}

start_placed : (plan : Plan) (p : Labelled plan) (i : ℕ) → ArePlaced plan (isle p i) (start (part p i))
start_placed plan p i (Caller c) own = subst (λ x. StagesIn (isle p i).region x) (sym (const_at (callers_in p i) c no_stages)) tt
start_placed plan p i (Work d) own = subst (λ x. StagesIn (isle p i).region x) (sym (const_at plan.devices d no_stages)) tt
start_placed plan p i (Timer d) own = subst (λ x. StagesIn (isle p i).region x) (sym (const_at plan.devices d no_stages)) tt

-- a line that the part permits is permitted in the whole, by the same row
record Step (plan : Plan) (p : Labelled plan) (i : ℕ) (h : List Line) (line : Line) : Type 0 where
  change : Change
  next : Then
  stays : StaysIn plan (isle p i).region (writes line.event change next)
  here : row_at plan (world plan h) line.actor line.time ≡ Some (writes line.event change next)
  there : row_at (part p i) (world (part p i) (own_of p i h)) line.actor line.time ≡ Some (writes line.event change next)
  permits : Permits plan h line

step : (plan : Plan) (p : Labelled plan) (i : ℕ) (h : List Line) (line : Line) → Meets p h → is_actor_of (isle p i) line.actor ≡ true → last_time h ≤ line.time
    → AreBound (is_own_link (isle p i).region) plan.links (world (part p i) (own_of p i h)).views.held → Permits (part p i) (own_of p i h) line → Step plan p i h line
step plan p i h line meets home ordered bound permits =
    let k = isle p i in
    let w = world (part p i) (own_of p i h) in
    let agree = (meets i).0 in
    let s = permits.stage in
    let there : stage_at plan w line.actor ≡ Some s = sym (part_stage plan p i w line.actor home) ∙ permits.stands in
    let here : stage_at plan (world plan h) line.actor ≡ Some s = stage_alike line.actor agree home ∙ there in
    let inside : StageIn k.region s = stage_in plan k w line.actor s (meets i).1 home there in
    let r : Row = writes line.event permits.change permits.next in
    let wrote : row (part p i) w.views s line.time ≡ Some r = written (due (part p i) w.views s) line.time (row (part p i) w.views s line.time) line.event permits.change permits.next permits.gives in
    let its : row plan w.views s line.time ≡ Some r = sym (same_row plan (callers_in p i) (law_in p i) w.views s line.time) ∙ wrote in
    let ours : row plan (world plan h).views s line.time ≡ Some r = row_alike line.time s agree.views inside ∙ its in
    let dues : due plan (world plan h).views s ≡ due (part p i) w.views s =
    due_alike s agree.views inside ∙ sym (part_due plan p i w.views s) in
    let moves : move plan (world plan h).views s line.time ≡ Some (Write line.event permits.change permits.next) =
    rw (dues, ours) (sym (ap (λ x. option_map (timed (due (part p i) w.views s) line.time) x) wrote) ∙ permits.gives) in
    record {
      change = permits.change;
      next = permits.next;
      stays = row_stays plan k.region w.views line.time s r inside bound its;
      here = rw here ours;
      there = rw permits.stands wrote;
      permits = record { stage = s; stands = here; change = permits.change; next = permits.next; gives = moves; in_time = ordered };
    }

tail_lawful : (q : Plan) (b : Bool) (line : Line) (g : List Line) → IsLawful q (cond b (line ∷ g) g) → IsLawful q g
tail_lawful q true line g l = l.2
tail_lawful q false line g l = l

-- the world after one more line
pub world_goes : (plan : Plan) (h : List Line) (line : Line) (r : Option Row) → row_at plan (world plan h) line.actor line.time ≡ r
    → world plan (line ∷ h) ≡ after_line plan (world plan h) line r
world_goes plan h line r e = ap (λ x. after_line plan (world plan h) line x) e

own_meets : (plan : Plan) (p : Labelled plan) (i : ℕ) (h : List Line) (line : Line) → Meets p h → is_actor_of (isle p i) line.actor ≡ true → Step plan p i h line
    → Fares p i (line ∷ h) (line ∷ own_of p i h)
own_meets plan p i h line meets home s =
    let k = isle p i in
    let w = world (part p i) (own_of p i h) in
    let r = Some (writes line.event s.change s.next) in
    let its : world (part p i) (line ∷ own_of p i h) ≡ after_line plan w line r =
    world_goes (part p i) (own_of p i h) line r s.there ∙ part_line plan p i w line r in
    let ours : world plan (line ∷ h) ≡ after_line plan (world plan h) line r = world_goes plan h line r s.here in
    let agree : WorldsAgree plan k (after_line plan (world plan h) line r) (after_line plan w line r) =
    own_line line s.change s.next (meets i).0 home s.stays in
    let placed : ArePlaced plan k (after_line plan w line r) = own_placed plan k w line s.change s.next (meets i).1 home s.stays in (
      subst (λ x. WorldsAgree plan k x (world (part p i) (line ∷ own_of p i h))) (sym ours) (subst (λ y. WorldsAgree plan k (after_line plan (world plan h) line r) y) (sym its) agree),
      subst (λ y. ArePlaced plan k y) (sym its) placed,
    )

other_meets : (plan : Plan) (p : Labelled plan) (i j : ℕ) (h : List Line) (line : Line) → Meets p h → is_actor_of (isle p i) line.actor ≡ true → nat_eq i j ≡ false
    → AreBound (is_own_link (isle p i).region) plan.links (world (part p i) (own_of p i h)).views.held → Step plan p i h line
    → WorldsAgree plan (isle p j) (world plan (line ∷ h)) (world (part p j) (own_of p j h))
other_meets plan p i j h line meets home apart bound s =
    let k = isle p i in
    let l = isle p j in
    let w = world (part p i) (own_of p i h) in
    let r = Some (writes line.event s.change s.next) in
    let held = bound_alike (is_own_link k.region) plan.links (world plan h).views.held w.views.held (meets i).0.views.held bound in
    let ours : world plan (line ∷ h) ≡ after_line plan (world plan h) line r = world_goes plan h line r s.here in
    let still = other_line plan k l (world plan h) line s.change s.next (are_apart p i j apart) home s.stays held in
    subst (λ x. WorldsAgree plan l x (world (part p j) (own_of p j h))) (sym ours) (worlds_trans (worlds_sym still) (meets j).0)

-- lines whose times don't fall, no more than the plan allows, are lawful where each island's own are lawful for its part
pub merges : (plan : Plan) (p : Labelled plan) (h : List Line) → IsInTime h → length h ≤ plan.lines → ((i : ℕ) → IsLawful (part p i) (own_of p i h))
    → IsLawful plan h × Meets p h
merges plan p [] timely room lawful = (tt, λ i. (start_agrees plan p i, start_placed plan p i))
merges plan p (line ∷ h) timely room lawful =
    let i = home p line.actor in
    let tails : (j : ℕ) → IsLawful (part p j) (own_of p j h) = λ j. tail_lawful (part p j) (nat_eq (home p line.actor) j) line (own_of p j h) (lawful j) in
    let before = merges plan p h timely.1 (omega (arith, room)) tails in
    let mine : IsLawful (part p i) (line ∷ own_of p i h) =
    subst (λ b. IsLawful (part p i) (cond b (line ∷ own_of p i h) (own_of p i h))) (same_self i) (lawful i) in
    let bound = bound_holds (part p i) (λ row. (isle p i).region.inside row.consumer.0) (own_of p i h) (tails i) in
    let s = step plan p i h line before.1 (at_home p line.actor) timely.0 bound mine.0 in
    ((s.permits, omega (arith, room), before.0), λ j. each j before.1 bound s)
  where
    each : (j : ℕ) → Meets p h
        → AreBound (λ row. (isle p (home p line.actor)).region.inside row.consumer.0) plan.links (world (part p (home p line.actor)) (own_of p (home p line.actor) h)).views.held
        → Step plan p (home p line.actor) h line
        → Fares p j (line ∷ h) (own_of p j (line ∷ h))
    each j meets bound s = go (nat_eq (home p line.actor) j) refl
      where
        fit : (b : Bool) → nat_eq (home p line.actor) j ≡ b → Fares p j (line ∷ h) (cond b (line ∷ own_of p j h) (own_of p j h)) → Fares p j (line ∷ h) (own_of p j (line ∷ h))
        fit b e x = subst (λ c. Fares p j (line ∷ h) (cond c (line ∷ own_of p j h) (own_of p j h))) (sym e) x

        go : (b : Bool) → nat_eq (home p line.actor) j ≡ b → Fares p j (line ∷ h) (own_of p j (line ∷ h))
        go true e =
            let same : home p line.actor ≡ j = eqb-true (home p line.actor) j e in
            fit true e (subst (λ n. Fares p n (line ∷ h) (line ∷ own_of p n h)) same (own_meets plan p (home p line.actor) h line meets (at_home p line.actor) s))
        go false e = fit false e (other_meets plan p (home p line.actor) j h line meets (at_home p line.actor) e bound s, (meets j).1)
