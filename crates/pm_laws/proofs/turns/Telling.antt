-- Whoever waits for a device has said so by its last line.
use Rattle.std.proofs.Common.{ℕ, zero, suc, ◌≡◌, ◌≢◌, Bool, true, false, List, [], ◌∷◌, ◌++◌, Option, Some, None, ℤ, drop, map, slice_index_or, if◌then◌else◌, ap, refl, sym, ◌∙◌, subst, arith}
use Rattle.std.proofs.lemmas.Bool.{false≢true}
use Rattle.std.proofs.lemmas.Bool.Decides.{nat_tests}
use Rattle.std.proofs.lemmas.List.{get_or-set_same}
use Rattle.pm_base.specs.declared.ActorId.{ActorId}
use Rattle.pm_base.specs.declared.ActorId.TheVariants.{Caller, Work, Timer}
use Rattle.pm_base.specs.declared.DevId.{DevId}
use Rattle.pm_model.specs.declared.event.Line.{Line}
use Rattle.pm_model.specs.declared.plan.Plan.{Plan}
use Rattle.pm_model.specs.declared.stage.Await.TheVariants as await
use Rattle.pm_model.specs.declared.stage.Change.{Change}
use Rattle.pm_model.specs.declared.stage.ControlStage.TheVariants as control
use Rattle.pm_model.specs.declared.stage.Handed.TheVariants as handed
use Rattle.pm_model.specs.declared.stage.Stage.{Stage}
use Rattle.pm_model.specs.declared.stage.Stage.TheVariants as stage
use Rattle.pm_model.specs.declared.stage.Then.{Then}
use Rattle.pm_model.specs.Handing.{after_back, after_code, after_then, gone_on, take_code}
use Rattle.pm_model.specs.History.{History}
use Rattle.pm_model.specs.Lawful.{IsLawful, Permits}
use Rattle.pm_model.specs.ResumeTable.{is_supplied}
use Rattle.pm_model.specs.Row.{writes}
use Rattle.pm_model.specs.World.{World, after_line, place, with_place, world}
use Rattle.pm_laws.proofs.counts.Places.{IsPlaced, is_placed}
use Rattle.pm_laws.proofs.counts.Runs.{lawful_holds}
use Rattle.pm_laws.specs.turns.Told.{AreAwaits, IsCalm, IsShown, is_actor, told_wait, wait_in}
use Rattle.pm_laws.proofs.turns.Frames.{leads_to, moved, place_kept, place_moved, row_of}
use Rattle.pm_laws.proofs.turns.Leading.{row_leads}

awaits_shown : (l : List Stage) → AreAwaits l → IsShown None l
awaits_shown [] are = (refl, tt)
awaits_shown (stage.Await a ∷ rest) are = (refl, are)
awaits_shown (stage.Idle _ ∷ rest) are = elim are [ ]
awaits_shown (stage.Suspend _ ∷ rest) are = elim are [ ]
awaits_shown (stage.Resume _ ∷ rest) are = elim are [ ]
awaits_shown (stage.Helper _ ∷ rest) are = elim are [ ]
awaits_shown (stage.Control _ ∷ rest) are = elim are [ ]

awaits_joined : (l rest : List Stage) → AreAwaits l → AreAwaits rest → AreAwaits (l ++ rest)
awaits_joined [] rest p q = q
awaits_joined (stage.Await a ∷ l) rest p q = awaits_joined l rest p q
awaits_joined (stage.Idle _ ∷ l) rest p q = elim p [ ]
awaits_joined (stage.Suspend _ ∷ l) rest p q = elim p [ ]
awaits_joined (stage.Resume _ ∷ l) rest p q = elim p [ ]
awaits_joined (stage.Helper _ ∷ l) rest p q = elim p [ ]
awaits_joined (stage.Control _ ∷ l) rest p q = elim p [ ]

joined_shown : (o : Option DevId) (l rest : List Stage) → IsShown o l → AreAwaits rest → IsShown o (l ++ rest)
joined_shown o [] rest p q = subst (λ x. IsShown x rest) p.0 (awaits_shown rest q)
joined_shown o (s ∷ l) rest p q = (p.0, awaits_joined l rest p.1 q)

code_shown : (l : List Stage) (c : ℤ) → AreAwaits l → IsShown None (after_code l c)
unfolding take_code
code_shown [] c are = (refl, tt)
code_shown (stage.Await (await.ResumePut r kept) ∷ rest) c are = code_shown rest kept are
code_shown (stage.Await (await.ActiveSupplier d link) ∷ rest) c are = go (is_supplied c)
  where
    go : (b : Bool) → IsShown None (gone_on (if b then handed.Goes (stage.Control (control.ActiveLinks d)) else handed.Goes (stage.Control (control.ActiveUnwind d c))) rest)
    go true = (refl, are)
    go false = (refl, are)
code_shown (stage.Await _ ∷ rest) c are = (refl, are)
code_shown (stage.Idle _ ∷ rest) c are = elim are [ ]
code_shown (stage.Suspend _ ∷ rest) c are = elim are [ ]
code_shown (stage.Resume _ ∷ rest) c are = elim are [ ]
code_shown (stage.Helper _ ∷ rest) c are = elim are [ ]
code_shown (stage.Control _ ∷ rest) c are = elim are [ ]

back_shown : (o : Option DevId) (back : Option ℤ) (push rest : List Stage) → IsShown o push × IsCalm o back → AreAwaits rest → IsShown o (after_back back push rest)
back_shown o None push rest p q = joined_shown o push rest p.0 q
back_shown o (Some c) push rest p q = subst (λ x. IsShown x (after_code rest c)) (sym p.1) (code_shown rest c q)

then_shown : (o old : Option DevId) (next : Then) (l : List Stage) → IsShown o next.push × IsCalm o next.back → IsShown old l → IsShown o (after_then next (drop 1 l))
then_shown o old next l p q = back_shown o next.back next.push (drop 1 l) p q.1

-- the actors
pub same_actor : (a b : ActorId) → is_actor a b ≡ true → a ≡ b
same_actor (Caller a) (Caller b) e = let same : a ≡ b = grind (arith, nat_tests) in ap (λ n. Caller n) same
same_actor (Work a) (Work b) e = let same : a ≡ b = grind (arith, nat_tests) in ap (λ n. Work n) same
same_actor (Timer a) (Timer b) e = let same : a ≡ b = grind (arith, nat_tests) in ap (λ n. Timer n) same
same_actor (Caller a) (Work b) e = cc
same_actor (Caller a) (Timer b) e = cc
same_actor (Work a) (Caller b) e = cc
same_actor (Work a) (Timer b) e = cc
same_actor (Timer a) (Caller b) e = cc
same_actor (Timer a) (Work b) e = cc

pub is_itself : (a : ActorId) → is_actor a a ≡ true
is_itself (Caller a) = grind (arith, nat_tests)
is_itself (Work a) = grind (arith, nat_tests)
is_itself (Timer a) = grind (arith, nat_tests)

pub other_actor : (a b : ActorId) → is_actor a b ≡ false → a ≢ b
other_actor a b e same = absurd (false≢true (sym e ∙ ap (λ x. is_actor x b) same ∙ is_itself b))

-- the place of the line's own actor
placed_shown : (o : Option DevId) (w : World) (a : ActorId) (l : List Stage) → IsPlaced w a → IsShown o l → IsShown o (place (with_place w a l) a)
placed_shown o w (Caller c) l within p = rw (get_or-set_same w.caller_places c l [] within) p
placed_shown o w (Work c) l within p = rw (get_or-set_same w.work_places c l [] within) p
placed_shown o w (Timer c) l within p = rw (get_or-set_same w.timer_places c l [] within) p

start_shown : {A : Type 0} (rows : List A) (i : ℕ) → IsShown None (slice_index_or (map (λ _. []) rows) i [])
start_shown [] i = (refl, tt)
start_shown (x ∷ rows) zero = (refl, tt)
start_shown (x ∷ rows) (suc i) = start_shown rows i

moved_in : (plan : Plan) (w : World) (line : Line) (c : Change) (a : ActorId) → IsPlaced w a → IsPlaced (moved plan w line c) a
moved_in plan w line c (Caller k) within = within
moved_in plan w line c (Work k) within = within
moved_in plan w line c (Timer k) within = within

-- the place of an actor after a line, its own or another's
placed_after : (plan : Plan) (w : World) (line : Line) (c : Change) (l : List Stage) (old : Option DevId) (a : ActorId) (b : Bool) → is_actor a line.actor ≡ b
    → IsPlaced w line.actor → IsShown (wait_in line.event) l → IsShown old (place w a)
    → IsShown (if b then wait_in line.event else old) (place (with_place (moved plan w line c) line.actor l) a)
placed_after plan w line c l old a true is within shown before =
    subst (λ x. IsShown (wait_in line.event) (place (with_place (moved plan w line c) line.actor l) x)) (sym (same_actor a line.actor is))
    (placed_shown (wait_in line.event) (moved plan w line c) line.actor l (moved_in plan w line c line.actor within) shown)
placed_after plan w line c l old a false is within shown before =
    subst (IsShown old) (sym (place_kept (moved plan w line c) line.actor a l (other_actor a line.actor is) ∙ place_moved plan w line c a)) before

-- whoever waits for a device has said so by its last line, and nobody else has
pub all_shown : (plan : Plan) (h : History) → IsLawful plan h → (a : ActorId) → IsShown (told_wait a h) (place (world plan h) a)
all_shown plan [] lawful (Caller c) = start_shown plan.callers c
all_shown plan [] lawful (Work d) = start_shown plan.devices d
all_shown plan [] lawful (Timer d) = start_shown plan.devices d
all_shown plan (line ∷ h) lawful a = step (all_shown plan h lawful.2)
  where
    w : World
    w = world plan h

    p : Permits plan h line
    p = lawful.0

    l : List Stage
    l = after_then p.next (drop 1 (place w line.actor))

    within : IsPlaced w line.actor
    within = let holds = lawful_holds plan h lawful.2 in is_placed plan w line.actor p.stage holds.entries holds.places p.stands

    step : ((b : ActorId) → IsShown (told_wait b h) (place w b)) → IsShown (told_wait a (line ∷ h)) (place (world plan (line ∷ h)) a)
    step before =
        let leads = row_leads plan w.views line.time p.stage (writes line.event p.change p.next) (row_of plan h line p) in
        let shown : IsShown (wait_in line.event) l = then_shown (wait_in line.event) (told_wait line.actor h) p.next (place w line.actor) (leads.1, leads.2) (before line.actor) in
        subst (λ r. IsShown (told_wait a (line ∷ h)) (place (after_line plan w line r) a)) (sym (leads_to plan h line p))
        (placed_after plan w line p.change l (told_wait a h) a (is_actor a line.actor) refl within shown (before a))
