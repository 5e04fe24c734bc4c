-- After a finished list no actor stands at a stage, so no line may follow.
use Rattle.std.proofs.Common.{ℕ, zero, suc, ◌≡◌, ◌+◌, ◌≤◌, Bool, true, false, not, List, [], ◌∷◌, Option, Some, None, length, nat_le, is_none, slice_get, slice_index_or, ap, refl, sym, ◌∙◌, arith}
use Rattle.std.specs.List.{list_all, enumerate_from}
use Rattle.std.specs.Option.{option_map, option_and_then}
use Rattle.std.proofs.lemmas.Bool.{and_parts, false≢true}
use Rattle.std.proofs.lemmas.Bool.Decides.{nat_tests}
use Rattle.std.proofs.lemmas.Option.{slice_get_past}
use Rattle.pm_base.specs.declared.ActorId.{ActorId}
use Rattle.pm_base.specs.declared.ActorId.TheVariants.{Caller, Work, Timer}
use Rattle.pm_base.specs.declared.Armed.{Armed}
use Rattle.pm_model.specs.declared.event.Line.{Line}
use Rattle.pm_model.specs.declared.plan.Plan.{Plan}
use Rattle.pm_model.specs.declared.rows.CallerRow.{CallerRow}
use Rattle.pm_model.specs.declared.stage.HelperStage.TheVariants as at
use Rattle.pm_model.specs.declared.stage.Stage.{Stage}
use Rattle.pm_model.specs.declared.stage.Stage.TheVariants as stage
use Rattle.pm_model.specs.History.{History}
use Rattle.pm_model.specs.Lawful.{is_empty_place, is_finished, IsFinished, Permits}
use Rattle.pm_model.specs.Views.{fresh_pending, pending_of, timer}
use Rattle.pm_model.specs.World.{World, called_by, place, ready, stage_at, top, world}

-- a test that holds of all entries, and of what is read past them
all_at : {A : Type 0} (test : A → Bool) (l : List A) (past : A) → list_all test l ≡ true → test past ≡ true → (i : ℕ) → test (slice_index_or l i past) ≡ true
all_at test [] past all beyond i = beyond
all_at test (x ∷ l) past all beyond zero = (and_parts (test x) (list_all test l) all).0
all_at test (x ∷ l) past all beyond (suc i) = all_at test l past (and_parts (test x) (list_all test l) all).1 beyond i

-- the same of entries with their places
each_entry : {A : Type 0} (test : ℕ × A → Bool) (n : ℕ) (l : List A) (i : ℕ) (x : A) → list_all test (enumerate_from n l) ≡ true → slice_get l i ≡ Some x
    → test (n + i, x) ≡ true
each_entry test n [] i x all is = cc
each_entry test n (y ∷ l) zero x all is =
    let same : y ≡ x = cc in
    let now = (and_parts (test (n, y)) (list_all test (enumerate_from (n + 1) l)) all).0 in
    let n_is : n + 0 ≡ n = omega arith in ap (λ m. test (m, x)) n_is ∙ ap (λ z. test (n, z)) (sym same) ∙ now
each_entry test n (y ∷ l) (suc i) x all is =
    let n_is : n + suc i ≡ n + 1 + i = omega arith in
    ap (λ m. test (m, x)) n_is ∙ each_entry test (n + 1) l i x (and_parts (test (n, y)) (list_all test (enumerate_from (n + 1) l)) all).1 is

empty_top : (o : Option Stage) (stack : List Stage) → is_empty_place stack ≡ true → top o stack ≡ o
empty_top o [] is = refl
empty_top o (s ∷ rest) is = absurd (false≢true is)

not_true : (b : Bool) → not b ≡ true → b ≡ false
not_true false is = refl
not_true true is = absurd (false≢true is)

caller_rests : (plan : Plan) (w : World) (c : ℕ)
    → ((row : CallerRow) → slice_get plan.callers c ≡ Some row → nat_le (length row.script) (called_by w c) ≡ true) → ready plan w (Caller c) ≡ None
caller_rests plan w c ended = go (slice_get plan.callers c) ended
  where
    go : (o : Option CallerRow) → ((row : CallerRow) → o ≡ Some row → nat_le (length row.script) (called_by w c) ≡ true)
        → option_map (λ command. stage.Helper (at.Call command)) (option_and_then (λ caller. slice_get caller.script (called_by w c)) o) ≡ None
    go None ended = refl
    go (Some row) ended =
        let past : length row.script ≤ called_by w c = let is = ended row refl in grind (arith, nat_tests) in
        ap (option_map (λ command. stage.Helper (at.Call command))) (slice_get_past row.script (called_by w c) past)

work_rests : (plan : Plan) (w : World) (d : ℕ) → not (pending_of w.views (record { 0 = d })).queued ≡ true → ready plan w (Work d) ≡ None
work_rests plan w d is = rw (not_true _ is) refl

timer_rests : (plan : Plan) (w : World) (d : ℕ) → is_none (timer w.views (record { 0 = d })) ≡ true → ready plan w (Timer d) ≡ None
timer_rests plan w d is = go (timer w.views (record { 0 = d })) is
  where
    go : (o : Option Armed) → is_none o ≡ true → option_map (λ armed. stage.Helper (at.Timer (record { 0 = d }))) o ≡ None
    go None is = refl
    go (Some armed) is = absurd (false≢true is)

-- what a finished world has, one test at a time
record AtRest (plan : Plan) (w : World) : Type 0 where
  scripts : list_all (λ p. nat_le (length p.1.script) (called_by w p.0)) (enumerate_from 0 plan.callers) ≡ true
  callers : list_all is_empty_place w.caller_places ≡ true
  works : list_all is_empty_place w.work_places ≡ true
  timers : list_all is_empty_place w.timer_places ≡ true
  queued : list_all (λ pending. not pending.queued) w.views.pending ≡ true
  armed : list_all is_none w.views.timers ≡ true

at_rest : (plan : Plan) (w : World) → is_finished plan w ≡ true → AtRest plan w
at_rest plan w done =
    let e = and_parts _ _ done in
    let d = and_parts _ _ e.0 in
    let c = and_parts _ _ d.0 in
    let b = and_parts _ _ c.0 in
    let a = and_parts _ _ b.0 in record { scripts = a.0; callers = a.1; works = b.1; timers = c.1; queued = d.1; armed = e.1 }

rests : (plan : Plan) (w : World) → AtRest plan w → (a : ActorId) → stage_at plan w a ≡ None
rests plan w is (Caller c) =
    empty_top (ready plan w (Caller c)) (place w (Caller c)) (all_at is_empty_place w.caller_places [] is.callers refl c)
    ∙ caller_rests plan w c (λ row found. let c_is : c ≡ 0 + c = omega arith in ap (λ n. nat_le (length row.script) (called_by w n)) c_is ∙ each_entry (λ p. nat_le (length p.1.script) (called_by w p.0)) 0 plan.callers c row is.scripts found)
rests plan w is (Work d) =
    empty_top (ready plan w (Work d)) (place w (Work d)) (all_at is_empty_place w.work_places [] is.works refl d)
    ∙ work_rests plan w d (all_at (λ pending. not pending.queued) w.views.pending fresh_pending is.queued refl d)
rests plan w is (Timer d) =
    empty_top (ready plan w (Timer d)) (place w (Timer d)) (all_at is_empty_place w.timer_places [] is.timers refl d)
    ∙ timer_rests plan w d (all_at is_none w.views.timers None is.armed refl d)

pub finished_rests : (plan : Plan) (w : World) → is_finished plan w ≡ true → (a : ActorId) → stage_at plan w a ≡ None
finished_rests plan w done a = rests plan w (at_rest plan w done) a

pub nothing_follows : (plan : Plan) (h : History) (line : Line) → Permits plan h line → IsFinished plan h → ⊥
nothing_follows plan h line p done = nowhere p.stage (sym (finished_rests plan (world plan h) done line.actor) ∙ p.stands)
  where
    nowhere : (s : Stage) → None ≡ Some s → ⊥
    nowhere s e = cc
