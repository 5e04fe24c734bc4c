-- Where no actor stands at a stage the run is finished.
use Rattle.std.proofs.Common.{ℕ, suc, ◌≡◌, ◌+◌, Bool, true, false, not, List, [], ◌∷◌, Option, Some, None, length, nat_le, is_none, slice_get, slice_index_or, if◌then◌else◌, ap, refl, ◌∙◌, arith, inl, inr}
use Rattle.std.specs.List.{list_all, enumerate_from}
use Rattle.std.specs.Option.{option_map}
use Rattle.std.proofs.lemmas.Bool.Decides.{nat_tests}
use Rattle.std.proofs.lemmas.Option.{slice_get_cases}
use Rattle.pm_base.specs.declared.ActorId.{ActorId}
use Rattle.pm_base.specs.declared.ActorId.TheVariants.{Caller, Work, Timer}
use Rattle.pm_base.specs.declared.Armed.{Armed}
use Rattle.pm_model.specs.declared.plan.Plan.{Plan}
use Rattle.pm_model.specs.declared.rows.CallerRow.{CallerRow}
use Rattle.pm_model.specs.declared.stage.HelperStage.TheVariants as at
use Rattle.pm_model.specs.declared.stage.Stage.{Stage}
use Rattle.pm_model.specs.declared.stage.Stage.TheVariants as stage
use Rattle.pm_model.specs.Lawful.{is_empty_place, is_finished}
use Rattle.pm_model.specs.Views.{fresh_pending, pending_of, timer}
use Rattle.pm_model.specs.World.{World, called_by, place, ready, stage_at, top}

-- a test of all entries
all_of : {A : Type 0} (test : A → Bool) (xs : List A) (past : A) → ((i : ℕ) → test (slice_index_or xs i past) ≡ true) → list_all test xs ≡ true
all_of test [] past each = refl
all_of test (x ∷ xs) past each = rw (each 0, all_of test xs past (λ i. each (suc i))) refl

-- the same of entries with their places
each_of : {A : Type 0} (test : ℕ × A → Bool) (n : ℕ) (xs : List A) → ((i : ℕ) (x : A) → slice_get xs i ≡ Some x → test (n + i, x) ≡ true)
    → list_all test (enumerate_from n xs) ≡ true
each_of test n [] each = refl
each_of {A} test n (x ∷ xs) each =
    let here : test (n, x) ≡ true = let n_is : n ≡ n + 0 = omega arith in ap (λ m. test (m, x)) n_is ∙ each 0 x refl in
    rw (here, each_of test (n + 1) xs further) refl
  where
    further : (i : ℕ) (y : A) → slice_get xs i ≡ Some y → test (n + 1 + i, y) ≡ true
    further i y is = let n_is : n + 1 + i ≡ n + suc i = omega arith in ap (λ m. test (m, y)) n_is ∙ each (suc i) y is

-- an empty place, and nothing to start
no_top : (o : Option Stage) (stack : List Stage) → top o stack ≡ None → (is_empty_place stack ≡ true) × (o ≡ None)
no_top o [] is = (refl, is)
no_top o (s ∷ rest) is = cc

script_ends : (plan : Plan) (w : World) (c : ℕ) (row : CallerRow) → slice_get plan.callers c ≡ Some row → ready plan w (Caller c) ≡ None
    → nat_le (length row.script) (called_by w c) ≡ true
script_ends plan w c row is none = elim (slice_get_cases row.script (called_by w c)).1 [
  | inl more ↦ let next : Some (stage.Helper (at.Call more.0)) ≡ None = rw (is, more.2) at none in cc
  | inr past ↦ let le = past.0 in grind (arith, nat_tests)
]

none_queued : (plan : Plan) (w : World) (d : ℕ) → ready plan w (Work d) ≡ None → not (pending_of w.views (record { 0 = d })).queued ≡ true
none_queued plan w d none = go (pending_of w.views (record { 0 = d })).queued none
  where
    go : (b : Bool) → (if b then Some (stage.Helper (at.Work (record { 0 = d }))) else None) ≡ None → not b ≡ true
    go true none = cc
    go false none = refl

none_armed : (plan : Plan) (w : World) (d : ℕ) → ready plan w (Timer d) ≡ None → is_none (timer w.views (record { 0 = d })) ≡ true
none_armed plan w d none = go (timer w.views (record { 0 = d })) none
  where
    go : (o : Option Armed) → option_map (λ armed. stage.Helper (at.Timer (record { 0 = d }))) o ≡ None → is_none o ≡ true
    go None none = refl
    go (Some armed) none = cc

pub all_rest : (plan : Plan) (w : World) → ((a : ActorId) → stage_at plan w a ≡ None) → is_finished plan w ≡ true
all_rest plan w none = rw (scripts, callers, works, timers, queued, armed) refl
  where
    parts : (a : ActorId) → (is_empty_place (place w a) ≡ true) × (ready plan w a ≡ None)
    parts a = no_top (ready plan w a) (place w a) (none a)

    ended : (c : ℕ) (row : CallerRow) → slice_get plan.callers c ≡ Some row → nat_le (length row.script) (called_by w (0 + c)) ≡ true
    ended c row is = let c_is : 0 + c ≡ c = omega arith in ap (λ n. nat_le (length row.script) (called_by w n)) c_is ∙ script_ends plan w c row is (parts (Caller c)).1

    scripts : list_all (λ p. nat_le (length p.1.script) (called_by w p.0)) (enumerate_from 0 plan.callers) ≡ true
    scripts = each_of (λ p. nat_le (length p.1.script) (called_by w p.0)) 0 plan.callers ended

    callers : list_all is_empty_place w.caller_places ≡ true
    callers = all_of is_empty_place w.caller_places [] (λ c. (parts (Caller c)).0)

    works : list_all is_empty_place w.work_places ≡ true
    works = all_of is_empty_place w.work_places [] (λ d. (parts (Work d)).0)

    timers : list_all is_empty_place w.timer_places ≡ true
    timers = all_of is_empty_place w.timer_places [] (λ d. (parts (Timer d)).0)

    queued : list_all (λ pending. not pending.queued) w.views.pending ≡ true
    queued = all_of (λ pending. not pending.queued) w.views.pending fresh_pending (λ d. none_queued plan w d (parts (Work d)).1)

    armed : list_all is_none w.views.timers ≡ true
    armed = all_of is_none w.views.timers None (λ d. none_armed plan w d (parts (Timer d)).1)
