-- Any stage: its row is alike on views that agree, and lies in the region; so do the stages that take its place.
use Rattle.std.proofs.Common.{ℕ, ◌≡◌, Bool, true, false, List, [], ◌∷◌, ◌++◌, Option, Some, None, ℤ, refl, sym, subst, ◌∙◌, ap, if◌then◌else◌}
use Rattle.std.specs.Option.{option_map_or}
use Rattle.pm_model.specs.declared.plan.Plan.{Plan}
use Rattle.pm_model.specs.declared.rows.LinkRow.{LinkRow}
use Rattle.pm_model.specs.declared.stage.Await.{Await}
use Rattle.pm_model.specs.declared.stage.Await.TheVariants as await
use Rattle.pm_model.specs.declared.stage.ControlStage.TheVariants as control
use Rattle.pm_model.specs.declared.stage.Handed.TheVariants as handed
use Rattle.pm_model.specs.declared.stage.HelperStage.TheVariants as at
use Rattle.pm_model.specs.declared.stage.IdleStage.TheVariants as idle
use Rattle.pm_model.specs.declared.stage.Stage.{Stage}
use Rattle.pm_model.specs.declared.stage.Stage.TheVariants as stage
use Rattle.pm_model.specs.declared.stage.SuspendStage.TheVariants as suspend
use Rattle.pm_model.specs.declared.stage.ResumeStage.TheVariants as resume
use Rattle.pm_model.specs.declared.stage.Then.{Then}
use Rattle.pm_model.specs.Handing.{take_code, after_code, after_back, after_then}
use Rattle.pm_model.specs.ResumeTable.{is_supplied}
use Rattle.pm_model.specs.Row.{Row}
use Rattle.pm_model.specs.Views.{Views}
use Rattle.pm_model.specs.World.{row, due}
use Rattle.pm_model.proofs.Arrivals.{after_await, on_handed}
use Rattle.pm_laws.proofs.islands.Region.{AlikeBy, AreBound, Region, Agree, StageIn, StagesIn, StaysIn, is_own_link}
use Rattle.pm_laws.proofs.islands.ViewsAlike.{timer_agrees}
use Rattle.pm_laws.proofs.islands.ControlApart.{control_alike, control_stays}
use Rattle.pm_laws.proofs.islands.HelperApart.{helper_alike, helper_stays}
use Rattle.pm_laws.proofs.islands.IdleApart.{idle_alike, idle_stays}
use Rattle.pm_laws.proofs.islands.ResumeApart.{resume_alike, resume_stays}
use Rattle.pm_laws.proofs.islands.SuspendApart.{suspend_alike, suspend_stays}

pub row_alike : {plan : Plan} {k : Region plan} {v w : Views} (t : ℕ) (s : Stage) → Agree plan k v w → StageIn k s → row plan v s t ≡ row plan w s t
row_alike t (stage.Idle s) a i = ap Some (idle_alike t s a i)
row_alike t (stage.Suspend s) a i = ap Some (suspend_alike t s a i)
row_alike t (stage.Resume s) a i = ap Some (resume_alike t s a i)
row_alike t (stage.Helper s) a i = ap Some (helper_alike t s a i)
row_alike t (stage.Control s) a i = ap Some (control_alike t s a i)
row_alike t (stage.Await s) a i = refl

pub due_alike : {plan : Plan} {k : Region plan} {v w : Views} (s : Stage) → Agree plan k v w → StageIn k s → due plan v s ≡ due plan w s
due_alike (stage.Helper (at.Timer d)) a i = ap (λ x. option_map_or (λ armed. armed.deadline) x 0) (timer_agrees d a i)
due_alike (stage.Idle (idle.Running d f since)) a i = refl
due_alike (stage.Suspend (suspend.Running d f since)) a i = refl
due_alike (stage.Resume (resume.Running r since)) a i = refl
due_alike (stage.Helper (at.Delay ms since)) a i = refl
due_alike _ a i = refl

some_row : (x y : Row) → Some x ≡ Some y → x ≡ y
some_row x y e = cc

pub row_stays : (plan : Plan) (k : Region plan) (v : Views) (t : ℕ) (s : Stage) (r : Row) → StageIn k s → AreBound (is_own_link k) plan.links v.held
    → row plan v s t ≡ Some r → StaysIn plan k r
row_stays plan k v t (stage.Idle s) r i b e = subst (λ x. StaysIn plan k x) (some_row _ r e) (idle_stays plan k v t s i)
row_stays plan k v t (stage.Suspend s) r i b e = subst (λ x. StaysIn plan k x) (some_row _ r e) (suspend_stays plan k v t s i)
row_stays plan k v t (stage.Resume s) r i b e = subst (λ x. StaysIn plan k x) (some_row _ r e) (resume_stays plan k v t s i)
row_stays plan k v t (stage.Helper s) r i b e = subst (λ x. StaysIn plan k x) (some_row _ r e) (helper_stays plan k v t s i)
row_stays plan k v t (stage.Control s) r i b e = subst (λ x. StaysIn plan k x) (some_row _ r e) (control_stays plan k v t s i b)
row_stays plan k v t (stage.Await s) r i b e = absurd (cc)

-- a code is handed down
code_in : (plan : Plan) (k : Region plan) (a : Await) (c : ℤ) (rest : List Stage) (further : ℤ → List Stage) → StageIn k (stage.Await a) → StagesIn k rest
    → ((c : ℤ) → StagesIn k (further c)) → StagesIn k (on_handed (take_code a c) rest further)
unfolding take_code
code_in plan k (await.ActiveSupplier d link) c rest further i r f = go (is_supplied c)
  where
    go : (b : Bool) → StagesIn k (on_handed (if b then handed.Goes (stage.Control (control.ActiveLinks d)) else handed.Goes (stage.Control (control.ActiveUnwind d c))) rest further)
    go true = (i, r)
    go false = (i, r)
code_in plan k (await.ResumePut x kept) c rest further i r f = f kept
code_in plan k (await.SuspendLinks d n) c rest further i r f = (i, r)
code_in plan k (await.SuspendDeferred d n) c rest further i r f = (i, r)
code_in plan k (await.SuspendParent d n) c rest further i r f = (i, r)
code_in plan k (await.ResumeParent x) c rest further i r f = (i, r)
code_in plan k (await.ResumeSupplier x link) c rest further i r f = (i, r)
code_in plan k (await.ResumeIdle x) c rest further i r f = (i, r)
code_in plan k (await.ResumeUnwind x kept) c rest further i r f = (i, r)
code_in plan k (await.Return h d) c rest further i r f = (i, r)
code_in plan k (await.ReturnZero h d) c rest further i r f = (i, r)
code_in plan k (await.DisableResume d) c rest further i r f = (i, r)
code_in plan k (await.BarrierResume d) c rest further i r f = (i, r)
code_in plan k (await.ActiveUnwind d kept) c rest further i r f = (i, r)
code_in plan k (await.SuppliersIdle d supplier) c rest further i r f = (i, r)

after_code_in : (plan : Plan) (k : Region plan) (stages : List Stage) (c : ℤ) → StagesIn k stages → StagesIn k (after_code stages c)
after_code_in plan k [] c i = tt
after_code_in plan k (stage.Await a ∷ rest) c i =
    subst (λ stages. StagesIn k stages) (sym (after_await a c rest)) (code_in plan k a c rest (after_code rest) i.0 i.1 (λ c. after_code_in plan k rest c i.1))
after_code_in plan k (stage.Idle s ∷ rest) c i = i
after_code_in plan k (stage.Suspend s ∷ rest) c i = i
after_code_in plan k (stage.Resume s ∷ rest) c i = i
after_code_in plan k (stage.Helper s ∷ rest) c i = i
after_code_in plan k (stage.Control s ∷ rest) c i = i

append_in : (plan : Plan) (k : Region plan) (xs ys : List Stage) → StagesIn k xs → StagesIn k ys → StagesIn k (xs ++ ys)
append_in plan k [] ys i j = j
append_in plan k (x ∷ xs) ys i j = (i.0, append_in plan k xs ys i.1 j)

pub after_in : (plan : Plan) (k : Region plan) (next : Then) (rest : List Stage) → StagesIn k next.push → StagesIn k rest → StagesIn k (after_then next rest)
after_in plan k next rest i j = go next.back
  where
    go : (b : Option ℤ) → StagesIn k (after_back b next.push rest)
    go None = append_in plan k next.push rest i j
    go (Some c) = after_code_in plan k rest c j

pub bound_alike : (test : LinkRow → Bool) (rows : List LinkRow) (xs ys : List Bool) → AlikeBy test rows xs ys → AreBound test rows ys → AreBound test rows xs
bound_alike test [] xs ys a b = tt
bound_alike test (row ∷ rows) [] ys a b = tt
bound_alike test (row ∷ rows) (x ∷ xs) [] a b = absurd a
bound_alike test (row ∷ rows) (x ∷ xs) (y ∷ ys) a b = (λ own h. b.0 own (sym (a.0 own) ∙ h), bound_alike test rows xs ys a.1 b.1)
