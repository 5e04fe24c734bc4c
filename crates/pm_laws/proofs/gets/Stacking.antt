-- The stack of a get_sync's call: what stands at its bottom, and what its stages gather and lack.
use Rattle.std.proofs.Common.{ℕ, ◌≡◌, ◌≤◌, inl, inr, Bool, true, false, List, [], ◌∷◌, ◌++◌, Option, Some, None, ℤ, if◌then◌else◌, refl, sym, ◌∙◌, subst, arith}
use Rattle.std.specs.List.{sum_by}
use Rattle.std.proofs.lemmas.List.Sums.{sum_by-cons}
use Rattle.pm_base.specs.declared.DevId.{DevId}
use Rattle.pm_model.specs.declared.plan.Plan.{Plan}
use Rattle.pm_model.specs.declared.stage.Await.{Await}
use Rattle.pm_model.specs.declared.stage.Await.TheVariants as await
use Rattle.pm_model.specs.declared.stage.ControlStage.TheVariants as control
use Rattle.pm_model.specs.declared.stage.Handed.{Handed}
use Rattle.pm_model.specs.declared.stage.Handed.TheVariants as handed
use Rattle.pm_model.specs.declared.stage.ResumeStage.TheVariants as resume
use Rattle.pm_model.specs.declared.stage.Stage.{Stage}
use Rattle.pm_model.specs.declared.stage.Stage.TheVariants as stage
use Rattle.pm_model.specs.declared.stage.Then.{Then}
use Rattle.pm_model.specs.Handing.{take_code, after_code, after_back, after_then}
use Rattle.pm_model.specs.ResumeTable.{is_supplied}
use Rattle.pm_model.proofs.Arrivals.{on_handed, after_await}
use Rattle.pm_laws.specs.counts.Sums.{one}
use Rattle.pm_laws.specs.counts.Owners.{owns_resume}
use Rattle.pm_laws.specs.stacks.Shape.{Call, own, call_of, Nested}
use Rattle.pm_laws.specs.gets.Answered.{some_of}
use Rattle.pm_laws.proofs.gets.Handing.{own_awaited}
use Rattle.pm_laws.proofs.gets.Passing.{either_of, silent, Passes, AllPass}
use Rattle.pm_laws.proofs.gets.Watching.{gathers, lacks, no_end, is_get_of, stands_on, on_top, goes_to, goes_to_of}

-- a code makes no stage gather that didn't, and awaits no link
pub gathers_pass : (plan : Plan) (x : DevId) → AllPass plan (gathers x) no_end
unfolding take_code
gathers_pass plan x a c k fits may = go a c
  where
    go : (a : Await) (c : ℤ) → Passes (gathers x) no_end a c k (take_code a c)
    go (await.ResumeSupplier r link) c = λ good. inl good
    go (await.ResumePut r kept) c = λ ends. cc
    go (await.ActiveSupplier e link) c = silent (gathers x) no_end (await.ActiveSupplier e link) c k (is_supplied c) _ _ refl refl
    go _ c = λ good. cc

pub lacks_pass : (plan : Plan) (held : ℕ → Bool) → AllPass plan (lacks held) no_end
unfolding take_code
lacks_pass plan held a c k fits may = go a c
  where
    go : (a : Await) (c : ℤ) → Passes (lacks held) no_end a c k (take_code a c)
    go (await.ResumePut r kept) c = λ ends. cc
    go (await.ActiveSupplier e link) c = silent (lacks held) no_end (await.ActiveSupplier e link) c k (is_supplied c) _ _ refl refl
    go _ c = λ good. cc

-- what gathers for x owns its resume
one_same : (b : Bool) → b ≡ true → one b ≡ 1
one_same true e = refl
one_same false e = cc

pub gathers_owns : (x : DevId) (s : Stage) → gathers x s ≡ true → owns_resume x s ≡ 1
gathers_owns x (stage.Resume (resume.Links r)) e = one_same _ e
gathers_owns x (stage.Resume (resume.Supplied r c)) e = one_same _ e
gathers_owns x (stage.Resume (resume.Callback r)) e = one_same _ e
gathers_owns x (stage.Await (await.ResumeSupplier r link)) e = one_same _ e
gathers_owns x _ e = cc

pub gathers_sum : (x : DevId) (stack : List Stage) → some_of (gathers x) stack ≡ true → 1 ≤ sum_by (owns_resume x) stack
gathers_sum x [] e = cc
gathers_sum x (s ∷ rest) e = elim (either_of (gathers x s) (some_of (gathers x) rest) e) [
  | inl here ↦ let own : owns_resume x s ≡ 1 = gathers_owns x s here in omega (arith, sum_by-cons (owns_resume x) s rest)
  | inr below ↦ let more : 1 ≤ sum_by (owns_resume x) rest = gathers_sum x rest below in omega (arith, sum_by-cons (owns_resume x) s rest)
]

-- the top of the stack after a stage gave way
pub goes_on_top : (test : Stage → Bool) (next : Then) (rest : List Stage) → goes_to test next ≡ true → on_top test (after_then next rest) ≡ true
goes_on_top test next rest e = go next.back next.push e
  where
    go : (back : Option ℤ) (push : List Stage) → goes_to_of test back push ≡ true → on_top test (after_back back push rest) ≡ true
    go None [] e = cc
    go None (s ∷ push) e = e
    go (Some c) push e = cc

-- the bottom stays
based_over : (d : DevId) (s : Stage) (rest : List Stage) → stands_on d rest ≡ true → stands_on d (s ∷ rest) ≡ true
based_over d s [] e = cc
based_over d s (t ∷ rest) e = e

based_append : (d : DevId) (push rest : List Stage) → stands_on d rest ≡ true → stands_on d (push ++ rest) ≡ true
based_append d [] rest e = e
based_append d (s ∷ push) rest e = based_over d s (push ++ rest) (based_append d push rest e)

-- a code that comes to the bottom leaves the return line of the same get_sync
abbrev BasedHanded : DevId → Await → Handed → Type 0
BasedHanded d a (handed.Goes s) = is_get_of d (stage.Await a) ≡ true → is_get_of d s ≡ true
BasedHanded d a (handed.Back c) = is_get_of d (stage.Await a) ≡ false

based_take : (d : DevId) (a : Await) (c : ℤ) → BasedHanded d a (take_code a c)
unfolding take_code
based_take d (await.Return h e) c = λ is. is
based_take d (await.ResumePut r kept) c = refl
based_take d (await.ActiveSupplier e link) c = go (is_supplied c)
  where
    go : (b : Bool) → BasedHanded d (await.ActiveSupplier e link) (if b then handed.Goes (stage.Control (control.ActiveLinks e)) else handed.Goes (stage.Control (control.ActiveUnwind e c)))
    go true = λ is. cc
    go false = λ is. cc
based_take d _ c = λ is. cc

based_handed : (d : DevId) (a : Await) (h : Handed) (rest : List Stage) → BasedHanded d a h → stands_on d (stage.Await a ∷ rest) ≡ true
    → ((kept : ℤ) → stands_on d rest ≡ true → stands_on d (after_code rest kept) ≡ true) → stands_on d (on_handed h rest (after_code rest)) ≡ true
based_handed d a (handed.Goes s) [] is e below = is e
based_handed d a (handed.Goes s) (t ∷ rest) is e below = e
based_handed d a (handed.Back kept) [] is e below = let k : true ≡ false = sym e ∙ is in cc
based_handed d a (handed.Back kept) (t ∷ rest) is e below = below kept e

based_code : (plan : Plan) (d : DevId) (k : Call) (rest : List Stage) (c : ℤ) → Nested plan k rest → stands_on d rest ≡ true → stands_on d (after_code rest c) ≡ true
based_code plan d k [] c n e = cc
based_code plan d k (stage.Await a ∷ rest) c n e =
    subst (λ stack. stands_on d stack ≡ true) (sym (after_await a c rest)) (based_handed d a (take_code a c) rest (based_take d a c) e (λ kept. based_code plan d (call_of (stage.Await a)) rest kept n.2))
based_code plan d k (s ∷ rest) c n e = elim n.0 [ ]

pub based_then : (plan : Plan) (d : DevId) (k : Call) (next : Then) (rest : List Stage) → Nested plan k rest → stands_on d rest ≡ true → stands_on d (after_then next rest) ≡ true
based_then plan d k next rest n e = go next.back next.push
  where
    go : (back : Option ℤ) (push : List Stage) → stands_on d (after_back back push rest) ≡ true
    go None push = based_append d push rest e
    go (Some c) push = based_code plan d k rest c n e

-- nothing stands below a stage of a helper's own work
pub own_bottom : (plan : Plan) (o : Option DevId) (rest : List Stage) → Nested plan (own o) rest → rest ≡ []
own_bottom plan o [] n = refl
own_bottom plan o (stage.Await a ∷ rest) n = absurd (own_awaited plan o a n.0)
own_bottom plan o (s ∷ rest) n = elim n.0 [ ]
