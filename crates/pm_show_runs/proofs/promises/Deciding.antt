-- Whether lines are those of one call, and that a list breaks the law, by computation.
use Rattle.std.proofs.Common.{ℕ, zero, suc, ◌≡◌, Bool, true, false, ◌&&◌, List, [], ◌∷◌, ◌++◌, Option, Some, None, drop, nat_lt, slice_get, take, ap, sym, refl, arith}
use Rattle.std.proofs.lemmas.Bool.{ltb-true}
use Rattle.std.proofs.lemmas.List.{take-append-drop}
use Rattle.pm_base.specs.declared.ActorId.TheVariants.{Caller}
use Rattle.pm_base.specs.declared.DevId.{DevId}
use Rattle.pm_model.specs.declared.event.Line.{Line}
use Rattle.pm_model.specs.declared.plan.Plan.{Plan}
use Rattle.pm_model.specs.declared.rows.LinkRow.{LinkRow}
use Rattle.pm_model.specs.History.{History}
use Rattle.pm_model.specs.PlanRows.{parent}
use Rattle.pm_model.specs.Promises.{calls_get_sync, is_actor}
use Rattle.pm_model.specs.Views.{Views}
use Rattle.pm_show_runs.specs.Counts.{first_plan}
use Rattle.pm_show_runs.specs.Words.{dev}
use Rattle.pm_laws.proofs.stacks.Tests.{front, rear}
use Rattle.pm_laws.proofs.gets.Keeping.{same_actor}
use Rattle.pm_laws.specs.gets.Alone.{IsAlone, OneCall, Reached, by_link, by_parent, begins_resume, from_call, is_open, itself, one_more, resumes_begun}

abbrev pub is_one_call : ℕ → DevId → History → Bool
is_one_call c d [] = false
is_one_call c d (line ∷ []) = is_actor line.actor (Caller c) && calls_get_sync d line.event
is_one_call c d (line ∷ below ∷ lines) = is_actor line.actor (Caller c) && (is_open (below ∷ lines) && is_one_call c d (below ∷ lines))

pub one_call : (c : ℕ) (d : DevId) (lines : History) → is_one_call c d lines ≡ true → OneCall c d lines
one_call c d [] e = cc
one_call c d (line ∷ []) e = from_call line (same_actor line.actor (Caller c) (front _ _ e)) (rear _ _ e)
one_call c d (line ∷ below ∷ lines) e =
    let both = rear (is_actor line.actor (Caller c)) (is_open (below ∷ lines) && is_one_call c d (below ∷ lines)) e in
    one_more line (below ∷ lines) (one_call c d (below ∷ lines) (rear _ _ both)) (front _ _ both) (same_actor line.actor (Caller c) (front _ _ e))

-- a call line and n lines behind it are a part of the list
cut : {A : Type 0} (line : A) (h : List A) (n : ℕ) → line ∷ h ≡ (line ∷ take n h) ++ drop n h
cut line h n = ap (λ rest. line ∷ rest) (sym (take-append-drop n h))

-- more than one resume callback of e begins in the newest lines
pub begins_twice : (plan : Plan) (line : Line) (h : History) (n c : ℕ) (d e : DevId) → is_one_call c d (line ∷ take n h) ≡ true
    → nat_lt 1 (resumes_begun e (line ∷ take n h)) ≡ true → IsAlone plan (line ∷ h) → ⊥
begins_twice plan line h n c d e call many law =
    let few = (law [] (line ∷ take n h) (drop n h) c d (cut line h n) (one_call c d (line ∷ take n h) call)).0 e in
    let more = ltb-true 1 (resumes_begun e (line ∷ take n h)) many in
    omega (arith, few, more)

-- the resume callback of e, which isn't reached, begins in the newest line
pub begins_apart : (plan : Plan) (line : Line) (h : History) (n c : ℕ) (d e : DevId) → is_one_call c d (line ∷ take n h) ≡ true
    → begins_resume e line.event ≡ true → ((v : Views) → Reached plan v d e → ⊥) → IsAlone plan (line ∷ h) → ⊥
begins_apart plan line h n c d e call begins apart law =
    apart _ ((law [] (line ∷ take n h) (drop n h) c d (cut line h n) (one_call c d (line ∷ take n h) call)).1.0 e begins)

-- in a plan of one device nothing else is reached
no_parent : (n : ℕ) → parent first_plan (record { 0 = n }) ≡ None
unfolding parent
no_parent zero = refl
no_parent (suc n) = refl

no_link : (l : ℕ) (row : LinkRow) → slice_get first_plan.links l ≡ Some row → ⊥
no_link l row e = cc

none_some : {A : Type 0} (o : Option A) (x : A) → o ≡ None → o ≡ Some x → ⊥
none_some None x n e = cc
none_some (Some y) x n e = cc

reached_first : (v : Views) (d e : DevId) → Reached first_plan v d e → e ≡ d
reached_first v d _ itself = refl
reached_first v d _ (by_parent e p it is) = absurd (none_some (parent first_plan e) p (no_parent e.0) is)
reached_first v d _ (by_link e l row it is link) = absurd (no_link l row is)

pub never_reached : (v : Views) → Reached first_plan v (dev 0) (dev 1) → ⊥
never_reached v it = let same : 1 ≡ 0 = ap (λ (x : DevId). x.0) (reached_first v (dev 0) (dev 1) it) in absurd (omega (arith, same))
