-- The actors of a plan are in its range.
use Rattle.std.proofs.Common.{ℕ, zero, suc, ◌≡◌, ◌<◌, ◌+◌, List, [], ◌∷◌, length, map, subst, sym, arith}
use Rattle.std.proofs.lemmas.List.Elements.{All-append}
use Rattle.std.specs.List.{All, enumerate_from}
use Rattle.pm_base.specs.declared.ActorId.{ActorId}
use Rattle.pm_base.specs.declared.ActorId.TheVariants.{Caller, Work, Timer}
use Rattle.pm_model.specs.declared.plan.Plan.{Plan}
use Rattle.pm_model.specs.Serial.{callers_and_works, timer_actors}
use Rattle.pm_explore.specs.schedule.Snapshots.{all_actors}
use Rattle.pm_state.specs.Standing.{IsActor}

from : {A B : Type 0} (P : B → Type 0) (f : ℕ → B) (n : ℕ) (xs : List A) → ((i : ℕ) → i < n + length xs → P (f i)) → All P (map (λ p. f p.0) (enumerate_from n xs))
from P f n [] each k d lt = absurd (omega (arith, lt))
from P f n (x ∷ xs) each zero d lt = each n (omega arith)
from P f n (x ∷ xs) each (suc k) d lt = from P f (n + 1) xs (λ i b. each i (omega (arith, b))) k d (omega (arith, lt))

numbered : {A B : Type 0} (P : B → Type 0) (f : ℕ → B) (xs : List A) → ((i : ℕ) → i < length xs → P (f i)) → All P (map (λ p. f p.0) (enumerate_from 0 xs))
numbered P f xs each = from P f 0 xs (λ i b. each i (omega (arith, b)))

all_in_range : (plan : Plan) → All (IsActor plan) (all_actors plan)
all_in_range plan =
    All-append (IsActor plan) (callers_and_works plan) (timer_actors plan)
    (All-append (IsActor plan) _ _ (numbered (IsActor plan) Caller plan.callers (λ i b. b)) (numbered (IsActor plan) Work plan.devices (λ i b. b)))
    (numbered (IsActor plan) Timer plan.devices (λ i b. b))

pub actors_in_range : (plan : Plan) (actors : List ActorId) → actors ≡ all_actors plan → All (IsActor plan) actors
actors_in_range plan actors is = let P : List ActorId → Type 0 = All (IsActor plan) in subst P (sym is) (all_in_range plan)
