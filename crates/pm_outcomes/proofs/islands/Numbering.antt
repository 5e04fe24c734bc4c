-- The numbers of a plan's islands, and the parts of them.
use Rattle.std.proofs.Common.{ℕ, suc, ◌≡◌, ◌<◌, ◌≤◌, Bool, true, false, List, [], ◌∷◌, Some, None, nat_eq, nat_lt, length, unwrap_or, if◌then◌else◌, refl, sym, subst, ◌∙◌, ap, arith}
use Rattle.std.proofs.lemmas.Bool.{ltb-true}
use Rattle.std.proofs.lemmas.Option.{unwrap_or-slice_get}
use Rattle.pm_outcomes.specs.islands.Homes.{IsHomePart, home}
use Rattle.pm_base.specs.declared.ActorId.{ActorId}
use Rattle.pm_base.specs.declared.ActorId.TheVariants.{Caller, Work}
use Rattle.pm_islands.specs.Blank.{IsBlank}
use Rattle.pm_islands.specs.Numbers.{AreIslands, NodeNumbers, actor_in, island_in}
use Rattle.pm_outcomes.specs.declared.list.observations.Observation.{Observation}
use Rattle.pm_outcomes.specs.declared.list.observations.Observation.TheVariants.{End, Return}
use Rattle.pm_model.specs.declared.plan.Plan.{Plan}
use Rattle.pm_model.specs.declared.rows.CallerRow.{CallerRow}
use Rattle.pm_model.specs.Islands.{IsPart, Numbering, node_of, the_caller, the_device, with_scripts}

-- the numbers are those of the numbering
pub numbers_are : (plan : Plan) (numbers : NodeNumbers) (are : AreIslands plan numbers) → are.numbering.island ≡ island_in numbers
numbers_are plan numbers are = λ i a. are.nodes a i

-- none is above the count
pub number_within : (plan : Plan) (numbers : NodeNumbers) → AreIslands plan numbers → (a : ActorId) → unwrap_or (actor_in numbers a) numbers.count ≤ numbers.count
number_within plan numbers are a = subst (λ o. unwrap_or o numbers.count ≤ numbers.count) (are.actors a) (go (nat_lt n numbers.count) refl)
  where
    n : ℕ
    n = are.numbering.island (node_of a)

    go : (b : Bool) → nat_lt n numbers.count ≡ b → unwrap_or (if b then Some n else None) numbers.count ≤ numbers.count
    go true e = let below = ltb-true n numbers.count e in omega (arith, below)
    go false e = omega arith

pub home_within : (plan : Plan) (numbers : NodeNumbers) → AreIslands plan numbers → (m : Observation) → home (island_in numbers) m ≤ numbers.count
home_within plan numbers are (Return r) = subst (λ n. n ≤ numbers.count) (unwrap_or-slice_get numbers.callers r.caller numbers.count) (number_within plan numbers are (Caller r.caller))
home_within plan numbers are (End l) = number_within plan numbers are (Work l.device.0)

pub loose_within : (plan : Plan) (numbers : NodeNumbers) (are : AreIslands plan numbers) (d : ℕ) → are.numbering.island (the_device d) ≤ numbers.count
loose_within plan numbers are d = subst (λ n. n ≤ numbers.count) (sym (are.nodes (the_device d))) (number_within plan numbers are (Work d))

-- the part by one of the numbers is that by the other
pub part_by : (plan : Plan) (numbers : NodeNumbers) (n : ℕ) (q : Plan) → AreIslands plan numbers → ((count : ℕ) (k : Numbering plan count) → IsPart plan k.island n q) → IsPart plan (island_in numbers) n q
part_by plan numbers n q are by = subst (λ f. IsPart plan f n q) (numbers_are plan numbers are) (by numbers.count are.numbering)

-- no caller has the number behind the last
same_scripts : (own other : ℕ → Bool) (rows : List CallerRow) → ((c : ℕ) → c < length rows → own c ≡ other c) → with_scripts own rows ≡ with_scripts other rows
same_scripts own other [] same = refl
same_scripts own other (row ∷ rows) same =
    ap (λ b. (if b then row else record row { script = [] }) ∷ with_scripts (λ c. own (suc c)) rows) (same 0 (omega arith))
    ∙ ap (λ l. (if other 0 then row else record row { script = [] }) ∷ l)
    (same_scripts (λ c. own (suc c)) (λ c. other (suc c)) rows (λ c below. same (suc c) (omega (arith, below))))

differ : (a n : ℕ) → a < n → nat_eq a n ≡ false
differ a n below = grind arith

pub blank_by : (plan : Plan) (numbers : NodeNumbers) (n : ℕ) (q : Plan) → AreIslands plan numbers → numbers.count ≤ n → IsBlank plan q → IsPart plan (island_in numbers) n q
blank_by plan numbers n q are last b = record {
  lines = b.lines;
  trace = b.trace;
  domains = b.domains;
  devices = b.devices;
  links = b.links;
  callers = b.callers ∙ same_scripts (λ c. nat_eq 1 0) (λ c. nat_eq (island_in numbers (the_caller c)) n) plan.callers none;
}
  where
    none : (c : ℕ) → c < length plan.callers → nat_eq 1 0 ≡ nat_eq (island_in numbers (the_caller c)) n
    none c within =
        let below = are.numbering.callers c within in
        let here : are.numbering.island (the_caller c) < n = omega (arith, below, last) in
        sym (subst (λ a. nat_eq a n ≡ false) (are.nodes (the_caller c)) (differ (are.numbering.island (the_caller c)) n here))

-- where an observation is at home
pub home_part_is : (plan : Plan) (numbers : NodeNumbers) (observation : Observation) (n : ℕ) (q : Plan) → AreIslands plan numbers → n ≡ home (island_in numbers) observation → IsPart plan (island_in numbers) n q → IsHomePart plan observation q
home_part_is plan numbers observation n q are is part = record {
  count = numbers.count;
  numbering = are.numbering;
  is_part =
      subst (λ f. IsPart plan f (home f observation) q) (sym (numbers_are plan numbers are)) (subst (λ m. IsPart plan (island_in numbers) m q) is part);
}
