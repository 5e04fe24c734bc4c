-- The rows of a part, and that it is a plan.
use Rattle.std.proofs.Common.{◌≡◌, ◌<◌, ◌≤◌, ◌^◌, ◌∙◌, ℕ, suc, Bool, List, [], ◌∷◌, ◌++◌, Some, replicate, slice_get, slice_index_or, true, if◌then◌else◌, length, nat_eq, refl, sym, subst, ap, arith}
use Rattle.std.proofs.lemmas.Grind.{common_steps}
use Rattle.std.proofs.lemmas.List.{append_assoc, get_or-replicate}
use Rattle.std.proofs.lemmas.Option.{slice_get_within}
use Rattle.pm_model.specs.declared.plan.Plan.{Plan}
use Rattle.pm_model.specs.declared.rows.CallerRow.{CallerRow}
use Rattle.pm_model.specs.declared.rows.DeviceRow.{DeviceRow}
use Rattle.pm_model.specs.declared.rows.DomainRow.{DomainRow}
use Rattle.pm_model.specs.declared.rows.LinkRow.{LinkRow}
use Rattle.pm_model.specs.Islands.{Node, the_caller, with_scripts}
use Rattle.pm_model.specs.IsPlan.{is_plan}
use Rattle.pm_laws.proofs.islands.Isles.{law_in}
use Rattle.pm_islands.specs.Numbers.{AreNumbers, is_of}
use Rattle.pm_islands.specs.Places.{nodes}

-- a plan has few rows
few : (lines trace : ℕ) (domains : List DomainRow) (devices : List DeviceRow) (links : List LinkRow) (callers : List CallerRow) → is_plan lines trace domains devices links callers ≡ true
    → (length domains ≤ 128) × (length devices ≤ 1024) × (length callers ≤ 16)
few lines trace domains devices links callers law = (grind (arith, common_steps), grind (arith, common_steps), grind (arith, common_steps))

pub few_domains : (plan : Plan) → length plan.domains < 2 ^ 32
few_domains plan = let f = few plan.lines plan.trace plan.domains plan.devices plan.links plan.callers plan.law in omega (arith, f.0)

pub few_devices : (plan : Plan) → length plan.devices < 2 ^ 32
few_devices plan = let f = few plan.lines plan.trace plan.domains plan.devices plan.links plan.callers plan.law in omega (arith, f.1)

pub few_callers : (plan : Plan) → length plan.callers < 2 ^ 32
few_callers plan = let f = few plan.lines plan.trace plan.domains plan.devices plan.links plan.callers plan.law in omega (arith, f.2)

pub few_nodes : (plan : Plan) → nodes plan ≤ 1168
few_nodes plan = let f = few plan.lines plan.trace plan.domains plan.devices plan.links plan.callers plan.law in omega (arith, f.0, f.1, f.2)

-- a row's place is a small number
pub domain_place_is_small : (plan : Plan) (n : ℕ) (row : DomainRow) → slice_get plan.domains n ≡ Some row → n < 2 ^ 32
domain_place_is_small plan n row at = omega (arith, slice_get_within plan.domains n row at, few_domains plan)

pub caller_place_is_small : (plan : Plan) (n : ℕ) (row : CallerRow) → slice_get plan.callers n ≡ Some row → n < 2 ^ 32
caller_place_is_small plan n row at = omega (arith, slice_get_within plan.callers n row at, few_callers plan)

pub length_scripts : (own : ℕ → Bool) (rows : List CallerRow) → length (with_scripts own rows) ≡ length rows
length_scripts own [] = refl
length_scripts own (row ∷ rows) = ap suc (length_scripts (λ c. own (suc c)) rows)

-- the same callers have scripts
same_scripts : (own other : ℕ → Bool) (rows : List CallerRow) → ((c : ℕ) → c < length rows → own c ≡ other c) → with_scripts own rows ≡ with_scripts other rows
same_scripts own other [] same = refl
same_scripts own other (row ∷ rows) same =
    ap (λ b. (if b then row else record row { script = [] }) ∷ with_scripts (λ c. own (suc c)) rows) (same 0 (omega arith))
    ∙ ap (λ l. (if other 0 then row else record row { script = [] }) ∷ l)
    (same_scripts (λ c. own (suc c)) (λ c. other (suc c)) rows (λ c below. same (suc c) (omega (arith, below))))

pub scripts_are : (plan : Plan) (island : Node → ℕ) (numbers : List ℕ) (n : ℕ) → AreNumbers plan island numbers
    → with_scripts (is_of numbers n) plan.callers ≡ with_scripts (λ c. nat_eq (island (the_caller c)) n) plan.callers
scripts_are plan island numbers n are =
    same_scripts (is_of numbers n) (λ c. nat_eq (island (the_caller c)) n) plan.callers (λ c below. ap (λ m. nat_eq m n) (sym (are.each c below)))

-- the part is a plan
pub part_law : (plan : Plan) (island : Node → ℕ) (numbers : List ℕ) (n : ℕ) → AreNumbers plan island numbers
    → is_plan plan.lines plan.trace plan.domains plan.devices plan.links (with_scripts (is_of numbers n) plan.callers) ≡ true
part_law plan island numbers n are =
    subst (λ rows. is_plan plan.lines plan.trace plan.domains plan.devices plan.links rows ≡ true) (sym (scripts_are plan island numbers n are))
    (law_in {plan = plan} (record { island = island; shared = are.shared }) n)

-- one caller more
pub put_more : (numbers others : List ℕ) (rows rest old pushed made : List CallerRow) (row copy : CallerRow) (number island : ℕ)
    → numbers ≡ number ∷ others → rows ≡ row ∷ rest → copy ≡ (if nat_eq number island then row else record row { script = [] })
    → pushed ≡ old ++ copy ∷ [] → made ≡ pushed ++ with_scripts (is_of others island) rest → made ≡ old ++ with_scripts (is_of numbers island) rows
put_more numbers others rows rest old pushed made row copy number island n r is p m =
    let step : with_scripts (is_of (number ∷ others) island) (row ∷ rest) ≡ with_scripts (is_of numbers island) rows =
    ap (λ l. with_scripts (is_of l island) (row ∷ rest)) (sym n) ∙ ap (λ l. with_scripts (is_of numbers island) l) (sym r) in
    m ∙ ap (λ l. l ++ with_scripts (is_of others island) rest) p ∙ append_assoc old (copy ∷ []) (with_scripts (is_of others island) rest)
    ∙ ap (λ x. old ++ x ∷ with_scripts (is_of others island) rest) is ∙ ap (λ l. old ++ l) step

-- every node has this number
pub all_of_one : (plan : Plan) (numbers : List ℕ) → numbers ≡ replicate (length plan.callers) 1 → AreNumbers plan (λ node. 1) numbers
all_of_one plan numbers are = record {
  shared = λ a b touching. refl;
  each = λ c below. sym (subst (λ l. slice_index_or l c 0 ≡ 1) (sym are) (get_or-replicate (length plan.callers) c 1 0 below));
}
