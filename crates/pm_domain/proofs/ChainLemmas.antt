-- A domain's parent stands earlier in a plan, so that a chain of domains ends of itself.
use Rattle.std.proofs.Common.{◌≡◌, ℕ, zero, suc, ◌+◌, ◌<◌, ◌≤◌, Bool, true, not, cond, List, [], ◌∷◌, Option, None, Some, length, refl, sym, ap, inl, inr, arith}
use Rattle.std.specs.Prelude.{IfSome, nat_lt, option_and_then, slice_get}
use Rattle.std.specs.Option.{option_map_or}
use Rattle.std.proofs.lemmas.Bool.{and_parts, cases_Bool, ltb-true}
use Rattle.std.proofs.Math.Bool.{not-not}
use Rattle.std.proofs.lemmas.List.Filters.{length-filter_both}
use Rattle.std.proofs.lemmas.Grind.{common_steps}
use Rattle.pm_base.specs.declared.DevId.{DevId}
use Rattle.pm_base.specs.declared.DomId.{DomId}
use Rattle.pm_model.specs.declared.plan.Plan.{Plan}
use Rattle.pm_model.specs.declared.rows.CallerRow.{CallerRow}
use Rattle.pm_model.specs.declared.rows.DeviceRow.{DeviceRow}
use Rattle.pm_model.specs.declared.rows.DomainRow.{DomainRow}
use Rattle.pm_model.specs.declared.rows.LinkRow.{LinkRow}
use Rattle.pm_model.specs.IsPlan.{each_at, is_device, is_domain, is_plan}
use Rattle.pm_model.specs.PlanRows.{chain, domain, domain_parent}
use Rattle.pm_index.specs.OwnMarks.{bit_at}
use Rattle.pm_domain.specs.Walk.{rank, those_off}

-- what the law says of domains and devices
record IsLawful (domains : List DomainRow) (devices : List DeviceRow) : Type 0 where
  pub few : length domains ≤ 128
  pub few_devices : length devices ≤ 1024
  pub are_domains : each_at is_domain 0 domains ≡ true
  pub are_devices : each_at (is_device (length domains)) 0 devices ≡ true

law_parts : (lines trace : ℕ) (domains : List DomainRow) (devices : List DeviceRow) (links : List LinkRow) (callers : List CallerRow) → is_plan lines trace domains devices links callers ≡ true → IsLawful domains devices
law_parts lines trace domains devices links callers h = record {
  few = grind (arith, common_steps);
  few_devices = grind (arith, common_steps);
  are_domains = grind (arith, common_steps);
  are_devices = grind (arith, common_steps);
}

lawful : (plan : Plan) → IsLawful plan.domains plan.devices
lawful plan = law_parts plan.lines plan.trace plan.domains plan.devices plan.links plan.callers plan.law

pub few_domains : (plan : Plan) → length plan.domains ≤ 128
few_domains plan = (lawful plan).few

pub few_devices : (plan : Plan) → length plan.devices ≤ 1024
few_devices plan = (lawful plan).few_devices

within : (n : ℕ) (o : Option DomId) → option_map_or (λ x. nat_lt x.0 n) o true ≡ true → IfSome o (λ x. x.0 < n)
within n None h = tt
within n (Some x) h = ltb-true x.0 n h

parents_earlier : (i : ℕ) (rows : List DomainRow) → each_at is_domain i rows ≡ true → (k : ℕ) → IfSome (option_and_then (λ row. row.parent) (slice_get rows k)) (λ p. (p.0 < i + k) × (k < length rows))
parents_earlier i [] h k = tt
parents_earlier i (row ∷ rows) h zero =
    let is : is_domain i row ≡ true = (and_parts (is_domain i row) (each_at is_domain (i + 1) rows) h).0 in
    here row.parent (within i row.parent (grind (arith, common_steps)))
  where
    here : (o : Option DomId) → IfSome o (λ x. x.0 < i) → IfSome o (λ p. (p.0 < i + 0) × (0 < suc (length rows)))
    here None h = tt
    here (Some x) h = (omega arith, omega arith)
parents_earlier i (row ∷ rows) h (suc k) =
    there (option_and_then (λ row. row.parent) (slice_get rows k)) (parents_earlier (i + 1) rows (and_parts (is_domain i row) (each_at is_domain (i + 1) rows) h).1 k)
  where
    there : (o : Option DomId) → IfSome o (λ p. (p.0 < i + 1 + k) × (k < length rows)) → IfSome o (λ p. (p.0 < i + suc k) × (suc k < suc (length rows)))
    there None h = tt
    there (Some x) h = (omega (arith, h.0), omega (arith, h.1))

-- the parent of a domain stands before it
pub parent_earlier : (plan : Plan) (o : DomId) → IfSome (domain_parent plan.domains o) (λ p. (p.0 < o.0) × (p.0 < length plan.domains))
parent_earlier plan o = before (domain_parent plan.domains o) (parents_earlier 0 plan.domains (lawful plan).are_domains o.0)
  where
    before : (q : Option DomId) → IfSome q (λ p. (p.0 < 0 + o.0) × (o.0 < length plan.domains)) → IfSome q (λ p. (p.0 < o.0) × (p.0 < length plan.domains))
    before None h = tt
    before (Some p) h = (omega (arith, h.0), omega (arith, h.0, h.1))

device_home : (n i : ℕ) (row : DeviceRow) → is_device n i row ≡ true → option_map_or (λ o. nat_lt o.0 n) row.domain true ≡ true
device_home n i row h = grind (arith, common_steps)

homes_within : (n i : ℕ) (rows : List DeviceRow) → each_at (is_device n) i rows ≡ true → (k : ℕ) → IfSome (option_map_or (λ row. row.domain) (slice_get rows k) None) (λ o. o.0 < n)
homes_within n i [] h k = tt
homes_within n i (row ∷ rows) h zero =
    within n row.domain (device_home n i row (and_parts (is_device n i row) (each_at (is_device n) (i + 1) rows) h).0)
homes_within n i (row ∷ rows) h (suc k) = homes_within n (i + 1) rows (and_parts (is_device n i row) (each_at (is_device n) (i + 1) rows) h).1 k

-- the domain of a device is one of the plan's
pub home_within : (plan : Plan) (d : DevId) → IfSome (domain plan d) (λ o. o.0 < length plan.domains)
unfolding domain
home_within plan d = homes_within (length plan.domains) 0 plan.devices (lawful plan).are_devices d.0

-- so many steps are enough
chain_enough : (plan : Plan) (m n : ℕ) (o : Option DomId) → rank o ≤ m → rank o ≤ n → chain plan.domains m o ≡ chain plan.domains n o
chain_enough plan zero zero None low high = refl
chain_enough plan zero (suc n) None low high = refl
chain_enough plan (suc m) zero None low high = refl
chain_enough plan (suc m) (suc n) None low high = refl
chain_enough plan zero n (Some o) low high = absurd (omega arith)
chain_enough plan (suc m) zero (Some o) low high = absurd (omega arith)
chain_enough plan (suc m) (suc n) (Some o) low high =
    let le = rank_earlier (domain_parent plan.domains o) (parent_earlier plan o) in
    ap (λ rest. o.0 ∷ rest) (chain_enough plan m n (domain_parent plan.domains o) (omega arith) (omega arith))
  where
    rank_earlier : (q : Option DomId) → IfSome q (λ p. (p.0 < o.0) × (p.0 < length plan.domains)) → rank q ≤ o.0
    rank_earlier None h = omega arith
    rank_earlier (Some p) h = omega (arith, h.0)

-- a domain's chain is the domain and its parent's chain
pub chain_step : (plan : Plan) (o : DomId) → o.0 < length plan.domains → chain plan.domains (length plan.domains) (Some o) ≡ o.0 ∷ chain plan.domains (length plan.domains) (domain_parent plan.domains o)
chain_step plan o lt =
    let n : ℕ = length plan.domains in
    chain_enough plan n (suc n) (Some o) (omega arith) (omega arith)

pub length-chain : (rows : List DomainRow) (n : ℕ) (o : Option DomId) → length (chain rows n o) ≤ n
length-chain rows zero o = omega arith
length-chain rows (suc n) None = omega arith
length-chain rows (suc n) (Some o) = omega (arith, length-chain rows n (domain_parent rows o))

length-those_off : (on : List Bool) (domains : List ℕ) → length (those_off on domains) ≤ length domains
length-those_off on domains = omega (arith, length-filter_both (λ o. not (bit_at on o)) (bit_at on) (λ o. sym (not-not (bit_at on o))) domains)

-- one domain more is counted, or none
pub counted_more : (on : List Bool) (o : ℕ) (rest : List ℕ) (count total : ℕ) → count + length (those_off on (o ∷ rest)) ≡ total → count + cond (bit_at on o) 0 1 + length (those_off on rest) ≡ total
counted_more on o rest count total was = elim (cases_Bool (bit_at on o)) [
  | inl lit ↦ rw lit (let h = rw lit at was in omega arith)
  | inr dark ↦ rw dark (let h = rw dark at was in omega arith)
]

-- no domain, no chain
pub chain-none : (rows : List DomainRow) (n : ℕ) → chain rows n None ≡ []
chain-none rows zero = refl
chain-none rows (suc n) = refl

-- no count of domains is great
pub few_off : (plan : Plan) (on : List Bool) (o : Option DomId) → length (those_off on (chain plan.domains (length plan.domains) o)) ≤ 128
few_off plan on o = omega (arith, length-those_off on (chain plan.domains (length plan.domains) o), length-chain plan.domains (length plan.domains) o, few_domains plan)
