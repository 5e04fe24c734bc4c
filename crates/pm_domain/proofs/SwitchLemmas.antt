-- What switching leaves.
use Rattle.std.proofs.Common.{◌≡◌, ℕ, ◌<◌, Bool, true, false, ◌||◌, List, [], ◌∷◌, Option, length, set, refl, sym, ap, ◌∙◌, inl, inr, arith}
use Rattle.std.specs.Prelude.{nat_eq}
use Rattle.std.specs.List.{list_any}
use Rattle.std.proofs.lemmas.Bool.{cases_Bool, cases_eq, cases_lt, eq-eqb, ne_eqb, or_right}
use Rattle.std.proofs.Math.Bool.{or_assoc, or-false}
use Rattle.std.proofs.lemmas.Grind.{get_or-set_at}
use Rattle.std.proofs.lemmas.List.{get_or-set_other, length-set, set-get_or, set_past}
use Rattle.pm_base.specs.declared.DevId.{DevId}
use Rattle.pm_model.specs.declared.plan.Plan.{Plan}
use Rattle.pm_model.specs.Derived.{up}
use Rattle.pm_model.specs.PlanRows.{chain, domain, domains_of}
use Rattle.pm_model.specs.Views.{Views}
use Rattle.pm_index.specs.OwnMarks.{Marks, bit_at}
use Rattle.pm_domain.specs.Walk.{switched, those_off}

pub length-switched : (to : Bool) (on : List Bool) (domains : List ℕ) → length (switched to on domains) ≡ length on
length-switched to on [] = refl
length-switched to on (o ∷ domains) = length-switched to (set on o to) domains ∙ length-set on o to

-- marks with these owners and bits
pub marks_are : (m : Marks) (owners : List (Option ℕ)) (bits : List Bool) → m.owners ≡ owners → m.bits ≡ bits → m ≡ record { owners = owners; bits = bits }
marks_are m owners bits o b = rw (← o, ← b) refl

-- a domain that is on stays on as others go on
stays_on : (on : List Bool) (o k : ℕ) → bit_at on k ≡ true → bit_at (set on o true) k ≡ true
stays_on on o k lit = elim (cases_eq k o) [
  | inl same ↦ elim (cases_lt o (length on)) [
    | inl lt ↦ get_or-set_at on o k true false same lt
    | inr past ↦ ap (λ bits. bit_at bits k) (set_past on o true past) ∙ lit
  ]
  | inr other ↦ get_or-set_other on o k true false other ∙ lit
]

-- to switch on a domain that is on changes nothing
set_on : (on : List Bool) (o : ℕ) → bit_at on o ≡ true → set on o true ≡ on
set_on on o lit = ap (set on o) (sym lit) ∙ set-get_or on o false

switched_later : (was on : List Bool) (domains : List ℕ) → ((k : ℕ) → bit_at was k ≡ true → bit_at on k ≡ true) → switched true on (those_off was domains) ≡ switched true on domains
switched_later was on [] keeps = refl
switched_later was on (o ∷ domains) keeps = elim (cases_Bool (bit_at was o)) [
  | inl lit ↦
      rw lit (switched_later was on domains keeps ∙ sym (ap (λ bits. switched true bits domains) (set_on on o (keeps o lit))))
  | inr dark ↦ rw dark (switched_later was (set on o true) domains (λ k lit. stays_on on o k (keeps k lit)))
]

-- to switch on those that are off is to switch on all
pub switched-those_off : (on : List Bool) (domains : List ℕ) → switched true on (those_off on domains) ≡ switched true on domains
switched-those_off on domains = switched_later on on domains (λ k lit. lit)

bit_at-set : (on : List Bool) (o k : ℕ) → k < length on → bit_at (set on o true) k ≡ (bit_at on k || nat_eq k o)
bit_at-set on o k lt = elim (cases_eq k o) [
  | inl same ↦ get_or-set_at on o k true false same (omega arith) ∙ sym (or_right (bit_at on k) (nat_eq k o) (eq-eqb k o same))
  | inr other ↦ get_or-set_other on o k true false other ∙ sym (or-false (bit_at on k)) ∙ ap (λ b. bit_at on k || b) (sym (ne_eqb k o other))
]

-- a domain is on afterwards if it was, or was switched
pub bit_at-switched : (on : List Bool) (domains : List ℕ) (k : ℕ) → k < length on → bit_at (switched true on domains) k ≡ (bit_at on k || list_any (nat_eq k) domains)
bit_at-switched on [] k lt = sym (or-false (bit_at on k))
bit_at-switched on (o ∷ domains) k lt =
    bit_at-switched (set on o true) domains k (omega (arith, length-set on o true))
    ∙ ap (λ b. b || list_any (nat_eq k) domains) (bit_at-set on o k lt) ∙ or_assoc (bit_at on k) (nat_eq k o) (list_any (nat_eq k) domains)

-- the domains that go on
pub up-those_off : (plan : Plan) (v : Views) (d : DevId) (on : List Bool) → v.on ≡ on → those_off on (chain plan.domains (length plan.domains) (domain plan d)) ≡ up plan v d
unfolding up domains_of
up-those_off plan v d on is = rw is refl

pub up-switched : (plan : Plan) (v : Views) (d : DevId) (on : List Bool) → v.on ≡ on → switched true on (chain plan.domains (length plan.domains) (domain plan d)) ≡ switched true v.on (up plan v d)
up-switched plan v d on is =
    sym (switched-those_off on (chain plan.domains (length plan.domains) (domain plan d))) ∙ ap (switched true on) (up-those_off plan v d on is) ∙ ap (λ bits. switched true bits (up plan v d)) (sym is)
