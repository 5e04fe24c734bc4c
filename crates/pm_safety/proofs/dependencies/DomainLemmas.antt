-- Loops over the plan's devices and up a chain of domains, one turn on.
use Rattle.std.proofs.Common.{ℕ, zero, suc, ◌≡◌, ◌+◌, ◌-◌, ◌<◌, ◌≤◌, Bool, true, false, ◌||◌, ◌++◌, List, [], ◌∷◌, Option, Some, None, get_or, length, nat_eq, if◌then◌else◌, ap, refl, sym, zero-add, ◌∙◌, arith}
use Rattle.std.specs.List.{enumerate_from, find, flat_map, list_any, range_with_len}
use Rattle.std.proofs.lemmas.Bool.{eqb-true}
use Rattle.std.proofs.lemmas.List.{flat_map_more, get_or-map, map-id}
use Rattle.std.proofs.lemmas.List.FromFn.{get_or-enumerate_from, length-enumerate_from, map-range_with_len_more}
use Rattle.pm_base.specs.declared.DomId.{DomId}
use Rattle.pm_model.specs.declared.rows.DomainRow.{DomainRow}
use Rattle.pm_domain.specs.Domains.{fresh_on}
use Rattle.pm_model.specs.declared.plan.Plan.{Plan}
use Rattle.pm_model.specs.PlanRows.{chain, domain_parent, is_kept_on}

range_here : (i n : ℕ) → i < n → range_with_len i (n - i) ≡ i ∷ range_with_len (i + 1) (n - (i + 1))
range_here i n within =
    let one : n - i ≡ suc (n - (i + 1)) = omega (arith, within) in ap (λ m. range_with_len i m) one

range_none : (i n : ℕ) → n ≤ i → range_with_len i (n - i) ≡ []
range_none i n past =
    let none : n - i ≡ 0 = omega (arith, past) in ap (λ m. range_with_len i m) none

-- whether a number from one on passes a test
pub any_found : (p : ℕ → Bool) (i n : ℕ) (all : Bool) → i < n → p i ≡ true → list_any p (range_with_len i (n - i)) ≡ all → true ≡ all
any_found p i n all within passes is =
    sym (ap (λ b. b || list_any p (range_with_len (i + 1) (n - (i + 1)))) passes) ∙ sym (ap (list_any p) (range_here i n within)) ∙ is

pub any_more : (p : ℕ → Bool) (i n : ℕ) (all : Bool) → i < n → p i ≡ false → list_any p (range_with_len i (n - i)) ≡ all
    → list_any p (range_with_len (i + 1) (n - (i + 1))) ≡ all
any_more p i n all within fails is =
    sym (ap (λ b. b || list_any p (range_with_len (i + 1) (n - (i + 1)))) fails) ∙ sym (ap (list_any p) (range_here i n within)) ∙ is

pub any_ended : (p : ℕ → Bool) (i n : ℕ) (all : Bool) → n ≤ i → list_any p (range_with_len i (n - i)) ≡ all → false ≡ all
any_ended p i n all past is = sym (ap (list_any p) (range_none i n past)) ∙ is

-- the first that does
find_by : (p : ℕ → Bool) (x : ℕ) (xs : List ℕ) (b : Bool) → p x ≡ b → find p (x ∷ xs) ≡ (if b then Some x else find p xs)
find_by p x xs b is = ap (λ c. if c then Some x else find p xs) is

pub find_found : (p : ℕ → Bool) (i n : ℕ) (all : Option ℕ) → i < n → p i ≡ true → find p (range_with_len i (n - i)) ≡ all → Some i ≡ all
find_found p i n all within passes is =
    sym (find_by p i (range_with_len (i + 1) (n - (i + 1))) true passes) ∙ sym (ap (find p) (range_here i n within)) ∙ is

pub find_more : (p : ℕ → Bool) (i n : ℕ) (all : Option ℕ) → i < n → p i ≡ false → find p (range_with_len i (n - i)) ≡ all
    → find p (range_with_len (i + 1) (n - (i + 1))) ≡ all
find_more p i n all within fails is =
    sym (find_by p i (range_with_len (i + 1) (n - (i + 1))) false fails) ∙ sym (ap (find p) (range_here i n within)) ∙ is

pub find_ended : (p : ℕ → Bool) (i n : ℕ) (all : Option ℕ) → n ≤ i → find p (range_with_len i (n - i)) ≡ all → None ≡ all
find_ended p i n all past is = sym (ap (find p) (range_none i n past)) ∙ is

-- whether a domain is among those of a chain
chain_none : (rows : List DomainRow) (n : ℕ) → chain rows n None ≡ []
chain_none rows zero = refl
chain_none rows (suc n) = refl

chain_here : (rows : List DomainRow) (n step : ℕ) (d : DomId) (next : Option DomId) → step < n → next ≡ Some d
    → chain rows (n - step) next ≡ d.0 ∷ chain rows (n - (step + 1)) (domain_parent rows d)
chain_here rows n step d next within is =
    let one : n - step ≡ suc (n - (step + 1)) = omega (arith, within) in
    ap (λ m. chain rows m next) one ∙ ap (λ (x : Option DomId). chain rows (suc (n - (step + 1))) x) is

pub among_found : (rows : List DomainRow) (n step o : ℕ) (d : DomId) (next : Option DomId) (all : Bool) → step < n → next ≡ Some d → nat_eq o d.0 ≡ true
    → list_any (nat_eq o) (chain rows (n - step) next) ≡ all → true ≡ all
among_found rows n step o d next all within is same before =
    sym (ap (λ b. b || list_any (nat_eq o) (chain rows (n - (step + 1)) (domain_parent rows d))) same)
    ∙ sym (ap (list_any (nat_eq o)) (chain_here rows n step d next within is)) ∙ before

differs : (a b : ℕ) → (a ≡ b → ⊥) → nat_eq a b ≡ false
differs a b differ = go (nat_eq a b) refl
  where
    go : (c : Bool) → nat_eq a b ≡ c → nat_eq a b ≡ false
    go true same = absurd (differ (eqb-true a b same))
    go false other = other

pub among_more : (rows : List DomainRow) (n step o : ℕ) (d : DomId) (next above : Option DomId) (all : Bool) → step < n → next ≡ Some d → (o ≡ d.0 → ⊥)
    → above ≡ domain_parent rows d → list_any (nat_eq o) (chain rows (n - step) next) ≡ all
    → list_any (nat_eq o) (chain rows (n - (step + 1)) above) ≡ all
among_more rows n step o d next above all within is differ parent before =
    let other = differs o d.0 differ in
    ap (λ (x : Option DomId). list_any (nat_eq o) (chain rows (n - (step + 1)) x)) parent
    ∙ sym (ap (λ b. b || list_any (nat_eq o) (chain rows (n - (step + 1)) (domain_parent rows d))) other)
    ∙ sym (ap (list_any (nat_eq o)) (chain_here rows n step d next within is)) ∙ before

pub among_none : (rows : List DomainRow) (n o : ℕ) (next : Option DomId) (all : Bool) → next ≡ None → list_any (nat_eq o) (chain rows n next) ≡ all → false ≡ all
among_none rows n o next all is before =
    sym (ap (list_any (nat_eq o)) (ap (λ (x : Option DomId). chain rows n x) is ∙ chain_none rows n)) ∙ before

pub among_ended : (rows : List DomainRow) (n step o : ℕ) (next : Option DomId) (all : Bool) → n ≤ step → list_any (nat_eq o) (chain rows (n - step) next) ≡ all → false ≡ all
among_ended rows n step o next all past before =
    let none : n - step ≡ 0 = omega (arith, past) in
    sym (ap (λ m. list_any (nat_eq o) (chain rows m next)) none) ∙ before

-- those that are on before any line are kept on
some_row : (rows : List DomainRow) (o : ℕ) → o < length rows → DomainRow
some_row [] o within = absurd (omega (arith, within))
some_row (row ∷ rows) o within = row

pub fresh_at : (plan : Plan) (on : List Bool) (o : ℕ) → on ≡ fresh_on plan → o < length plan.domains → get_or on o false ≡ is_kept_on plan.domains o
fresh_at plan on o is within =
    let d = some_row plan.domains o within in
    ap (λ (l : List Bool). get_or l o false) is
    ∙ get_or-map (λ (p : ℕ × DomainRow). is_kept_on plan.domains p.0) (enumerate_from 0 plan.domains) o (0, d) false (omega (arith, length-enumerate_from 0 plan.domains))
    ∙ ap (λ (p : ℕ × DomainRow). is_kept_on plan.domains p.0) (get_or-enumerate_from 0 plan.domains o (0, d) within)
    ∙ ap (is_kept_on plan.domains) (zero-add o)

-- one domain more is looked at
range_more : (i : ℕ) → range_with_len 0 (i + 1) ≡ range_with_len 0 i ++ i ∷ []
range_more i =
    sym (map-id (range_with_len 0 (i + 1))) ∙ map-range_with_len_more (λ x. x) 0 i i (omega arith) ∙ ap (λ l. l ++ i ∷ []) (map-id (range_with_len 0 i))

pub flat_one : {X : Type 0} (f : ℕ → List X) (i : ℕ) (all after : List X) → all ≡ flat_map f (range_with_len 0 i) → after ≡ all ++ f i → after ≡ flat_map f (range_with_len 0 (i + 1))
flat_one f i all after was is =
    is ∙ ap (λ l. l ++ f i) was ∙ flat_map_more f [] (range_with_len 0 i) i ∙ ap (λ l. flat_map f l) (sym (range_more i))
