-- The three islands of a plan, their numbers and their parts.
use Rattle.std.proofs.Common.{ℕ, zero, suc, ◌≡◌, ◌<◌, false, List, [], ◌∷◌, Some, None, map, length, true, refl, sym, ap, subst, arith}
use Rattle.pm_model.specs.declared.rows.CallerRow.{CallerRow}
use Rattle.pm_model.specs.Islands.{Connected, IsLabelling, IsPart, Node, Numbering, against, along, comes_before, here, island_of, the_caller, the_device, the_domain}
use Rattle.pm_model.specs.Serial.{callers_and_works, timer_actors}
use Rattle.pm_show_runs.proofs.CallTable.{call_table}
use Rattle.pm_show_runs.proofs.promises.Rows.{rows_share}
use Rattle.pm_laws.proofs.islands.Walks.{goes_back, goes_further, keeps_number}
use Rattle.pm_show_runs.specs.promises.ThreeIslands.{first_part, firsts, numbers, second_part, third_part, three_islands}

shared : IsLabelling three_islands numbers
unfolding call_table
shared = rows_share three_islands numbers (record { devices = refl; domains = refl; links = refl; callers = refl })

-- 3 is no island
none : {A : Type 0} → 3 < 3 → A
none below = absurd (omega arith)

differ : {A : Type 0} → suc zero ≡ zero → A
differ same = absurd (omega arith)

too_many : {A : Type 0} (n : ℕ) → suc (suc (suc n)) < 3 → A
too_many n below = absurd (omega arith)

from_first : (a : Node) → numbers a < 3 → Connected three_islands (firsts (numbers a)) a
unfolding call_table
from_first (the_device zero) below = none below
from_first (the_device (suc zero)) below = here (the_device 1)
from_first (the_device (suc (suc zero))) below =
    against (the_device 1) (the_device 3) (the_device 2) refl (along (the_device 3) (the_device 2) (the_device 2) refl (here (the_device 2)))
from_first (the_device (suc (suc (suc zero)))) below = against (the_device 1) (the_device 3) (the_device 3) refl (here (the_device 3))
from_first (the_device (suc (suc (suc (suc zero))))) below = here (the_device 4)
from_first (the_device (suc (suc (suc (suc (suc d)))))) below = none below
from_first (the_domain zero) below =
    against (the_device 1) (the_device 3) (the_domain 0) refl (along (the_device 3) (the_domain 0) (the_domain 0) refl (here (the_domain 0)))
from_first (the_domain (suc o)) below = none below
from_first (the_caller zero) below = here (the_caller 0)
from_first (the_caller (suc zero)) below = against (the_device 4) (the_caller 1) (the_caller 1) refl (here (the_caller 1))
from_first (the_caller (suc (suc zero))) below =
    against (the_device 1) (the_device 3) (the_caller 2) refl (against (the_device 3) (the_caller 2) (the_caller 2) refl (here (the_caller 2)))
from_first (the_caller (suc (suc (suc zero)))) below = against (the_device 1) (the_caller 3) (the_caller 3) refl (here (the_caller 3))
from_first (the_caller (suc (suc (suc (suc c))))) below = none below

finest : (a b : Node) → numbers a < 3 → numbers a ≡ numbers b → Connected three_islands a b
finest a b below same =
    let there : Connected three_islands (firsts (numbers b)) b = from_first b (subst (λ n. n < 3) same below) in
    goes_further three_islands a (firsts (numbers a)) b (goes_back three_islands (firsts (numbers a)) a (from_first a below))
    (subst (λ n. Connected three_islands (firsts n) b) (sym same) there)

least : (a : Node) → numbers a < 3 → comes_before a (firsts (numbers a)) ≡ false
least (the_device zero) below = none below
least (the_device (suc zero)) below = refl
least (the_device (suc (suc zero))) below = refl
least (the_device (suc (suc (suc zero)))) below = refl
least (the_device (suc (suc (suc (suc zero))))) below = refl
least (the_device (suc (suc (suc (suc (suc d)))))) below = none below
least (the_domain zero) below = refl
least (the_domain (suc o)) below = none below
least (the_caller zero) below = refl
least (the_caller (suc zero)) below = refl
least (the_caller (suc (suc zero))) below = refl
least (the_caller (suc (suc (suc zero)))) below = refl
least (the_caller (suc (suc (suc (suc c))))) below = none below

numbering : Numbering three_islands 3
numbering = record {
  island = numbers;
  shared = shared;
  finest = finest;
  callers = callers;
  has_caller = has_caller;
  first = firsts;
  is_own = is_own;
  is_least = least;
  in_order = in_order;
}
  where
    callers : (c : ℕ) → c < 4 → numbers (the_caller c) < 3
    callers zero below = omega arith
    callers (suc zero) below = omega arith
    callers (suc (suc zero)) below = omega arith
    callers (suc (suc (suc zero))) below = omega arith
    callers (suc (suc (suc (suc c)))) below = absurd (omega arith)

    has_caller : (n : ℕ) → n < 3 → (c : ℕ) × (c < 4) × (numbers (the_caller c) ≡ n)
    has_caller zero below = (2, omega arith, refl)
    has_caller (suc zero) below = (1, omega arith, refl)
    has_caller (suc (suc zero)) below = (0, omega arith, refl)
    has_caller (suc (suc (suc n))) below = too_many n below

    is_own : (n : ℕ) → n < 3 → numbers (firsts n) ≡ n
    is_own zero below = refl
    is_own (suc zero) below = refl
    is_own (suc (suc zero)) below = refl
    is_own (suc (suc (suc n))) below = too_many n below

    in_order : (m n : ℕ) → m < n → n < 3 → comes_before (firsts m) (firsts n) ≡ true
    in_order zero (suc zero) less below = refl
    in_order zero (suc (suc zero)) less below = refl
    in_order (suc zero) (suc (suc zero)) less below = refl
    in_order m (suc (suc (suc n))) less below = too_many n below
    in_order m zero less below = absurd (omega arith)
    in_order (suc m) (suc zero) less below = absurd (omega arith)
    in_order (suc (suc m)) (suc (suc zero)) less below = absurd (omega arith)

pub nodes_are_numbered : (k : Numbering three_islands 3) × ((node : Node) → k.island node ≡ numbers node)
unfolding numbering
nodes_are_numbered = (numbering, λ node. refl)

pub callers_and_works_are_on :
    (k : Numbering three_islands 3)
    × (map (island_of k) (callers_and_works three_islands)
    ≡ Some 2 ∷ Some 1 ∷ Some 0 ∷ Some 0 ∷ None ∷ Some 0 ∷ Some 0 ∷ Some 0 ∷ Some 1 ∷ [])
unfolding numbering
callers_and_works_are_on = (numbering, refl)

pub timers_are_on :
    (k : Numbering three_islands 3)
    × (map (island_of k) (timer_actors three_islands) ≡ None ∷ Some 0 ∷ Some 0 ∷ Some 0 ∷ Some 1 ∷ [])
unfolding numbering
timers_are_on = (numbering, refl)

pub are_joined : Connected three_islands (the_caller 2) (the_caller 3)
are_joined = finest (the_caller 2) (the_caller 3) (omega arith) refl

pub are_apart : ¬ Connected three_islands (the_caller 2) (the_caller 1)
are_apart walk = differ (sym (keeps_number three_islands numbers shared (the_caller 2) (the_caller 1) walk))

pub is_first_part : IsPart three_islands numbers 0 first_part
is_first_part = record { lines = refl; trace = refl; domains = refl; devices = refl; links = refl; callers = refl }

pub is_second_part : IsPart three_islands numbers 1 second_part
is_second_part = record { lines = refl; trace = refl; domains = refl; devices = refl; links = refl; callers = refl }

pub is_third_part : IsPart three_islands numbers 2 third_part
is_third_part = record { lines = refl; trace = refl; domains = refl; devices = refl; links = refl; callers = refl }

-- how many commands the first caller has
commands : List CallerRow → ℕ
commands [] = 0
commands (row ∷ rows) = length row.script

-- the plan isn't its first part: caller n still does something
pub is_no_part : ¬ IsPart three_islands numbers 0 three_islands
unfolding commands
is_no_part part = differ (ap commands part.callers)
