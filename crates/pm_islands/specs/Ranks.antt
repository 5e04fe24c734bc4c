-- The numbers of islands by the labels of their nodes (this project's own).
use Rattle.std.specs.Prelude.{ℕ, zero, suc, Bool, List, Option, Some, None, drop, length, nat_eq, take, if◌then◌else◌}
use Rattle.std.specs.List.{list_any}
use Rattle.pm_model.specs.declared.plan.Plan.{Plan}

-- the labels of the callers
abbrev pub of_callers : Plan → List ℕ → List ℕ
of_callers plan labels = take (length plan.callers) (drop (length plan.devices) labels)

-- whether a number is among these labels
abbrev pub is_among : List ℕ → ℕ → Bool
is_among labels n = list_any (λ x. nat_eq x n) labels

-- how many numbers below this one are among these labels
abbrev pub rank : List ℕ → ℕ → ℕ
rank labels zero = 0
rank labels (suc n) = if is_among labels n then suc (rank labels n) else rank labels n

-- the number of the island of nodes with this label, if a caller has it
abbrev pub number_of : List ℕ → ℕ → Option ℕ
number_of callers x = if is_among callers x then Some (rank callers x) else None
