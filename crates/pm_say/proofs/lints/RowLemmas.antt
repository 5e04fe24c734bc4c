-- Warnings of rows, one after the other.
use Rattle.std.proofs.Common.{ℕ, List, drop}
use Rattle.std.specs.List.{enumerate_from, flat_map}
use Rattle.pm_say.specs.declared.lints.Warning.{Warning}

-- what is said of the rows from a place on
abbrev pub said_from : {A : Type 0} → (ℕ → A → List Warning) → ℕ → List A → List Warning
said_from says i rows = flat_map (λ p. says p.0 p.1) (enumerate_from i (drop i rows))
