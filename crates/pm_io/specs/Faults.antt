-- Counts of calls and of faults, and when a count of faults has risen.
use Rattle.std.specs.Prelude.{ℕ, ◌+◌, ◌-◌, ◌^◌, ◌<◌, ◌≤◌, ◌⊎◌, ◌==◌, min, Bool, List}
use Rattle.std.specs.List.{list_any}

-- one more; a count is a u64 and stands still at its end
abbrev pub counted : ℕ → ℕ
counted n = min (n + 1) (2 ^ 64 - 1)

-- the count is larger than before, or it stands at the end of a u64
abbrev pub Rose : ℕ → ℕ → Type 0
Rose old new = (old < new) ⊎ (2 ^ 64 - 1 ≤ new)

-- after so many calls, the number of the next is one of those that fail
abbrev pub fails_next : List ℕ → ℕ → Bool
fails_next fail calls = list_any (λ number. number == counted calls) fail
