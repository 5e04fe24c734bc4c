-- How a risen count goes on over several calls.
use Rattle.std.proofs.Common.{ℕ, ◌≤◌, arith}
use Rattle.pm_io.specs.Faults.{Rose, counted}

-- it rose in the later of two spans
pub rose_later : (old mid new : ℕ) → old ≤ mid → Rose mid new → Rose old new
rose_later old mid new before rose = grind arith

-- it rose in the earlier of two spans
pub rose_earlier : (old mid new : ℕ) → Rose old mid → mid ≤ new → Rose old new
rose_earlier old mid new rose after = grind arith

-- one more counted is a rise
pub rose_counted : (old : ℕ) → Rose old (counted old)
rose_counted old = grind arith
