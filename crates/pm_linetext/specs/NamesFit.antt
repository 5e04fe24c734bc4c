-- Names of which none is longer than what it is padded to.
use Rattle.std.specs.Prelude.{ℕ, ◌≤◌, length}
use Rattle.pm_model.specs.Spelling.{Names, caller_name, device_name}

-- each name has at most 32 bytes, as each of a plan has
pub record NamesFit (names : Names) : Type 0 where
  pub devices : (d : ℕ) → length (device_name names d) ≤ 32
  pub callers : (c : ℕ) → length (caller_name names c) ≤ 32
