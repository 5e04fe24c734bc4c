-- A sink in memory as contracts see it.
use Rattle.std.specs.Prelude.{ℕ, List}

-- what a `MemSink` is
pub record Bucket : Type 0 where
  -- the bytes taken
  pub taken : List ℕ
  -- how many bytes a call takes at most
  pub most : ℕ
  -- the numbers of the calls that fail
  pub fail : List ℕ
  -- how many calls were made, and how many of them failed
  pub calls : ℕ
  pub faults : ℕ
