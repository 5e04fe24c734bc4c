-- The real files and streams as contracts see them.
use Rattle.std.specs.Prelude.{ℕ, List, Bool, Option}

-- what is known of a `DiskFiles`
pub record DiskState : Type 0 where
  pub is_started : Bool
  -- the bytes that reads of the started file will give, where `std` tells them
  pub left : Option (List ℕ)
  pub place : ℕ
  pub faults : ℕ

-- what is known of a `StdOut` or a `StdErr`
pub record StreamState : Type 0 where
  -- the bytes that the stream took, where `std` tells them
  pub taken : Option (List ℕ)
  pub faults : ℕ
