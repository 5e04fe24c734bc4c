-- Which points of a graph are reached from one, and by how many steps that spend (this project's own).
use Rattle.std.specs.Prelude.{ℕ, suc, ◌≤◌, Bool, true, false}

-- A step is free, or it spends. The point is reached from the start by steps of which so many spend.
pub data Reached {P : Type 0} (Follows : Bool → P → P → Type 0) (start : P) : ℕ → P → Type 0 where
  begins : Reached Follows start 0 start
  goes_on : {k : ℕ} (p q : P) → Reached Follows start k p → Follows false p q → Reached Follows start k q
  spends : {k : ℕ} (p q : P) → Reached Follows start k p → Follows true p q → Reached Follows start (suc k) q

-- by at most so many
pub record ReachedWithin {P : Type 0} (Follows : Bool → P → P → Type 0) (start : P) (k : ℕ) (p : P) : Type 0 where
  pub spent : ℕ
  pub few : spent ≤ k
  pub reached : Reached Follows start spent p
