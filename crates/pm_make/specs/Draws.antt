-- Numbers that are drawn one after another, each from the state that the draw before left (this project's own).
use Rattle.std.specs.Prelude.{ℕ, zero, suc, ◌+◌, ◌*◌, ◌/◌, ◌%◌, ◌^◌, List, [], ◌++◌}

-- what was drawn, or made of draws, and the state that is left
pub record Drawn (A : Type 0) : Type 0 where
  pub item : A
  pub state : ℕ

abbrev pub first_state : ℕ → ℕ
first_state number = number % 2 ^ 32

unfoldable pub next_state : ℕ → ℕ
next_state x = (1664525 * x + 1013904223) % 2 ^ 32

-- a draw below k
abbrev pub draw : ℕ → ℕ → Drawn ℕ
draw k x = record { item = next_state x / 65536 % k; state = next_state x }

-- what the steps 0, 1 and so on make, n in all, one behind the other
abbrev pub in_turn : {A : Type 0} → (ℕ → ℕ → Drawn (List A)) → ℕ → ℕ → Drawn (List A)
in_turn step zero x = record { item = []; state = x }
in_turn step (suc i) x =
    let before = in_turn step i x in
    let made = step i before.state in
    record { item = before.item ++ made.item; state = made.state }
