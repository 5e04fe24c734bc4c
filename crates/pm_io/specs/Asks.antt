-- Which files were asked for (this project's own).
use Rattle.std.specs.Prelude.{◌≡◌, ℕ, ◌⊎◌, List, Option, Some}
use Rattle.pm_io.specs.Faults.{counted}

-- how many files were asked for, and the name of the last one, where its bytes are told
pub record Asks : Type 0 where
  pub count : ℕ
  pub last : Option (List ℕ)

-- one more, of this name
abbrev pub one_more : Asks → List ℕ → Asks
one_more asks name = record { count = counted asks.count; last = Some name }

-- no file was asked for but this one, once
abbrev pub AskedOnly : List ℕ → Asks → Asks → Type 0
AskedOnly name old new = (new ≡ old) ⊎ (new ≡ one_more old name)
