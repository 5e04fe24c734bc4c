-- What a sink took of a piece, where it tells that.
use Rattle.std.specs.Prelude.{◌≡◌, ℕ, ◌≤◌, List, length, take}
use Rattle.std.specs.declared.option.Option.{Option}
use Rattle.std.specs.Io.KnownBytes.{append_known}

-- the first bytes of the piece, which may be none or all of them
abbrev pub TookPrefix : Option (List ℕ) → Option (List ℕ) → List ℕ → Type 0
TookPrefix old new piece = (n : ℕ) × (n ≤ length piece) × (new ≡ append_known old (take n piece))
