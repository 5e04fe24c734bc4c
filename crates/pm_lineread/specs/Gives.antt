-- What a function of src/ answers and what reading gives are one, where contracts see what its references point to.
use Rattle.std.specs.Prelude.{◌≡◌, ℕ, Result, Ok, Err}

abbrev pub Gives : {X Y : Type 0} → (X → Y) → Result X ℕ → Result Y ℕ → Type 0
Gives view (Ok x) read = read ≡ Ok (view x)
Gives view (Err left) read = read ≡ Err left
