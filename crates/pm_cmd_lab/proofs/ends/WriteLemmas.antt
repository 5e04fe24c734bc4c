-- What holds behind an error.
use Rattle.std.proofs.Common.{Result, Ok, Err, OnErr}

pub behind_err : {T E P : Type 0} (r : Result T E) → P → OnErr r P
behind_err (Ok x) holds = tt
behind_err (Err e) holds = holds

-- and what follows from it
pub follows_err : {T E P Q : Type 0} (r : Result T E) → (P → Q) → OnErr r P → OnErr r Q
follows_err (Ok x) more holds = tt
follows_err (Err e) more holds = more holds
