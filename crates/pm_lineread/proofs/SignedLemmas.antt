-- A signed number that is read has its range.
use Rattle.std.proofs.Common.{◌≡◌, ℕ, ◌<◌, ◌≤◌, ◌^◌, true, List, ℤ, Result, Ok, Err, IfOk, sym}
use Rattle.pm_model.specs.LineOf.{fits_signed}
use Rattle.pm_lineread.specs.Reading.{signed_at}
use Rattle.pm_lineread.proofs.Parts.{signed_reads}

pub signed_fits : (half : ℕ) (bytes : List ℕ) (r : Result ℤ ℕ) → 0 < half → half ≤ 2 ^ 63 → r ≡ signed_at half bytes → IfOk r (λ number. fits_signed half number ≡ true)
signed_fits half bytes (Ok n) some limit is = ((signed_reads half some limit).sound bytes n (sym is)).0
signed_fits half bytes (Err left) some limit is = tt
