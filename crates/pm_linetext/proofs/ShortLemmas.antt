-- What a short text is made of is short.
use Rattle.std.proofs.Common.{ℕ, suc, ◌<◌, ◌≤◌, ◌^◌, ℤ, pos, negsuc, FitsSigned, w32, length, decimal, arith, lit<}
use Rattle.std.specs.Fmt.{signed_decimal}
use Rattle.std.proofs.lemmas.Int.{ints}
use Rattle.std.proofs.lemmas.Fmt.{length-decimal-le}
use Rattle.pm_model.specs.declared.plan.Plan.{Plan}
use Rattle.pm_model.specs.Spelling.{device_name}
use Rattle.pm_model.specs.Text.{names_of}
use Rattle.pm_linetext.proofs.Lengths.{names_fit}

pub number_short : (n : ℕ) → n < 2 ^ 64 → length (decimal n) ≤ 20
number_short n small = length-decimal-le 20 n (lit< tt) (omega arith) (omega arith)

below : (n : ℕ) → n < 2 ^ 32 → length (decimal n) ≤ 10
below n small = length-decimal-le 10 n (lit< tt) (omega arith) (omega arith)

pub code_short : (code : ℤ) → FitsSigned w32 code → length (signed_decimal code) ≤ 11
code_short (pos n) fits =
    let small : n < 2 ^ 32 = omega (arith, ints) in
    omega (arith, below n small)
code_short (negsuc n) fits =
    let small : suc n < 2 ^ 32 = omega (arith, ints) in
    omega (arith, below (suc n) small)

pub name_short : (plan : Plan) (d : ℕ) → length (device_name (names_of plan) d) ≤ 32
name_short plan d = let fits = names_fit plan in fits.devices d
