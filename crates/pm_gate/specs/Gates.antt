-- Whose callback a `Meet` holds (this project's own).
use Rattle.std.specs.Prelude.{ℕ, Bool, true, false, ◌&&◌, Option, Some, None, nat_eq, if◌then◌else◌}
use Rattle.pm_base.specs.declared.Cb.{Cb}
use Rattle.pm_base.specs.declared.Cb.TheVariants.{Resume}
use Rattle.pm_base.specs.declared.DevId.{DevId}
use Rattle.pm_gate.specs.declared.gates.Side.{Side}
use Rattle.pm_gate.specs.declared.gates.Side.TheVariants.{One, Other}

abbrev pub is_resume : Cb → Bool
is_resume Resume = true
is_resume _ = false

-- whether this is the first resume callback of a device
abbrev pub is_first_resume : DevId → Cb → DevId → ℕ → Bool
is_first_resume device cb dev nth = nat_eq dev.0 device.0 && is_resume cb && nat_eq nth 1

-- whose first resume callback this is, if it is one of the two
abbrev pub side_of : DevId → DevId → DevId → Cb → ℕ → Option Side
side_of one other dev cb nth = if is_first_resume one cb dev nth then Some One else if is_first_resume other cb dev nth then Some Other else None
