use Rattle.std.proofs.Common.{◌≡◌, drop}
use Rattle.pm_planread.specs.rows.Numbers.{is_other_code}
use Rattle.pm_planread.specs.tree.Places.{first_place}
use Rattle.pm_planread.proofs.rows.codes.first_other_code.Given as goal

abbrev pub invariant-loop-i : goal.invariant-loop-i
invariant-loop-i l = first_place is_other_code l.i (drop l.i l.codes) ≡ first_place is_other_code 0 l.codes
