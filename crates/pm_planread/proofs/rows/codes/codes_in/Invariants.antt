use Rattle.std.proofs.Common.{◌≡◌, ◌++◌, drop}
use Rattle.pm_planread.specs.rows.Rows.{codes_of}
use Rattle.pm_planread.proofs.rows.codes.codes_in.Given as goal

abbrev pub invariant-loop-code : goal.invariant-loop-code
invariant-loop-code l = l.made.items ++ codes_of (drop l.code-index l.codes) ≡ codes_of l.codes
