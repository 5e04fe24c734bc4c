use Rattle.std.proofs.Common.{◌≡◌, drop}
use Rattle.pm_planread.specs.rows.Apart.{is_rising}
use Rattle.pm_planread.proofs.rows.apart.is_rising.Given as goal

abbrev pub invariant-loop-number : goal.invariant-loop-number
invariant-loop-number l = is_rising l.last (drop l.number-index l.numbers) ≡ is_rising 0 l.numbers
