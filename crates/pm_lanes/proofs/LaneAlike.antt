-- The derived test of two lanes is exact.
use Rattle.std.proofs.Common.{◌≡◌, true, arith}
use Rattle.std.proofs.lemmas.Grind.{common_steps}
use Rattle.pm_lanes.specs.declared.shown.Lane.{Lane}
use Rattle.pm_lanes.specs.contracts.shown.LaneEq.TheImpl.Laws.{laws-law}
use Rattle.pm_lanes.specs.contracts.shown.LanePartialEq.TheImpl.{eq-value}

pub alike : (a b : Lane) → eq-value.it a b ≡ true → a ≡ b
alike a b is = grind (arith, common_steps)

pub itself : (a : Lane) → eq-value.it a a ≡ true
itself a = laws-law.refl a
