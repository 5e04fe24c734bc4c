-- The derived test of two observations is exact.
use Rattle.std.proofs.Common.{◌≡◌, true, arith}
use Rattle.std.proofs.lemmas.Grind.{common_steps}
use Rattle.pm_outcomes.specs.declared.list.observations.Left.{Left}
use Rattle.pm_outcomes.specs.declared.list.observations.Observation.{Observation}
use Rattle.pm_outcomes.specs.declared.list.observations.Observation.TheVariants.{End, Return}
use Rattle.pm_outcomes.specs.declared.list.observations.Returned.{Returned}
use Rattle.pm_outcomes.specs.contracts.list.observations.LeftPartialEq.TheImpl.{eq-value as left_eq}
use Rattle.pm_outcomes.specs.contracts.list.observations.ObservationEq.TheImpl.Laws.{laws-law}
use Rattle.pm_outcomes.specs.contracts.list.observations.ObservationPartialEq.TheImpl.{eq-value}
use Rattle.pm_outcomes.specs.contracts.list.observations.ReturnedPartialEq.TheImpl.{eq-value as returned_eq}

returned_alike : (a b : Returned) → returned_eq.it a b ≡ true → a ≡ b
returned_alike a b is = grind (arith, common_steps)

left_alike : (a b : Left) → left_eq.it a b ≡ true → a ≡ b
left_alike a b is = grind (arith, common_steps)

pub alike : (a b : Observation) → eq-value.it a b ≡ true → a ≡ b
alike (Return a) (Return b) is = grind (arith, common_steps, returned_alike)
alike (Return a) (End b) is = cc is
alike (End a) (Return b) is = cc is
alike (End a) (End b) is = grind (arith, common_steps, left_alike)

pub itself : (a : Observation) → eq-value.it a a ≡ true
itself a = laws-law.refl a
