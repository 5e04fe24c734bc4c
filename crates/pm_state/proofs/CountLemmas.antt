-- What a count's taking and giving back ask of the usage, whoever's it is.
use Rattle.std.proofs.Common.{◌≡◌, ◌+◌, ◌<◌, ◌^◌, true, nat_lt}
use Rattle.std.proofs.lemmas.Bool.{and_parts, ltb-true}
use Rattle.pm_base.specs.declared.DevId.{DevId}
use Rattle.pm_base.specs.declared.Why.{Why}
use Rattle.pm_base.specs.declared.Why.TheVariants as why
use Rattle.pm_model.specs.CanTake.{can_get, can_put, has_room}
use Rattle.pm_model.specs.Views.{Views, device}

pub usage_has_room : (v : Views) (d : DevId) (w : Why) → can_get v d w ≡ true → (device v d).usage + 1 < 2 ^ 32
usage_has_room v d why.Caller can = ltb-true _ _ (and_parts (has_room (device v d).usage) (has_room (device v d).share) can).0
usage_has_room v d _ can = ltb-true _ _ can

pub usage_is_taken : (v : Views) (d : DevId) (w : Why) → can_put v d w ≡ true → 0 < (device v d).usage
usage_is_taken v d why.Caller can = ltb-true _ _ (and_parts (nat_lt 0 (device v d).usage) (nat_lt 0 (device v d).share) can).0
usage_is_taken v d _ can = ltb-true _ _ can
