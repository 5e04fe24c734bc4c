-- The derived tests of what stages have are exact.
use Rattle.std.proofs.Common.{◌≡◌, true, Option, Some, None, refl, ap, arith}
use Rattle.std.proofs.lemmas.Grind.{common_steps}
use Rattle.std.specs.Option.{option_eq}
use Rattle.pm_base.specs.declared.DevId.{DevId}
use Rattle.pm_base.specs.contracts.DevIdPartialEq.TheImpl.{eq-value as dev_eq}
use Rattle.pm_model.specs.declared.event.Helper.{Helper}
use Rattle.pm_model.specs.contracts.event.HelperPartialEq.TheImpl.{eq-value as helper_eq}

pub dev_alike : (a b : DevId) → dev_eq.it a b ≡ true → a ≡ b
dev_alike a b is = grind (arith, common_steps)

pub maybe_dev_alike : (a b : Option DevId) → option_eq dev_eq.it a b ≡ true → a ≡ b
maybe_dev_alike None None is = refl
maybe_dev_alike None (Some y) is = cc is
maybe_dev_alike (Some x) None is = cc is
maybe_dev_alike (Some x) (Some y) is = ap Some (dev_alike x y is)

pub helper_alike : (a b : Helper) → helper_eq.it a b ≡ true → a ≡ b
helper_alike a b is = grind (arith, common_steps)
