-- Names that aren't refused are few.
use Rattle.std.proofs.Common.{◌≡◌, ◌≤◌, List, None, length, arith}
use Rattle.std.proofs.lemmas.Bool.Decides.{nat_tests}
use Rattle.pm_driver_read.specs.Managed.{few_managed}
use Rattle.pm_base.specs.declared.DevId.{DevId}
use Rattle.pm_driver_read.specs.Programs.{few_forced, few_names}
use Rattle.pm_driver_read.specs.declared.managed.ManagedStep.{ManagedStep}
use Rattle.pm_driver_script.specs.Calls.{FewNames}
use Rattle.pm_driver_script.specs.declared.names.ScriptNames.{ScriptNames}

pub few_of : (names : ScriptNames) → names.devices ≤ 1024 → length names.forced ≤ 64 → length names.callers ≤ 16 → few_names names ≡ None → FewNames names
few_of names devices forced callers none = record {
  devices = devices;
  forced = forced;
  flags = grind (arith, nat_tests);
  marks = grind (arith, nat_tests);
  locks = grind (arith, nat_tests);
  callers = callers;
}

pub managed_few : (managed : List ManagedStep) → few_managed managed ≡ None → length managed ≤ 64
managed_few managed none = grind (arith, nat_tests)

pub forced_few : (forced : List DevId) → few_forced forced ≡ None → length forced ≤ 64
forced_few forced none = grind (arith, nat_tests)
