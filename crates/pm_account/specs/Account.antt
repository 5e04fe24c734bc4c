-- The times of all devices of a plan over a list of lines.
use Rattle.std.specs.Prelude.{◌≡◌, ◌<◌, List, length, slice_index_or}
use Rattle.pm_base.specs.declared.DevId.{DevId}
use Rattle.pm_model.specs.declared.plan.Plan.{Plan}
use Rattle.pm_model.specs.History.{History}
use Rattle.pm_account.specs.declared.Times.{Times}
use Rattle.pm_account.specs.Times.{times_of}

abbrev pub no_times : Times
no_times = record { active = 0; suspended = 0; moving = 0 }

-- one entry for each device, with its times
pub record IsAccount (plan : Plan) (h : History) (account : List Times) : Type 0 where
  pub entries : length account ≡ length plan.devices
  pub each : (d : DevId) → d.0 < length plan.devices → slice_index_or account d.0 no_times ≡ times_of h d
