use Rattle.std.proofs.Common.{arith, length, reverse}
use Rattle.pm_account.proofs.KeptLemmas.{all_ready}
use Rattle.pm_account.proofs.account.Goals as goal

pub until_end-requires : goal.until_end-requires
until_end-requires c =
    rw c.deref.ensures.value
    (all_ready (length c.args.plan.now.devices) (reverse c.args.lines.now) c.in_ok-stays.stays.items c.last_time.result (omega (arith, c.last_time.ensures)) c.in_ok-stays.ensures)
