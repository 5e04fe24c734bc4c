-- Piece by piece.
use Rattle.pm_linetext.proofs.AppendLemmas.{done, more}
use Rattle.pm_driver_report.proofs.texts.push_off.Goals as goal

pub returns : goal.returns
returns c =
    let old = c.args.text.now.items in
    done old _ _ _ _ c.push-2.result (more old _ _ _ _ (more old _ _ _ _ c.in_ok-push_caller.ensures c.in_ok-push.ensures) c.in_ok-push_device.ensures) c.push-2.ensures
