-- Piece by piece.
use Rattle.pm_linetext.proofs.AppendLemmas.{done}
use Rattle.pm_driver_report.proofs.texts.push_sight.Goals as goal

pub returns-in_ok-push_call-in-PutsNone : goal.returns-in_ok-push_call-in-PutsNone
returns-in_ok-push_call-in-PutsNone c =
    rw c.in-PutsNone.is (done c.args.text.now.items _ _ _ _ c.push-in-PutsNone.result c.in_ok-push_call-in-PutsNone.ensures c.push-in-PutsNone.ensures)
