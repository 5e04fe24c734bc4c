-- Piece by piece.
use Rattle.std.proofs.Common.{◌∙◌, ◌++◌, ap}
use Rattle.pm_linetext.proofs.AppendLemmas.{done, more}
use Rattle.pm_driver_report.proofs.texts.push_shown.Goals as goal

pub returns : goal.returns
returns c =
    let old = c.args.text.now.items in
    let number = more old _ _ _ _ (more old _ _ _ _ c.in_ok-push.ensures c.in_ok-push_number.ensures) c.in_ok-push-2.ensures in
    let word = more old _ _ _ _ number (c.in_ok-push-3.ensures ∙ ap (λ x. c.push-2.new.text.items ++ x) c.pace_word.ensures) in
    done old _ _ _ _ c.push_counted-2.result (more old _ _ _ _ (more old _ _ _ _ (more old _ _ _ _ word c.in_ok-push-4.ensures) c.in_ok-push_counted.ensures) c.in_ok-push-5.ensures) c.push_counted-2.ensures
