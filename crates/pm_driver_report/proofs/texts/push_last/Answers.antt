-- Piece by piece.
use Rattle.std.proofs.Common.{◌∙◌, ◌++◌, ap, codes}
use Rattle.pm_linetext.proofs.AppendLemmas.{done, more}
use Rattle.pm_driver_report.specs.Texts.{counted}
use Rattle.pm_driver_report.proofs.texts.push_last.Goals as goal

pub returns : goal.returns
returns c =
    let old = c.args.text.now.items in
    let states = c.in_ok-push_counted-2.ensures ∙ ap (λ n. c.push-2.new.text.items ++ counted n (codes "state")) c.states_in.ensures in
    let findings = more old _ _ _ _ c.in_ok-push_counted.ensures c.in_ok-push.ensures in
    let passes = more old _ _ _ _ (more old _ _ _ _ findings c.in_ok-push_passes.ensures) c.in_ok-push-2.ensures in
    done old _ _ _ _ c.push-3.result (more old _ _ _ _ passes states) c.push-3.ensures
