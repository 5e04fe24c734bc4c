use Rattle.pm_linetext.proofs.AppendLemmas.{done, more}
use Rattle.pm_module.proofs.rows.LinkRowRow.push_row.Goals as goal

pub returns : goal.returns
returns c =
    let old = c.args.text.now.items in
    done old _ _ _ _ c.push-5.result (more old _ _ _ _ (more old _ _ _ _ (more old _ _ _ _ (more old _ _ _ _ (more old _ _ _ _ (more old _ _ _ _ (more old _ _ _ _ c.in_ok-push.ensures c.in_ok-push_number.ensures) c.in_ok-push-2.ensures) c.in_ok-push_number-2.ensures) c.in_ok-push-3.ensures) c.in_ok-push_truth.ensures) c.in_ok-push-4.ensures) c.in_ok-push_truth-2.ensures) c.push-5.ensures
