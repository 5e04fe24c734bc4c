use Rattle.pm_linetext.proofs.AppendLemmas.{done, more}
use Rattle.pm_module.proofs.rows.CommandRow.push_row.Goals as goal

pub returns : goal.returns
returns c =
    let old = c.args.text.now.items in
    done old _ _ _ _ c.push-4.result (more old _ _ _ _ (more old _ _ _ _ (more old _ _ _ _ (more old _ _ _ _ (more old _ _ _ _ c.in_ok-push.ensures c.in_ok-push_called.ensures) c.in_ok-push-2.ensures) c.in_ok-push_call_text.ensures) c.in_ok-push-3.ensures) c.in_ok-push_return_text.ensures) c.push-4.ensures
