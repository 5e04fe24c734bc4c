use Rattle.pm_linetext.proofs.AppendLemmas.{done, more}
use Rattle.pm_module.proofs.rows.push_called.Goals as goal

pub returns : goal.returns
returns c =
    let old = c.args.text.now.items in
    done old _ _ _ _ c.push_operand_number.result (more old _ _ _ _ (more old _ _ _ _ (more old _ _ _ _ c.in_ok-push_helper.ensures c.in_ok-push.ensures) c.in_ok-push_number.ensures) c.in_ok-push-2.ensures) c.push_operand_number.ensures
