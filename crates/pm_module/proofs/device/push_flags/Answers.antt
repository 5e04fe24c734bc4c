use Rattle.pm_linetext.proofs.AppendLemmas.{done, more}
use Rattle.pm_module.proofs.device.push_flags.Goals as goal

pub returns : goal.returns
returns c =
    let old = c.args.text.now.items in
    done old _ _ _ _ c.push_idle_flag.result (more old _ _ _ _ (more old _ _ _ _ c.in_ok-push_truth_field.ensures c.in_ok-push_truth_field-2.ensures) c.in_ok-push_truth_field-3.ensures) c.push_idle_flag.ensures
