use Rattle.pm_linetext.proofs.AppendLemmas.{done, more}
use Rattle.pm_module.proofs.rows.DomainRowRow.push_row.Goals as goal

pub returns : goal.returns
returns c =
    let old = c.args.text.now.items in
    done old _ _ _ _ c.push-4.result (more old _ _ _ _ (more old _ _ _ _ (more old _ _ _ _ (more old _ _ _ _ (more old _ _ _ _ c.in_ok-push.ensures c.in_ok-push_name.ensures) c.in_ok-push-2.ensures) c.in_ok-push_domain_place.ensures) c.in_ok-push-3.ensures) c.in_ok-push_truth.ensures) c.push-4.ensures
