use Rattle.pm_linetext.proofs.AppendLemmas.{done, more}
use Rattle.pm_module.proofs.tables.push_tables.Goals as goal

pub returns : goal.returns
returns c =
    let old = c.args.text.now.items in
    done old _ _ _ _ c.push_callers.result (more old _ _ _ _ (more old _ _ _ _ c.in_ok-push_domains.ensures c.in_ok-push_devices.ensures) c.in_ok-push_links.ensures) c.push_callers.ensures
