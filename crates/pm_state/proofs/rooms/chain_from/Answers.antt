use Rattle.std.proofs.Common.{◌∙◌, List, ap, arith}
use Rattle.pm_model.specs.declared.rows.LinkRow.{LinkRow}
use Rattle.pm_laws.specs.stacks.Depth.{greatest, of_supplier}
use Rattle.pm_state.specs.Chains.{chain_at}
use Rattle.pm_state.proofs.ChainLemmas.{from_within}
use Rattle.pm_state.proofs.rooms.chain_from.Goals as goal

pub overflow_add-result : goal.overflow_add-result
overflow_add-result c =
    let f = of_supplier c.args.dev (chain_at c.args.chains.now) in
    let within = from_within c.args.plan.now c.args.chains.now c.args.dev c.requires.few in
    let suppliers = c.supplier_chain-suppliers.ensures ∙ ap (λ (l : List LinkRow). greatest f l) c.as_slice.ensures in
    omega (arith, within, suppliers, c.max.ensures, c.parent_chain.ensures, c.requires.next)
