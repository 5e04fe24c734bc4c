use Rattle.std.proofs.Common.{◌<◌, arith, get_or}
use Rattle.std.proofs.lemmas.Option.{slice_get-get_or}
use Rattle.pm_explore.proofs.search.TreeLemmas.{leads_next, leads_last}
use Rattle.pm_explore.proofs.search.tree.path_back.Goals as goal

pub loop-here-preserved : goal.loop-here-preserved
loop-here-preserved c =
    let parents = c.args.parents.now in
    let here = c.loop-here.here in
    let at = slice_get-get_or parents here 0 c.loop-here.invariant.within in
    let below : get_or parents here 0 < here = c.requires.lead_down here (get_or parents here 0) c.loop-here-test.true at in
    record {
      within = omega (arith, below, c.loop-here.invariant.within);
      leads = leads_next parents c.args.at here (get_or parents here 0) c.loop-here.path.items c.push-in-loop-here.new.self.items c.loop-here.invariant.leads c.loop-here-test.true at c.in_ok-push-2.ensures.items;
    }

pub returns : goal.returns
returns c = leads_last c.args.parents.now c.args.at c.loop-here.here c.loop-here.path.items c.loop-here.invariant.leads (omega arith)
