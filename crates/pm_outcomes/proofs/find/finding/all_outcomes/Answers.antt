use Rattle.std.proofs.Common.{map, sym, subst}
use Rattle.std.proofs.lemmas.List.{length-map}
use Rattle.pm_outcomes.specs.list.Listing.{AreListed}
use Rattle.pm_explore.specs.state.SnapshotOf.{snapshot_of}
use Rattle.pm_outcomes.specs.find.Seen.{AreFirstsBefore}
use Rattle.pm_outcomes.proofs.find.Telling.{exact, exact_seen, in_rounds, shown_exactly}
use Rattle.pm_outcomes.proofs.find.Once.{listed_once}
use Rattle.pm_outcomes.proofs.find.finding.all_outcomes.Goals as goal

pub returns-clause-rounds : goal.returns-clause-rounds
returns-clause-rounds c =
    let keys = c.in_ok-found.found.tree.nodes.keys in
    let firsts = c.in_ok-firsts.firsts.entries.entries in
    let before = subst (λ n. AreFirstsBefore c.args.plan.now (map snapshot_of keys) n firsts) (sym (length-map keys snapshot_of)) c.in_ok-firsts.ensures in
    let listed = subst (λ r. AreListed firsts r c.is_whole.result c.in_ok-observations.observations.items) c.as_slice.ensures.value c.in_ok-observations.ensures in
    exact_seen c.args.plan.now (map snapshot_of keys) c.in_ok-found.found.rounds.items c.is_whole.result firsts c.in_ok-observations.observations.items before listed c.args.pace c.in_ok-found.found.ended c.in_ok-found.ensures.rounds c.is_whole.ensures.whole c.in_ok-found.ensures.whole
    c.in_ok-found.ensures.last

pub returns-clause-whole : goal.returns-clause-whole
returns-clause-whole c = λ is.
    let keys = c.in_ok-found.found.tree.nodes.keys in
    let firsts = c.in_ok-firsts.firsts.entries.entries in
    let before = subst (λ n. AreFirstsBefore c.args.plan.now (map snapshot_of keys) n firsts) (sym (length-map keys snapshot_of)) c.in_ok-firsts.ensures in
    let listed = subst (λ r. AreListed firsts r c.is_whole.result c.in_ok-observations.observations.items) c.as_slice.ensures.value c.in_ok-observations.ensures in
    exact c.args.plan.now (map snapshot_of keys) c.in_ok-found.found.rounds.items c.is_whole.result firsts c.in_ok-observations.observations.items before listed c.args.pace (c.is_whole.ensures.whole is) (c.in_ok-found.ensures.whole is)

pub returns-clause-shown : goal.returns-clause-shown
returns-clause-shown c =
    let keys = c.in_ok-found.found.tree.nodes.keys in
    let firsts = c.in_ok-firsts.firsts.entries.entries in
    let before = subst (λ n. AreFirstsBefore c.args.plan.now (map snapshot_of keys) n firsts) (sym (length-map keys snapshot_of)) c.in_ok-firsts.ensures in
    let listed = subst (λ r. AreListed firsts r c.is_whole.result c.in_ok-observations.observations.items) c.as_slice.ensures.value c.in_ok-observations.ensures in
    shown_exactly c.args.plan.now (map snapshot_of keys) c.in_ok-found.found.rounds.items c.is_whole.result firsts c.in_ok-observations.observations.items before listed

pub returns-clause-once : goal.returns-clause-once
returns-clause-once c =
    listed_once c.as_slice.result.now c.is_whole.result c.in_ok-firsts.ensures.seen c.in_ok-firsts.firsts.entries.entries c.in_ok-observations.observations.items c.in_ok-firsts.ensures.are_firsts c.in_ok-observations.ensures.same

pub returns-clause-of_rounds : goal.returns-clause-of_rounds
returns-clause-of_rounds c = λ i o there.
    let keys = c.in_ok-found.found.tree.nodes.keys in
    let firsts = c.in_ok-firsts.firsts.entries.entries in
    let before = subst (λ n. AreFirstsBefore c.args.plan.now (map snapshot_of keys) n firsts) (sym (length-map keys snapshot_of)) c.in_ok-firsts.ensures in
    let listed = subst (λ r. AreListed firsts r c.is_whole.result c.in_ok-observations.observations.items) c.as_slice.ensures.value c.in_ok-observations.ensures in
    in_rounds c.args.plan.now (map snapshot_of keys) c.in_ok-found.found.rounds.items c.is_whole.result firsts c.in_ok-observations.observations.items before listed (λ is. c.in_ok-found.ensures.last (c.is_whole.ensures.only is)) i o there
