use Rattle.std.proofs.Common.{◌∙◌, ap, arith, map, sym}
use Rattle.std.proofs.lemmas.List.{length-map}
use Rattle.pm_outcomes.specs.list.Listing.{round_of}
use Rattle.pm_explore.proofs.search.Lists.{some_within}
use Rattle.pm_explore.specs.state.SnapshotOf.{snapshot_of}
use Rattle.pm_expect_report.proofs.broken.firsts.first_broken.Goals as goal

pub returns-in-Some : goal.returns-in-Some
returns-in-Some c =
    let keys = c.args.found.now.tree.nodes.keys in
    let at = some_within (map snapshot_of keys) c.loop-place.place (omega (arith, length-map keys snapshot_of)) in
    record {
      stands = at.0;
      there = at.1;
      breach = sym (c.breach_there.ensures at.0 at.1) ∙ c.in-Some.is;
      first = c.loop-place.invariant;
      round = c.round_of.ensures ∙ ap (λ r. round_of r c.loop-place.place) c.as_slice.ensures.value;
    }
