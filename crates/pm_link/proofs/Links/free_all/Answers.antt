use Rattle.std.proofs.Common.{◌∙◌, ap, sym}
use Rattle.pm_link.proofs.PairLemmas.{freed, freed-given, freed-none, freed_is}
use Rattle.pm_link.proofs.Links.free_all.Goals as goal

pub loop-link-preserved : goal.loop-link-preserved
loop-link-preserved c =
    let plan = c.args.plan.now in
    let s = c.loop-link.self in
    let first = c.in-Some.ensures.first in
    rw c.put_held.ensures (record {
      rows = c.loop-link.invariant.rows;
      present = c.loop-link.invariant.present;
      as_before = freed-given c.args.consumer plan.links s.held c.in-Some.link c.in-Some.ensures.held_len first.found.1 ∙ c.loop-link.invariant.as_before;
    })

pub returns-clause-freed : goal.returns-clause-freed
returns-clause-freed c = λ v was.
    let plan = c.args.plan.now in
    let s = c.loop-link.self in
    let first = c.in_default.ensures.first in
    sym (freed-none c.args.consumer plan.links s.held c.in_default.ensures.held_len first.missing)
    ∙ c.loop-link.invariant.as_before
    ∙ sym (freed_is plan c.args.consumer v ∙ ap (freed c.args.consumer plan.links) was)
