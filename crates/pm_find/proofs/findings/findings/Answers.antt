use Rattle.std.proofs.Common.{◌∙◌, ap, arith, length, refl, reverse, subst, sym}
use Rattle.pm_laws.specs.counts.Sizes.{HasEntries}
use Rattle.pm_model.specs.Views.{Views}
use Rattle.pm_find.proofs.findings.DropLemmas.{written}
use Rattle.pm_find.proofs.findings.FoundLemmas.{finished_is, unfinished_is}
use Rattle.pm_find.proofs.findings.PlacedLemmas.{views_is}
use Rattle.pm_find.specs.findings.Ending.{AreDropped}
use Rattle.pm_find.proofs.findings.findings.Goals as goal

pub returns-then-not-is_finished : goal.returns-then-not-is_finished
returns-then-not-is_finished c =
    unfinished_is c.args.plan.now c.args.is_finished (reverse c.args.lines.now) c.in_ok-none.none c.in_ok-ends.ends c.in_ok-all.all.items c.if-not-is_finished.true c.requires.of_plan
    c.in_ok-none.ensures c.in_ok-ends.ensures c.in_ok-all.ensures.found

pub at_end-requires-clause-entries : goal.at_end-requires-clause-entries
at_end-requires-clause-entries c =
    subst (λ (v : Views). HasEntries c.args.plan.now v)
    (sym (views_is c.args.plan.now (reverse c.args.lines.now) c.at_lines-2.new.bonds c.parts.result.now c.in_ok-all-2.ensures.kept c.parts.ensures))
    (c.sizes.ensures.entries c.args.plan.now (reverse c.args.lines.now) c.requires.lawful)

pub returns : goal.returns
returns c =
    let run = reverse c.args.lines.now in
    let plan = c.args.plan.now in
    finished_is plan c.args.is_finished c.args.lines.now c.in_ok-ends.ends c.parts.result.now.views c.deref.result.now _ c.in_ok-all-2.all.items c.at_end.new.all.items c.tell_domains.new.all.items
    c.if-not-is_finished.false c.requires.of_plan c.in_ok-ends.ensures refl
    (views_is plan run c.at_lines-2.new.bonds c.parts.result.now c.in_ok-all-2.ensures.kept c.parts.ensures)
    (subst (λ drops. AreDropped plan run drops) (sym (c.deref.ensures.value
    ∙ written c.in_ok-drops.drops.len c.at_lines-2.new.drops _ (omega (arith, c.deref_mut-2.ensures.len, ap length c.deref_mut-2.ensures.value, c.in_ok-drops.ensures.entries, c.in_ok-all-2.ensures.dropped.entries)))) c.in_ok-all-2.ensures.dropped)
    c.in_ok-all-2.ensures.found c.in_ok-at_end.ensures (c.in_ok-tell_domains.ensures run c.in_ok-all-2.ensures.kept)
