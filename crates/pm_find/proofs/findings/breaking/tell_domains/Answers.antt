-- By the lines of which it is kept.
use Rattle.std.proofs.Common.{◌++◌, ◌∙◌, ap, map}
use Rattle.pm_find.specs.findings.AllFound.{domain_at}
use Rattle.pm_find.proofs.findings.PlacedLemmas.{domains_more, made_for}
use Rattle.pm_find.proofs.findings.breaking.tell_domains.Goals as goal

pub domains_left-requires : goal.domains_left-requires
domains_left-requires c = made_for c.args.plan.now c.requires.0 c.args.bonds.now c.parts.result.now c.requires.1 c.parts.ensures

pub returns : goal.returns
returns c = λ h kept counted.
    domains_more c.args.plan.now h c.args.bonds.now c.parts.result.now c.args.number c.in_ok-left.left.items c.args.all.now.items c.push_domains.new.all.items
    kept c.parts.ensures counted c.in_ok-left.ensures
    (c.in_ok-push_domains.ensures ∙ ap (λ l. c.args.all.now.items ++ map (domain_at c.args.number) l) c.deref.ensures.value)
