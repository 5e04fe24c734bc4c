use Rattle.std.proofs.Common.{◌++◌, ◌∙◌, ap}
use Rattle.std.specs.Option.{option_to_list}
use Rattle.pm_safety.specs.dependencies.Domains.{domain_left}
use Rattle.pm_safety.proofs.dependencies.DomainLemmas.{flat_one}
use Rattle.pm_safety.proofs.dependencies.domains.domains_left.Goals as goal

pub loop-place-preserved : goal.loop-place-preserved
loop-place-preserved c =
    flat_one (λ o. option_to_list (domain_left c.args.plan.now c.args.parts.now.views o)) c.loop-place.place c.loop-place.all.items c.push.new.all.items
    c.loop-place.invariant (c.in_ok-push.ensures ∙ ap (λ l. c.loop-place.all.items ++ option_to_list l) c.domain_left.ensures)
