use Rattle.std.proofs.Common.{◌≡◌, ◌∙◌, ◌++◌, ap, map, take, subst, List, ℕ}
use Rattle.std.specs.Result.{OnOk}
use Rattle.pm_lanes.specs.declared.shown.Shown.{Shown}
use Rattle.pm_lanes.specs.Pieces.{at_line, going_off_now}
use Rattle.pm_model.specs.Derived.{down}
use Rattle.pm_model.specs.PlanRows.{domains_of}
use Rattle.pm_lanes.proofs.TellLemmas.{down_is_first, down_shown}
use Rattle.pm_lanes.proofs.telling.push_switched.Goals as goal

pub returns : goal.returns
returns c =
    let shown : c.first.result.now ≡ down c.args.plan.now c.args.parts.now.views c.in-Domain.dev =
    c.first.ensures ∙ ap (λ (l : List ℕ). take c.down_count-count.result l) (c.deref-else-up.ensures.value ∙ c.in_ok-domains.ensures)
    ∙ ap (λ n. take n (domains_of c.args.plan.now c.in-Domain.dev)) c.down_count-count.ensures
    ∙ down_is_first c.args.plan.now c.args.parts.now.views c.in-Domain.dev in
    subst (λ (l : List Shown). OnOk c.push_down.result (c.push_down.new.pieces.items ≡ c.args.pieces.now.items ++ at_line c.args.number l))
    (ap (map going_off_now) shown ∙ down_shown c.args.plan.now c.args.parts.now.views c.args.event.now c.in-Domain.dev c.in-Domain.up c.in-Domain.count c.in-Domain.is c.if-up.false)
    c.push_down.ensures
