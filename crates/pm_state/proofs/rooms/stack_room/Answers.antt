use Rattle.std.proofs.Common.{ℕ, ◌≡◌, ◌∙◌, List, ap, arith, max}
use Rattle.pm_laws.specs.stacks.Depth.{greatest}
use Rattle.pm_state.proofs.ChainLemmas.{greatest_few, is_roomy}
use Rattle.pm_state.proofs.rooms.stack_room.Goals as goal

pub returns : goal.returns
returns c =
    is_roomy c.args.plan.now c.in_ok-chains.chains.items c.longest.result c.in_ok-chains.ensures.chains c.in_ok-chains.ensures.all
    (c.longest.ensures ∙ ap (λ (l : List ℕ). max 1 (greatest (λ n. n) l)) c.deref.ensures.value)

pub overflow_add-result : goal.overflow_add-result
overflow_add-result c =
    let is : c.longest.result ≡ max 1 (greatest (λ n. n) c.in_ok-chains.chains.items) = c.longest.ensures ∙ ap (λ (l : List ℕ). max 1 (greatest (λ n. n) l)) c.deref.ensures.value in
    let few = greatest_few c.args.plan.now c.in_ok-chains.chains.items c.in_ok-chains.ensures.chains in
    omega (arith, is, few, c.in_ok-chains.ensures.all)
