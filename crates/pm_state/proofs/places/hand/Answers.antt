use Rattle.std.proofs.Common.{◌∙◌, List, None, [], drop, slice_index_or, slice_set, ap, sym, rules}
use Rattle.pm_model.specs.declared.stage.Stage.{Stage}
use Rattle.pm_model.specs.World.{top}
use Rattle.pm_model.specs.Handing.{after_code}
use Rattle.pm_state.proofs.StackLemmas.{code_ends, code_goes, code_hands, off, only, pile_now, still_within, twice}
use Rattle.pm_state.proofs.places.hand.Goals as goal

pub returns-in_default-stage : goal.returns-in_default-stage
returns-in_default-stage c =
    let l = slice_index_or c.loop-stage.below.stages c.args.actor [] in
    let same = code_ends l _ c.in-Some.stage _ (off l c.in-Some.stage (sym c.in-Some.is ∙ c.pop.ensures.upper)) c.in_default-stage.not-Await c.loop-stage.invariant.code in
    let upper = sym (ap (top None) same) in
    let it = twice c.args.below.now c.loop-stage.below c.pop.new.self c.args.actor l (drop 1 l) c.loop-stage.invariant.rest c.pop.ensures.rest in
    let rest = it ∙ ap (λ (m : List Stage). record c.args.below.now { stages = slice_set c.args.below.now.stages c.args.actor (drop 1 m) }) (sym same) in
    record { upper = search (rules, upper); rest = search (rules, rest) }

pub returns-in-Goes-clause-upper : goal.returns-in-Goes-clause-upper
returns-in-Goes-clause-upper c =
    let l = slice_index_or c.loop-stage.below.stages c.args.actor [] in
    let same = code_goes l _ c.in-Some.stage c.in-Goes.next c.in-Await.awaiting _ c.take_code.result (off l c.in-Some.stage (sym c.in-Some.is ∙ c.pop.ensures.upper)) c.in-Await.is c.take_code.ensures c.in-Goes.is c.loop-stage.invariant.code in
    search (rules, sym (ap (top None) same))

pub returns-in-Goes-clause-rest : goal.returns-in-Goes-clause-rest
returns-in-Goes-clause-rest c =
    let l = slice_index_or c.loop-stage.below.stages c.args.actor [] in
    let same = code_goes l _ c.in-Some.stage c.in-Goes.next c.in-Await.awaiting _ c.take_code.result (off l c.in-Some.stage (sym c.in-Some.is ∙ c.pop.ensures.upper)) c.in-Await.is c.take_code.ensures c.in-Goes.is c.loop-stage.invariant.code in
    let it = twice c.args.below.now c.loop-stage.below c.pop.new.self c.args.actor l (drop 1 l) c.loop-stage.invariant.rest c.pop.ensures.rest in
    let rest = it ∙ ap (λ (m : List Stage). record c.args.below.now { stages = slice_set c.args.below.now.stages c.args.actor (drop 1 m) }) (sym same) in
    search (rules, rest)

pub loop-stage-preserved : goal.loop-stage-preserved
loop-stage-preserved c =
    let l = slice_index_or c.loop-stage.below.stages c.args.actor [] in
    let same = code_hands l _ c.in-Some.stage c.in-Await.awaiting _ c.in-Back.next c.take_code.result (off l c.in-Some.stage (sym c.in-Some.is ∙ c.pop.ensures.upper)) c.in-Await.is c.take_code.ensures c.in-Back.is c.loop-stage.invariant.code in
    let within = still_within c.args.below.now c.loop-stage.below c.args.actor l c.requires c.loop-stage.invariant.rest in
    let here = pile_now c.loop-stage.below c.pop.new.self c.args.actor (drop 1 l) within c.pop.ensures.rest in
    let code = ap (λ (m : List Stage). after_code m c.in-Back.next) here ∙ same in
    record { code = search (rules, code); rest = only c.args.below.now c.loop-stage.below c.pop.new.self c.args.actor _ c.requires c.loop-stage.invariant.rest c.pop.ensures.rest }
