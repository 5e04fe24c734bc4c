use Rattle.std.proofs.Common.{◌≡◌, ◌∙◌, ℕ, [], ap, subst, arith}
use Rattle.std.proofs.lemmas.List.{take_all}
use Rattle.std.proofs.lemmas.List.FromFn.{length-enumerate_from}
use Rattle.std.specs.List.{cons_option, enumerate_from, filter_map}
use Rattle.pm_device.specs.Parts.{Counters}
use Rattle.pm_model.specs.Derived.{expiry}
use Rattle.pm_explore.specs.successors.Moments.{AreWith}
use Rattle.pm_explore.proofs.successors.LoopLemmas.{number_more}
use Rattle.pm_explore.proofs.successors.moments.push_expiries.Goals as goal

pub loop-dev-preserved : goal.loop-dev-preserved
loop-dev-preserved c =
    let v = c.args.state.now.world.views in
    let is : c.expiry.result ≡ expiry v (record { 0 = c.loop-dev.dev }) = c.expiry.ensures ∙ ap (λ (k : Counters). expiry k.views (record { 0 = c.loop-dev.dev })) c.parts.ensures in
    let all = c.len-dev-end.ensures in
    let lt = c.loop-dev-test.true in
    number_more (λ (n : ℕ). expiry v (record { 0 = n })) c.args.plan.now.devices c.loop-dev.dev c.args.last.time c.args.out.now.items c.loop-dev.out.items c.push_moment.new.out.items (omega (arith, all, lt)) c.loop-dev.invariant
    (subst (λ o. AreWith c.args.last.time c.loop-dev.out.items (cons_option o []) c.push_moment.new.out.items) is c.in_ok-push_moment.ensures)

pub returns : goal.returns
returns c =
    let all = c.len-dev-end.ensures in
    let past = c.loop-dev-test.false in
    let is = take_all c.loop-dev.dev (enumerate_from 0 c.args.plan.now.devices) (omega (arith, all, past, length-enumerate_from 0 c.args.plan.now.devices)) in
    subst (λ l. AreWith c.args.last.time c.args.out.now.items (filter_map (λ p. expiry c.args.state.now.world.views (record { 0 = p.0 })) l) c.loop-dev.out.items) is c.loop-dev.invariant
