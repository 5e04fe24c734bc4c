-- Pass by pass.
use Rattle.std.proofs.Common.{◌-◌, ◌∙◌, ap, arith}
use Rattle.pm_driver_report.proofs.PassLemmas.{nil_below, none_is_asked, one_behind}
use Rattle.pm_driver_report.proofs.passes.+go_on_through.Goals as goal

pub returns-in_default : goal.returns-in_default
returns-in_default t c = none_is_asked c.args.examined.now c.args.most c.args.left c.args.asked.now c.args.passes.now.items (nil_below c.args.asked.now c.in_default.len_below)

pub returns : goal.returns
returns t c =
    let no = c.if-left-eq0.false in
    one_behind c.args.examined.now c.args.most c.args.left c.saturating_sub-rest.result c.states_for.result _ c.args.asked.now c.in_ok-pass.pass c.args.passes.now.items c.push.new.self.items c.go_on_through.new.passes.items c.in-len1-up.len_at_least (omega (arith, no)) c.in_ok-pass.ensures c.states_for.ensures c.in_ok-push.ensures.items
    (c.saturating_sub-rest.ensures ∙ ap (λ n. c.args.left - n) c.len-used.ensures.len) c.in_ok-go_on_through.ensures
