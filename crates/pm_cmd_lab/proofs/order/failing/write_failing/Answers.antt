use Rattle.std.proofs.Common.{◌∙◌, ◌-◌, ap, length, refl, slice_get, sym}
use Rattle.pm_cmd_ends.specs.Ending.{taking}
use Rattle.pm_cmd_lab.proofs.order.FailLemmas.{came_lacking, came_of_one}
use Rattle.pm_cmd_lab.proofs.order.failing.write_failing.Goals as goal

pub returns-in-Some : goal.returns-in-Some
returns-in-Some g c = λ text.
    let there = sym (c.expectation_at.ensures ∙ ap (λ all. slice_get all (c.args.index - 1)) (c.as_slice.ensures.value ∙ c.in_ok-all.ensures)) ∙ c.in-Some.is in
    came_of_one c.args.bounds c.args.index c.args.plan text c.args.expected.now c.in-Some.each (taking g.O.Sink.taken g.O.Sink.faults c.args.out.now c.write_breaking.new.out) c.write_breaking.result there c.write_breaking.ensures

pub returns-in_ok-text-in-None : goal.returns-in_ok-text-in-None
returns-in_ok-text-in-None g c = λ text.
    let none = sym (c.expectation_at.ensures ∙ ap (λ all. slice_get all (c.args.index - 1)) (c.as_slice.ensures.value ∙ c.in_ok-all.ensures)) ∙ c.in-None.is in
    came_lacking c.args.bounds c.args.index c.len.result c.args.plan text c.args.expected.now c.in_ok-text-in-None.text (taking g.O.Sink.taken g.O.Sink.faults c.args.out.now c.args.out.now) none
    (c.len.ensures ∙ (c.in_ok-all.all.ok.0 ∙ ap length c.in_ok-all.ensures)) c.in_ok-text-in-None.ensures refl
