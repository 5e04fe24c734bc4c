use Rattle.std.proofs.Common.{List, ℕ, ap, ◌∙◌}
use Rattle.pm_cmd_ends.specs.Ending.{taking}
use Rattle.pm_cmd_lab.specs.others.Commands.{KernelEnds}
use Rattle.pm_cmd_lab.specs.ends.Coming.{Writes}
use Rattle.pm_cmd_lab.specs.ends.Ending.{Done}
use Rattle.pm_cmd_lab.specs.declared.ends.ending.Outcome.TheVariants as outcome
use Rattle.pm_cmd_lab.proofs.ends.EndLemmas.{came_weaker}
use Rattle.pm_cmd_lab.proofs.others.kernel.write_module.Goals as goal

pub returns : goal.returns
returns g c =
    let plan = c.args.plan.now in
    let out = taking g.O.Sink.taken g.O.Sink.faults c.args.out.now c.write_text.new.out in
    let same = c.as_slice.ensures.value ∙ c.in_ok-text.ensures in
    came_weaker (Writes outcome.Done c.as_slice.result.now) (KernelEnds plan) ⊥ ⊥ (λ ending is. is ∙ ap (λ (text : List ℕ). Done text) same) (λ none. none)
    out c.write_text.result c.write_text.ensures
