use Rattle.std.proofs.Common.{refl, ◌∙◌}
use Rattle.pm_islands.proofs.PartLemmas.{part_law, scripts_are}
use Rattle.pm_islands.proofs.parts.part_of.Goals as goal

pub invariant_of-result : goal.invariant_of-result
invariant_of-result c = record {
  law = rw (c.in_ok-list_of.ensures, c.in_ok-list_of-2.ensures, c.in_ok-items_of.ensures, c.in_ok-callers.ensures)
      (part_law c.args.plan.now c.requires.numbers.0 c.args.numbers.now c.args.island c.requires.numbers.1);
}

pub returns : goal.returns
returns c = λ f are. record {
  lines = refl;
  trace = refl;
  domains = c.in_ok-list_of.ensures;
  devices = c.in_ok-list_of-2.ensures;
  links = c.in_ok-items_of.ensures;
  callers = c.in_ok-callers.ensures ∙ scripts_are c.args.plan.now f c.args.numbers.now c.args.island are;
}
