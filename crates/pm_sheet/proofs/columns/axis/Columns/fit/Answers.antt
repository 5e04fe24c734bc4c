use Rattle.std.proofs.Common.{◌≡◌, ◌∙◌, ◌≤◌, map, take, true, ap, length, subst, sym}
use Rattle.std.proofs.lemmas.List.{take_all}
use Rattle.pm_sheet.specs.columns.Axis.{fitted, rises}
use Rattle.pm_sheet.proofs.columns.AxisLemmas.{fits}
use Rattle.pm_sheet.proofs.columns.axis.Columns.fit.Goals as goal

pub invariant_of-result : goal.invariant_of-result
invariant_of-result c = record {
  in_order =
      let xs = c.args.self.xs.items in
      let all : take c.loop-x.x-index xs ≡ xs = take_all c.loop-x.x-index xs (subst (λ it. length it ≤ c.loop-x.x-index) c.deref-x-items.ensures.value c.loop-x-test.false) in
      subst (λ it. rises 0 it 1200 ≡ true) (sym (c.loop-x.invariant ∙ ap (map (fitted c.args.self.width)) all)) (fits xs c.args.self.width c.args.self.in_order);
}
