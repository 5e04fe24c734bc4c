use Rattle.std.proofs.Common.{◌≡◌, ◌∙◌, ◌+◌, ◌-◌, ◌<◌, ◌≤◌, length, sym, arith, rules}
use Rattle.pm_spans.proofs.keys.StepLemmas.{all_values, came_none, came_some, in_some, next_value, no_comma, no_value}
use Rattle.pm_spans.specs.keys.Values.{behind_values}
use Rattle.pm_spans.proofs.keys.values.after_values.Goals as goal

pub returns-in_default-clause-place : goal.returns-in_default-clause-place
returns-in_default-clause-place c =
    let l = c.values in
    sym (no_value (c.args.count - l._value) l.rest.now (omega (arith, c.values-test.true)) (came_none (λ rest. rest.now) _ _ c.in_default.is c.in_ok-after.ensures.place)) ∙ l.invariant.2

pub returns-in_default-after_comma-clause-place : goal.returns-in_default-after_comma-clause-place
returns-in_default-after_comma-clause-place c =
    let l = c.values in
    sym (no_comma (c.args.count - l._value) l.rest.now c.in-Some.after.now (omega (arith, c.values-test.true)) (came_some (λ rest. rest.now) _ _ _ c.in-Some.is c.in_ok-after.ensures.place) (came_none (λ rest. rest.now) _ _ c.in_default-after_comma.is c.after_comma.ensures.place)) ∙ l.invariant.2

pub values-preserved : goal.values-preserved
values-preserved c =
    let l = c.values in
    let less : length c.in-Some.after.now < length l.rest.now = in_some (λ rest. length rest.now < length l.rest.now) _ _ c.in-Some.is c.in_ok-after.ensures.less in
    let shorter : length c.in-Some-after_comma.next.now < length c.in-Some.after.now = in_some (λ rest. length rest.now < length c.in-Some.after.now) _ _ c.in-Some-after_comma.is c.after_comma.ensures.less in
    let one_less : c.args.count - (l._value + 1) ≡ (c.args.count - l._value) - 1 = omega arith in (
      search rules,
      omega (arith, l.invariant.1, less, shorter),
      rw one_less (next_value (c.args.count - l._value) l.rest.now c.in-Some.after.now c.in-Some-after_comma.next.now (omega (arith, c.values-test.true)) (came_some (λ rest. rest.now) _ _ _ c.in-Some.is c.in_ok-after.ensures.place) (came_some (λ rest. rest.now) _ _ _ c.in-Some-after_comma.is c.after_comma.ensures.place) ∙ l.invariant.2),
    )

pub returns-clause-place : goal.returns-clause-place
returns-clause-place c =
    let l = c.values in
    sym (all_values (c.args.count - l._value) l.rest.now (omega (arith, c.values-test.false))) ∙ l.invariant.2
