use Rattle.std.proofs.Common.{◌≡◌, ◌∙◌, ◌-◌, ◌<◌, ◌≤◌, length, refl, subst, sym, arith, rules}
use Rattle.pm_spans.specs.keys.Values.{named_in}
use Rattle.pm_spans.specs.keys.Within.{Finds, read_member}
use Rattle.pm_spans.proofs.keys.StepLemmas.{at_end, came_none, came_some, empty_member, in_some, last_member, named_so, next_member, no_member, not_at_end, this_member}
use Rattle.pm_spans.proofs.keys.pairs.named_tokens.Goals as goal

pub pairs-init : goal.pairs-init
unfolding named_in
pairs-init c = (search rules, search rules, (length c.args.s.now, search rules, refl))

pub returns-in_default-clause-standing : goal.returns-in_default-clause-standing
returns-in_default-clause-standing c =
    let l = c.pairs in
    sym (no_member l.invariant.2.0 c.args.name.now c.args.element l.rest.now (came_none read_member _ _ c.in_default.is c.in_ok-pair.ensures.read)) ∙ l.invariant.2.2

pub returns-then-eq-clause-standing : goal.returns-then-eq-clause-standing
returns-then-eq-clause-standing c =
    let l = c.pairs in
    let some : 0 < length l.rest.now = not_at_end (length l.rest.now) c.pairs-test.ensures in
    let is = came_some read_member _ _ _ c.in-Some.is c.in_ok-pair.ensures.read in
    let same = this_member l.invariant.2.0 c.args.name.now c.args.element l.rest.now (read_member c.in-Some.pair) (omega (arith, some, l.invariant.2.1)) is (named_so _ _ c.args.name.now c.first_part.ensures c.if-eq.ensures) in
    subst (Finds c.pair_tokens.result) (sym same ∙ l.invariant.2.2) c.pair_tokens.ensures.standing

pub returns-in_default-after_comma-clause-standing : goal.returns-in_default-after_comma-clause-standing
returns-in_default-after_comma-clause-standing c =
    let l = c.pairs in
    let some : 0 < length l.rest.now = not_at_end (length l.rest.now) c.pairs-test.ensures in
    let is = came_some read_member _ _ _ c.in-Some.is c.in_ok-pair.ensures.read in
    sym (last_member l.invariant.2.0 c.args.name.now c.args.element l.rest.now (read_member c.in-Some.pair) (omega (arith, some, l.invariant.2.1)) is (named_so _ _ c.args.name.now c.first_part.ensures c.if-eq.ensures) (came_none (λ rest. rest.now) _ _ c.in_default-after_comma.is c.after_comma.ensures.place)) ∙ l.invariant.2.2

pub pairs-preserved : goal.pairs-preserved
pairs-preserved c =
    let l = c.pairs in
    let some : 0 < length l.rest.now = not_at_end (length l.rest.now) c.pairs-test.ensures in
    let is = came_some read_member _ _ _ c.in-Some.is c.in_ok-pair.ensures.read in
    let inside = in_some (λ p. (p.cut.from ≤ length l.rest.now) × (length p.rest.now < length p.value.now) × (length p.value.now < length l.rest.now)) _ _ c.in-Some.is c.in_ok-pair.ensures.inside in
    let shorter : length c.in-Some-after_comma.next.now < length c.in-Some.pair.rest.now = in_some (λ rest. length rest.now < length c.in-Some.pair.rest.now) _ _ c.in-Some-after_comma.is c.after_comma.ensures.less in (
      search rules,
      omega (arith, l.invariant.1, inside.1, inside.2, shorter),
      (
        l.invariant.2.0 - 1,
        omega (arith, some, l.invariant.2.1, inside.1, inside.2, shorter),
        next_member l.invariant.2.0 c.args.name.now c.args.element l.rest.now c.in-Some-after_comma.next.now (read_member c.in-Some.pair) (omega (arith, some, l.invariant.2.1)) is (named_so _ _ c.args.name.now c.first_part.ensures c.if-eq.ensures) (came_some (λ rest. rest.now) _ _ _ c.in-Some-after_comma.is c.after_comma.ensures.place) ∙ l.invariant.2.2,
      ),
    )

pub returns-clause-standing : goal.returns-clause-standing
returns-clause-standing c =
    let l = c.pairs in
    sym (no_member l.invariant.2.0 c.args.name.now c.args.element l.rest.now (empty_member l.rest.now (at_end (length l.rest.now) c.pairs-test.ensures))) ∙ l.invariant.2.2
