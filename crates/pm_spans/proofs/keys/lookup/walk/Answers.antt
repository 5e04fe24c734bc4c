use Rattle.std.proofs.Common.{◌≡◌, ◌∙◌, ◌+◌, ◌-◌, ◌<◌, ◌≤◌, [], ◌∷◌, length, Ok, ap, arith, refl, rules, sym}
use Rattle.pm_spans.specs.keys.Lines.{standing_in, whose}
use Rattle.pm_spans.specs.keys.Within.{FindsIn}
use Rattle.pm_spans.proofs.keys.StepLemmas.{at_end, empty_line, in_some, no_line, not_at_end}
use Rattle.pm_spans.proofs.keys.LineLemmas.{found_here, not_here, nothing_said, said_none, said_some}
use Rattle.pm_spans.proofs.keys.lookup.walk.Goals as goal

pub lines-init : goal.lines-init
unfolding standing_in whose
lines-init c = (search rules, search rules, omega arith, (length c.args.text.now, [], search rules, refl, nothing_said c.args.path _ refl refl))

pub returns-in_default-clause-standing : goal.returns-in_default-clause-standing
returns-in_default-clause-standing c =
    let l = c.lines in
    sym (no_line c.args.path l.invariant.3.1 l.invariant.3.0 l.rest.now (said_none c.args.path l.rest.now l.before _ c.in_default.is c.in_ok-looked.ensures.line)) ∙ l.invariant.3.3

pub returns-then-is_some-clause-standing : goal.returns-then-is_some-clause-standing
returns-then-is_some-clause-standing c =
    let l = c.lines in
    let some : 0 < length l.rest.now = not_at_end (length l.rest.now) c.lines-test.ensures in
    let looked = said_some c.args.path l.rest.now l.before _ _ c.in-Some.is c.in_ok-looked.ensures.line l.invariant.3.1 l.invariant.3.4 in
    found_here c.args.path l.rest.now l.invariant.3.0 l.invariant.3.1 c.in-Some.looked (omega (arith, some, l.invariant.3.2)) looked (sym c.if-is_some.ensures) ∙ l.invariant.3.3

pub lines-preserved : goal.lines-preserved
lines-preserved c =
    let l = c.lines in
    let some : 0 < length l.rest.now = not_at_end (length l.rest.now) c.lines-test.ensures in
    let looked = said_some c.args.path l.rest.now l.before _ _ c.in-Some.is c.in_ok-looked.ensures.line l.invariant.3.1 l.invariant.3.4 in
    let inside = in_some (λ k. (FindsIn l.rest.now (Ok k.found)) × (length k.rest.now < length l.rest.now) × (k.before.seen ≤ l.before.seen + 1)) _ _ c.in-Some.is c.in_ok-looked.ensures.inside in (
      search rules,
      omega (arith, l.invariant.1, inside.1, c.skip_blank-rest.ensures.within),
      omega (arith, l.invariant.2, inside.1, inside.2, c.skip_blank-rest.ensures.within),
      (
        l.invariant.3.0 - 1,
        looked.line ∷ l.invariant.3.1,
        omega (arith, some, l.invariant.3.2, inside.1, c.skip_blank-rest.ensures.within),
        not_here c.args.path l.rest.now c.skip_blank-rest.result.now l.invariant.3.0 l.invariant.3.1 c.in-Some.looked (omega (arith, some, l.invariant.3.2)) (sym c.if-is_some.ensures) c.skip_blank-rest.ensures.rest looked ∙ l.invariant.3.3,
        looked.said,
      ),
    )

pub returns-clause-standing : goal.returns-clause-standing
returns-clause-standing c =
    let l = c.lines in
    sym (no_line c.args.path l.invariant.3.1 l.invariant.3.0 l.rest.now (empty_line l.rest.now (at_end (length l.rest.now) c.lines-test.ensures))) ∙ l.invariant.3.3
