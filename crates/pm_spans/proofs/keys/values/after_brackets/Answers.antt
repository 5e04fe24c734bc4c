use Rattle.std.proofs.Common.{◌≡◌, ◌∙◌, ◌-◌, ◌<◌, ◌≤◌, length, sym, arith, rules}
use Rattle.pm_spans.proofs.keys.StepLemmas.{at_end, came_none, came_some, depth_grows, empty_piece, in_some, last_piece, next_piece, no_piece, not_at_end}
use Rattle.pm_spans.proofs.keys.values.after_brackets.Goals as goal

pub returns-in_default-clause-place : goal.returns-in_default-clause-place
returns-in_default-clause-place c =
    let l = c.pieces in
    sym (no_piece l.invariant.3.0 l.depth l.rest.now (came_none (λ rest. rest.now) _ _ c.in_default.is c.in_ok-after.ensures.place)) ∙ l.invariant.3.2

pub returns-then-depth-eq0-clause-place : goal.returns-then-depth-eq0-clause-place
returns-then-depth-eq0-clause-place c =
    let l = c.pieces in
    let some : 0 < length l.rest.now = not_at_end (length l.rest.now) c.pieces-test.ensures in
    sym (last_piece l.invariant.3.0 l.depth c.depth_behind-depth.result c.first.result l.rest.now c.in-Some.after.now (omega (arith, some, l.invariant.3.1)) (came_some (λ rest. rest.now) _ _ _ c.in-Some.is c.in_ok-after.ensures.place) c.first.ensures c.depth_behind-depth.ensures c.if-depth-eq0.true)
    ∙ l.invariant.3.2

pub pieces-preserved : goal.pieces-preserved
pieces-preserved c =
    let l = c.pieces in
    let some : 0 < length l.rest.now = not_at_end (length l.rest.now) c.pieces-test.ensures in
    let grows = depth_grows l.depth c.first.result in
    let deep = c.depth_behind-depth.ensures in
    let less : length c.in-Some.after.now < length l.rest.now = in_some (λ rest. length rest.now < length l.rest.now) _ _ c.in-Some.is c.in_ok-after.ensures.less in (
      search rules,
      omega (arith, l.invariant.1, less, c.skip_blank-rest.ensures.within),
      omega (arith, l.invariant.2, less, c.skip_blank-rest.ensures.within, grows, deep),
      (
        l.invariant.3.0 - 1,
        omega (arith, some, l.invariant.3.1, less, c.skip_blank-rest.ensures.within),
        next_piece l.invariant.3.0 l.depth c.depth_behind-depth.result c.first.result l.rest.now c.in-Some.after.now c.skip_blank-rest.result.now (omega (arith, some, l.invariant.3.1)) (came_some (λ rest. rest.now) _ _ _ c.in-Some.is c.in_ok-after.ensures.place) c.first.ensures c.depth_behind-depth.ensures c.if-depth-eq0.false c.skip_blank-rest.ensures.rest
            ∙ l.invariant.3.2,
      ),
    )

pub returns-clause-place : goal.returns-clause-place
returns-clause-place c =
    let l = c.pieces in
    sym (no_piece l.invariant.3.0 l.depth l.rest.now (empty_piece l.rest.now (at_end (length l.rest.now) c.pieces-test.ensures))) ∙ l.invariant.3.2
