use Rattle.std.proofs.Common.{◌≡◌, ◌≤◌, None, Some, arith, slice_get}
use Rattle.pm_driver_script.proofs.ClosedLemmas.{few_left, many_left, none_behind, none_left, one_more}
use Rattle.pm_driver_script.specs.Programs.{standings_of}
use Rattle.pm_driver_script.proofs.program.closed.Goals as goal

pub returns-in_default-clause-all : goal.returns-in_default-clause-all
returns-in_default-clause-all c =
    let none : None ≡ slice_get c.loop-at.found.items c.loop-at.at = cc (c.in_default.is, c.standing_at.ensures, c.as_slice.ensures.value) in
    none_left c.args.script.now.steps.now c.args.script.now.names.now c.args.script.now.turns c.loop-at.at c.loop-at.found.items
    (standings_of c.args.script.now.steps.now c.args.script.now.names.now c.args.script.now.turns) c.loop-at-test.true none c.loop-at.invariant

pub returns-in_default-clause-few : goal.returns-in_default-clause-few
returns-in_default-clause-few c =
    let none : None ≡ slice_get c.loop-at.found.items c.loop-at.at = cc (c.in_default.is, c.standing_at.ensures, c.as_slice.ensures.value) in
    omega (arith, none_behind c.loop-at.found.items c.loop-at.at none, c.loop-at-test.true)

pub loop-at-preserved : goal.loop-at-preserved
loop-at-preserved c =
    let here : Some c.in-Some.standing ≡ slice_get c.loop-at.found.items c.loop-at.at = cc (c.in-Some.is, c.standing_at.ensures, c.as_slice.ensures.value) in
    one_more c.args.script.now.steps.now c.args.script.now.names.now c.args.script.now.turns c.loop-at.at c.loop-at.found.items c.follow.new.found.items c.in-Some.standing
    (standings_of c.args.script.now.steps.now c.args.script.now.names.now c.args.script.now.turns) c.loop-at-test.true here c.in_ok-follow.ensures c.loop-at.invariant

pub returns-then-len-gt-MAX_STANDINGS-clause-all : goal.returns-then-len-gt-MAX_STANDINGS-clause-all
returns-then-len-gt-MAX_STANDINGS-clause-all c =
    many_left c.args.script.now.steps.now c.args.script.now.names.now c.args.script.now.turns c.loop-at.at c.loop-at.found.items
    (standings_of c.args.script.now.steps.now c.args.script.now.names.now c.args.script.now.turns)
    (omega (arith, c.loop-at-test.false)) (omega (arith, c.loop-at.auto.at-end)) (omega (arith, c.len.ensures, c.if-len-gt-MAX_STANDINGS.true)) c.loop-at.invariant

pub returns-else-len-gt-MAX_STANDINGS-clause-all : goal.returns-else-len-gt-MAX_STANDINGS-clause-all
returns-else-len-gt-MAX_STANDINGS-clause-all c =
    few_left c.args.script.now.steps.now c.args.script.now.names.now c.args.script.now.turns c.loop-at.at c.loop-at.found.items
    (standings_of c.args.script.now.steps.now c.args.script.now.names.now c.args.script.now.turns)
    (omega (arith, c.loop-at-test.false)) (omega (arith, c.loop-at.auto.at-end)) (omega (arith, c.len.ensures, c.if-len-gt-MAX_STANDINGS.false)) c.loop-at.invariant
