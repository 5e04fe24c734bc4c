use Rattle.std.proofs.Common.{arith, sym}
use Rattle.std.proofs.lemmas.List.{length-take-le, take_all}
use Rattle.pm_say.proofs.lint_text.told.first.Goals as goal

pub slice_bounds-result-end : goal.slice_bounds-result-end
slice_bounds-result-end c = sym (length-take-le 100 c.args.warnings.now (omega (arith, c.if-warnings-le-MAX_TOLD.false)))

pub returns-then-warnings-le-MAX_TOLD : goal.returns-then-warnings-le-MAX_TOLD
returns-then-warnings-le-MAX_TOLD c = sym (take_all 100 c.args.warnings.now c.if-warnings-le-MAX_TOLD.true)
