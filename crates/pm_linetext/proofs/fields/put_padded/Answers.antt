-- A count of one digit is padded.
use Rattle.std.proofs.Common.{arith}
use Rattle.std.proofs.lemmas.Grind.{common_steps}
use Rattle.pm_linetext.proofs.PieceLemmas.{padded_digit}
use Rattle.pm_linetext.proofs.fields.put_padded.Goals as goal

pub put-requires : goal.put-requires
put-requires c = let e = padded_digit c.args.count c.if-count-lt10.true in grind (arith, common_steps, e)

pub returns-then-count-lt10 : goal.returns-then-count-lt10
returns-then-count-lt10 c = let e = padded_digit c.args.count c.if-count-lt10.true in grind (arith, common_steps, e)
