-- A number below 10 is its one digit.
use Rattle.std.proofs.Common.{sym}
use Rattle.std.proofs.lemmas.Fmt.{decimal_digit}
use Rattle.pm_linetext.proofs.pieces.digit.Goals as goal

pub returns : goal.returns
returns c = sym (decimal_digit c.args.number c.requires)
