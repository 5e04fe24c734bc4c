-- A short line needs no more room than there is.
use Rattle.std.proofs.Common.{arith}
use Rattle.std.proofs.lemmas.Grind.{common_steps}
use Rattle.pm_linetext.proofs.Lengths.{short_text_len}
use Rattle.pm_linetext.proofs.write_line.Goals as goal

pub returns-in_err-extend_from_slice-clause-short : goal.returns-in_err-extend_from_slice-clause-short
returns-in_err-extend_from_slice-clause-short c short room =
    let fits = short_text_len c.args.plan.now c.args.line.now c.args.line.now.time c.requires short (omega arith) in
    grind (arith, common_steps, fits, c.in_err-extend_from_slice.ensures.full)
