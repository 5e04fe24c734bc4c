-- There is room for the text of each line of a plan and a newline, which is cut again.
use Rattle.std.proofs.Common.{arith, length-append}
use Rattle.pm_model.specs.Spelling.{line_text, newline}
use Rattle.pm_model.specs.Text.{names_of}
use Rattle.pm_linetext.proofs.Lengths.{text_fits}
use Rattle.pm_linetext.proofs.spelled.Goals as goal

pub push_line-requires : goal.push_line-requires
push_line-requires c =
    let sum = length-append (line_text (names_of c.args.plan.now) c.args.line.now) newline in
    rw c.new-text.ensures (omega (arith, sum, text_fits c.args.plan.now c.args.line.now c.requires))
