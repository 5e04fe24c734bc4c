use Rattle.std.proofs.Common.{refl}
use Rattle.std.proofs.lemmas.Result.{err_from_is_err_and}
use Rattle.pm_cmd_ends.specs.Ending.{taking}
use Rattle.pm_cmd_ends.specs.Pieces.{text_in}
use Rattle.pm_cmd_lab.specs.ends.Coming.{Writes}
use Rattle.pm_cmd_lab.proofs.ends.EndLemmas.{text_part, text_written}
use Rattle.pm_model.specs.Text.{text}
use Rattle.pm_cmd_lab.proofs.order.ShownLemmas.{spelled_text}
use Rattle.pm_cmd_lab.proofs.order.writing.write_lines.Goals as goal

pub returns-in_err-write_text : goal.returns-in_err-write_text
returns-in_err-write_text g c =
    let p = err_from_is_err_and c.from_residual-in_err-write_text.result c.from_residual-in_err-write_text.ensures.1 in
    let plan = c.args.plan.now in
    let lines = c.args.lines.now in
    let out = taking g.O.Sink.taken g.O.Sink.faults c.args.out.now c.write_text.new.out in
    text_part (Writes c.args.outcome (text plan lines)) ⊥ c.args.outcome c.from_residual-in_err-write_text.result p.0 (text plan lines) (text_in c.of.result c.in_ok-speller.speller lines) out p.1 p.2
    (spelled_text plan c.in_ok-speller.speller lines c.of.result c.in_ok-speller.ensures c.of.ensures) refl c.in_err-write_text.ensures.prefix c.in_err-write_text.ensures.failed

pub returns : goal.returns
returns g c =
    let plan = c.args.plan.now in
    let lines = c.args.lines.now in
    let out = taking g.O.Sink.taken g.O.Sink.faults c.args.out.now c.write_text.new.out in
    text_written (Writes c.args.outcome (text plan lines)) ⊥ c.args.outcome (text plan lines) (text_in c.of.result c.in_ok-speller.speller lines) out
    (spelled_text plan c.in_ok-speller.speller lines c.of.result c.in_ok-speller.ensures c.of.ensures) refl c.in_ok-write_text.ensures.text
