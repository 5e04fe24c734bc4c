use Rattle.std.proofs.Common.{refl, reverse}
use Rattle.std.proofs.lemmas.Result.{err_from_is_err_and}
use Rattle.pm_model.specs.Text.{text2}
use Rattle.pm_cmd_ends.specs.Ending.{taking}
use Rattle.pm_cmd_ends.proofs.EndLemmas.{done_part, wrote_all}
use Rattle.pm_cmd_top.specs.TraceCommands.{ConvertEnds}
use Rattle.pm_cmd_top.proofs.WriteLemmas.{converted}
use Rattle.pm_cmd_top.proofs.convert.write_converted.Goals as goal

pub returns-in_err-write_text : goal.returns-in_err-write_text
returns-in_err-write_text g c =
    let p = err_from_is_err_and c.from_residual-in_err-write_text.result c.from_residual-in_err-write_text.ensures.1 in
    let book = c.args.book.now in
    let spelled = c.in_ok-speller.speller in
    let lines = c.lines.result.now in
    done_part (ConvertEnds book.plan book.lines) ⊥ c.from_residual-in_err-write_text.result p.0 (text2 book.plan (reverse book.lines)) (text2 spelled lines) (taking g.O.Sink.taken g.O.Sink.faults c.args.out.now c.write_text.new.out) p.1 p.2
    (converted spelled c.plan.result.now book.plan lines book.lines c.in_ok-speller.ensures c.plan.ensures c.lines.ensures.lines) refl c.in_err-write_text.ensures.prefix c.in_err-write_text.ensures.failed

pub returns : goal.returns
returns g c =
    let book = c.args.book.now in
    let spelled = c.in_ok-speller.speller in
    let lines = c.lines.result.now in
    let bytes = text2 book.plan (reverse book.lines) in (
      bytes,
      refl,
      wrote_all bytes (text2 spelled lines) (taking g.O.Sink.taken g.O.Sink.faults c.args.out.now c.write_text.new.out)
          (converted spelled c.plan.result.now book.plan lines book.lines c.in_ok-speller.ensures c.plan.ensures c.lines.ensures.lines) c.in_ok-write_text.ensures.text,
    )
