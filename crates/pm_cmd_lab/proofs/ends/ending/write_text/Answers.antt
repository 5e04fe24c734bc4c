use Rattle.std.proofs.Common.{refl}
use Rattle.std.proofs.lemmas.Result.{err_from_is_err_and}
use Rattle.pm_cmd_ends.specs.Ending.{taking}
use Rattle.pm_cmd_lab.specs.ends.Coming.{Writes}
use Rattle.pm_cmd_lab.proofs.ends.EndLemmas.{text_part, text_written}
use Rattle.pm_cmd_lab.proofs.ends.ending.write_text.Goals as goal

pub returns-in_err-write_whole : goal.returns-in_err-write_whole
returns-in_err-write_whole g c =
    let p = err_from_is_err_and c.from_residual.result c.from_residual.ensures.1 in
    let text = c.args.text.now in
    let out = taking g.O.Sink.taken g.O.Sink.faults c.args.out.now c.write_whole.new.sink in
    text_part (Writes c.args.outcome text) ⊥ c.args.outcome c.from_residual.result p.0 text text out p.1 p.2
    refl refl c.in_err-write_whole.ensures.prefix c.in_err-write_whole.ensures.failed

pub returns : goal.returns
returns g c =
    let text = c.args.text.now in
    let out = taking g.O.Sink.taken g.O.Sink.faults c.args.out.now c.write_whole.new.sink in
    text_written (Writes c.args.outcome text) ⊥ c.args.outcome text text out refl refl c.in_ok-write_whole.ensures.bytes
