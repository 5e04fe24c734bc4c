use Rattle.pm_io.proofs.Taken.{took_prefix_after}
use Rattle.pm_model.specs.Spelling.{newline}
use Rattle.pm_cmd_lab.proofs.ends.WriteLemmas.{follows_err}
use Rattle.pm_cmd_lab.proofs.ends.ending.write_line.Goals as goal

pub returns-clause-prefix : goal.returns-clause-prefix
returns-clause-prefix g c =
    let taken = g.E.Sink.taken in
    follows_err c.write_whole-2.result
    (took_prefix_after (taken c.args.err.now) (taken c.write_whole.new.sink) (taken c.write_whole-2.new.sink) c.args.line.now newline c.in_ok-write_whole.ensures.bytes)
    c.write_whole-2.ensures.prefix
