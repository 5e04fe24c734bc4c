use Rattle.std.proofs.Common.{ℕ, List, ◌++◌, codes, subst}
use Rattle.pm_io.proofs.Taken.{took_prefix_after, took_prefix_before}
use Rattle.pm_io.specs.Sink.{TookPrefix}
use Rattle.pm_model.specs.Spelling.{newline}
use Rattle.pm_cmd_lab.proofs.ends.WriteLemmas.{behind_err, follows_err}
use Rattle.pm_cmd_lab.proofs.ends.ending.write_read.Goals as goal

pub returns-in_err-write_whole-clause-prefix : goal.returns-in_err-write_whole-clause-prefix
returns-in_err-write_whole-clause-prefix g c =
    let taken = g.E.Sink.taken in
    behind_err c.from_residual.result
    (took_prefix_before (taken c.args.err.now) (taken c.write_whole.new.sink) (codes "read: ") (c.args.file.now ++ newline) c.in_err-write_whole.ensures.prefix)

pub returns-clause-prefix : goal.returns-clause-prefix
returns-clause-prefix g c =
    let taken = g.E.Sink.taken in
    let P : List ℕ → Type 0 = λ bytes. TookPrefix (taken c.write_whole.new.sink) (taken c.write_line.new.err) (bytes ++ newline) in
    follows_err c.write_line.result
    (λ part. took_prefix_after (taken c.args.err.now) (taken c.write_whole.new.sink) (taken c.write_line.new.err) (codes "read: ") (c.args.file.now ++ newline) c.in_ok-write_whole.ensures.bytes (subst P c.as_bytes.ensures.value part))
    c.write_line.ensures.prefix
