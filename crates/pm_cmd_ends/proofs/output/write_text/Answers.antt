use Rattle.std.proofs.Common.{◌∙◌, ap, sym}
use Rattle.std.specs.Io.KnownBytes.{append_known}
use Rattle.pm_io.proofs.Taken.{append_known_append, took_prefix_after, took_prefix_before}
use Rattle.pm_cmd_ends.specs.Pieces.{header_piece, line_pieces}
use Rattle.pm_cmd_ends.proofs.OutputLemmas.{behind_err, each_of_plan, lines_in_time, text_is_pieces}
use Rattle.pm_cmd_ends.proofs.output.write_text.Goals as goal

pub write_lines-requires-clause-in_time : goal.write_lines-requires-clause-in_time
write_lines-requires-clause-in_time g c = lines_in_time c.args.speller.now c.args.lines.now c.requires.lawful

pub write_lines-requires-clause-of_plan : goal.write_lines-requires-clause-of_plan
write_lines-requires-clause-of_plan g c = each_of_plan c.args.speller.now c.args.lines.now c.requires.of_plan

pub returns-in_err-write_header-clause-prefix : goal.returns-in_err-write_header-clause-prefix
returns-in_err-write_header-clause-prefix g c =
    let taken = g.O.Sink.taken in
    let plan = c.args.speller.now in
    let format = c.args.format in
    behind_err c.from_residual.result
    (rw (text_is_pieces format plan c.args.lines.now)
    (took_prefix_before (taken c.args.out.now) (taken c.write_header.new.out) (header_piece format) (line_pieces format plan 0 c.args.lines.now) c.in_err-write_header.ensures.prefix))

pub returns-in_err-write_lines-clause-prefix : goal.returns-in_err-write_lines-clause-prefix
returns-in_err-write_lines-clause-prefix g c =
    let taken = g.O.Sink.taken in
    let plan = c.args.speller.now in
    let format = c.args.format in
    behind_err c.from_residual-in_err-write_lines.result
    (rw (text_is_pieces format plan c.args.lines.now)
    (took_prefix_after (taken c.args.out.now) (taken c.write_header.new.out) (taken c.write_lines.new.out) (header_piece format) (line_pieces format plan 0 c.args.lines.now)
    c.in_ok-write_header.ensures.text c.in_err-write_lines.ensures.prefix))

pub returns-clause-text : goal.returns-clause-text
returns-clause-text g c =
    let old = g.O.Sink.taken c.args.out.now in
    let plan = c.args.speller.now in
    let format = c.args.format in
    let pieces = line_pieces format plan 0 c.args.lines.now in
    c.in_ok-write_lines.ensures.text ∙ ap (λ known. append_known known pieces) c.in_ok-write_header.ensures.text
    ∙ append_known_append old (header_piece format) pieces ∙ ap (append_known old) (sym (text_is_pieces format plan c.args.lines.now))
