use Rattle.std.proofs.Common.{◌≡◌, ◌∙◌, List, ℕ, ap, subst, sym}
use Rattle.std.proofs.lemmas.Result.{err_from_is_err_and}
use Rattle.std.specs.Io.KnownBytes.{append_known}
use Rattle.pm_io.proofs.Rose.{rose_later}
use Rattle.pm_io.proofs.Taken.{append_known_append, took_prefix_after, took_prefix_before}
use Rattle.pm_io.specs.Sink.{TookPrefix}
use Rattle.pm_cmd_ends.proofs.OutputLemmas.{lines_in_time}
use Rattle.pm_cmd_ends.specs.Ending.{taking}
use Rattle.pm_cmd_ends.specs.Pieces.{AreInTime, header_piece, line_pieces}
use Rattle.pm_model.specs.Serial.{serial}
use Rattle.pm_model.specs.declared.plan.Plan.{Plan}
use Rattle.pm_serial.proofs.ComingLemmas.{some_end}
use Rattle.pm_serial.specs.Coming.{Coming}
use Rattle.pm_serial.specs.Ends.{IsSerialEnd}
use Rattle.pm_cmd_top.proofs.SerialLemmas.{cut_short, each_line, serial_run, text_pieces, written_whole}
use Rattle.pm_cmd_top.proofs.serial.write_serial.Goals as goal

pub write_coming-requires-clause-in_time : goal.write_coming-requires-clause-in_time
write_coming-requires-clause-in_time g c =
    let plan = c.args.plan.now in
    let here : c.in_ok-lines.lines.plan ≡ plan = ap (λ (x : Coming). x.plan) c.in_ok-lines.ensures in
    subst (λ (q : Plan). AreInTime 0 (serial q)) (sym here) (lines_in_time plan (serial plan) (c.serial_lines_are_lawful.ensures.lawful plan))

pub write_coming-requires-clause-of_plan : goal.write_coming-requires-clause-of_plan
write_coming-requires-clause-of_plan g c =
    let plan = c.in_ok-lines.lines.plan in
    each_line plan (serial plan) (c.serial_lines_are_lawful.ensures.of_plan plan)

pub returns-in_err-write_header : goal.returns-in_err-write_header
returns-in_err-write_header g c =
    let taken = g.O.Sink.taken in
    let plan = c.args.plan.now in
    let format = c.of-format.result in
    let here : c.in_ok-lines.lines.plan ≡ plan = ap (λ (x : Coming). x.plan) c.in_ok-lines.ensures in
    let p = err_from_is_err_and c.from_residual-in_err-write_header.result c.from_residual-in_err-write_header.ensures.1 in
    let out = taking taken g.O.Sink.faults c.args.out.now c.write_header.new.out in
    let e = some_end plan (c.serial_ends.ensures.whole plan) in
    let run = serial_run plan e.0 (c.serial_lines_are_lawful.ensures.lawful plan) (c.serial_lines_are_lawful.ensures.of_plan plan) c.promises_are_kept.ensures e.1 in
    let whole = text_pieces plan c.in_ok-speller.speller c.in_ok-lines.lines.plan format c.in_ok-speller.ensures here c.of-format.ensures in
    let part = took_prefix_before (taken c.args.out.now) (taken c.write_header.new.out) (header_piece format) (line_pieces format c.in_ok-speller.speller 0 (serial c.in_ok-lines.lines.plan))
    c.in_err-write_header.ensures.prefix in
    cut_short plan c.from_residual-in_err-write_header.result p.0 out p.1 p.2 e.0 run
    (subst (λ (bytes : List ℕ). TookPrefix (taken c.args.out.now) (taken c.write_header.new.out) bytes) (sym whole) part) c.in_err-write_header.ensures.failed

pub returns-in_err-write_coming : goal.returns-in_err-write_coming
returns-in_err-write_coming g c =
    let taken = g.O.Sink.taken in
    let faults = g.O.Sink.faults in
    let plan = c.args.plan.now in
    let format = c.of-format.result in
    let here : c.in_ok-lines.lines.plan ≡ plan = ap (λ (x : Coming). x.plan) c.in_ok-lines.ensures in
    let p = err_from_is_err_and c.from_residual-in_err-write_coming.result c.from_residual-in_err-write_coming.ensures.1 in
    let out = taking taken faults c.args.out.now c.write_coming.new.out in
    let e = some_end plan (c.serial_ends.ensures.whole plan) in
    let run = serial_run plan e.0 (c.serial_lines_are_lawful.ensures.lawful plan) (c.serial_lines_are_lawful.ensures.of_plan plan) c.promises_are_kept.ensures e.1 in
    let whole = text_pieces plan c.in_ok-speller.speller c.in_ok-lines.lines.plan format c.in_ok-speller.ensures here c.of-format.ensures in
    let part = took_prefix_after (taken c.args.out.now) (taken c.write_header.new.out) (taken c.write_coming.new.out) (header_piece format)
    (line_pieces format c.in_ok-speller.speller 0 (serial c.in_ok-lines.lines.plan)) c.in_ok-write_header.ensures.text c.in_err-write_coming.ensures.prefix in
    cut_short plan c.from_residual-in_err-write_coming.result p.0 out p.1 p.2 e.0 run
    (subst (λ (bytes : List ℕ). TookPrefix (taken c.args.out.now) (taken c.write_coming.new.out) bytes) (sym whole) part)
    (rose_later (faults c.args.out.now) (faults c.write_header.new.out) (faults c.write_coming.new.out) c.write_header.ensures.never_falls c.in_err-write_coming.ensures.failed)

pub returns : goal.returns
returns g c =
    let taken = g.O.Sink.taken in
    let plan = c.args.plan.now in
    let format = c.of-format.result in
    let old = taken c.args.out.now in
    let here : c.in_ok-lines.lines.plan ≡ plan = ap (λ (x : Coming). x.plan) c.in_ok-lines.ensures in
    let out = taking taken g.O.Sink.faults c.args.out.now c.write_coming.new.out in
    let pieces = line_pieces format c.in_ok-speller.speller 0 (serial c.in_ok-lines.lines.plan) in
    let whole = text_pieces plan c.in_ok-speller.speller c.in_ok-lines.lines.plan format c.in_ok-speller.ensures here c.of-format.ensures in
    let took = c.in_ok-write_coming.ensures.text ∙ ap (λ known. append_known known pieces) c.in_ok-write_header.ensures.text ∙ append_known_append old (header_piece format) pieces
    ∙ ap (append_known old) (sym whole) in
    let ends = subst (λ (q : Plan). IsSerialEnd q c.end.result) (c.write_coming.ensures.plan ∙ here) c.end.ensures in
    let run = serial_run plan c.end.result (c.serial_lines_are_lawful.ensures.lawful plan) (c.serial_lines_are_lawful.ensures.of_plan plan) c.promises_are_kept.ensures ends in
    written_whole plan c.ended.result out c.end.result c.ended.ensures run took
