use Rattle.std.proofs.Common.{rules}
use Rattle.pm_io.specs.Faults.{Rose}
use Rattle.pm_cmd_lab.proofs.find.CheckLemmas.{long_file, texts_refused}
use Rattle.pm_cmd_lab.proofs.find.check.expectations.Goals as goal

pub returns-in-Ok-clause-unread : goal.returns-in-Ok-clause-unread
returns-in-Ok-clause-unread g c =
    let files = g.F.Files in
    let expect = c.args.expect.now in
    texts_refused c.expected_in.result files.tells_all (files.told c.args.files.now expect) expect c.args.plan.now c.in-Ok.text.items (Rose (files.faults c.args.files.now) (files.faults c.read_all.new.files))
    (record { told_so = c.in-Ok.ensures.bytes; is_there = c.in-Ok.ensures.there; within = search rules }) c.expected_in.ensures.unread

pub returns-in_ok-text-in-Err-TooLong-clause-unread : goal.returns-in_ok-text-in-Err-TooLong-clause-unread
returns-in_ok-text-in-Err-TooLong-clause-unread g c =
    let files = g.F.Files in
    let expect = c.args.expect.now in
    long_file files.tells_all (files.told c.args.files.now expect) expect c.as_bytes.result.now c.args.plan.now c.in_ok-text-in-Err-TooLong.text (Rose (files.faults c.args.files.now) (files.faults c.read_all.new.files))
    (search rules) c.as_bytes.ensures.value c.in_ok-text-in-Err-TooLong.ensures
