use Rattle.std.proofs.Common.{ℕ, List, Err, ap, refl, subst}
use Rattle.std.specs.declared.option.Option.{Option}
use Rattle.pm_cmd_ends.specs.Ending.{taking}
use Rattle.pm_io.proofs.Rose.{rose_later}
use Rattle.pm_io.specs.Faults.{Rose}
use Rattle.pm_cmd_lab.specs.find.Check.{CheckEnds, OfCheck, RunUnread}
use Rattle.pm_cmd_lab.proofs.find.CheckLemmas.{expect_failed, over_expected, refusal_written, trace_failed}
use Rattle.pm_cmd_lab.specs.ends.Coming.{Came}
use Rattle.pm_cmd_lab.specs.ends.Ending.{OfThis}
use Rattle.pm_cmd_lab.specs.declared.ends.ending.Fault.TheVariants as fault
use Rattle.pm_cmd_lab.proofs.ends.EndLemmas.{answered, answered_weaker}
use Rattle.pm_cmd_lab.proofs.find.check.run_expect.Goals as goal

pub returns-in-Ok : goal.returns-in-Ok
returns-in-Ok g c =
    let files = g.F.Files in
    let all = files.tells_all in
    let told = files.told c.args.files.now in
    let expect = c.args.expect.now in
    let trace = c.args.trace.now in
    let plan = c.args.loaded.plan in
    let name_of = c.args.name.now in
    let r = c.in-Ok.read in
    let old = files.faults c.args.files.now in
    let mid = files.faults c.expectations.new.files in
    let new = files.faults c.run_check.new.files in
    let out = taking g.O.Sink.taken g.O.Sink.faults c.args.out.now c.run_check.new.out in
    let err = taking g.E.Sink.taken g.E.Sink.faults c.args.err.now c.finish.new.err in
    let ends = CheckEnds all told name_of expect trace c.args.ktap c.args.notes plan in
    let same = ap (λ (t : List ℕ → Option (List ℕ)). t trace) c.expectations.ensures.same in
    let came =
    subst (λ (t : Option (List ℕ)). Came (OfCheck all t name_of trace expect c.args.ktap c.args.notes plan r.text.items r.expected) c.run_check.result (Rose mid new) out) same c.run_check.ensures in
    answered_weaker ends (OfThis trace (Rose old new)) (RunUnread all (told expect) plan expect trace (Rose old new)) c.finish.result out err
    (λ name this. trace_failed all (told expect) plan expect trace name r.text.items r.expected (Rose old new) c.in-Ok.ensures.read this)
    (answered ends trace (Rose old new) c.run_check.result c.finish.result out err
    (over_expected all (told expect) expect (OfCheck all (told trace) name_of trace expect c.args.ktap c.args.notes) plan r.text.items r.expected (Rose mid new) (Rose old new) out c.run_check.result
    (λ rose. rose_later old mid new c.expectations.ensures.never_falls rose) c.in-Ok.ensures.read came)
    c.finish.ensures.status c.finish.ensures.message)

pub returns-in-Err-Refused : goal.returns-in-Err-Refused
returns-in-Err-Refused g c =
    let files = g.F.Files in
    let all = files.tells_all in
    let told = files.told c.args.files.now in
    let expect = c.args.expect.now in
    let trace = c.args.trace.now in
    let plan = c.args.loaded.plan in
    let name_of = c.args.name.now in
    let failed = Rose (files.faults c.args.files.now) (files.faults c.expectations.new.files) in
    let out = taking g.O.Sink.taken g.O.Sink.faults c.args.out.now c.write_text-told.new.out in
    let err = taking g.E.Sink.taken g.E.Sink.faults c.args.err.now c.finish-in-Err-Refused.new.err in
    let ends = CheckEnds all told name_of expect trace c.args.ktap c.args.notes plan in
    answered_weaker ends (OfThis expect failed) (RunUnread all (told expect) plan expect trace failed) c.finish-in-Err-Refused.result out err
    (λ name this. expect_failed all (told expect) plan expect trace name failed this)
    (answered ends expect failed c.write_text-told.result c.finish-in-Err-Refused.result out err
    (refusal_written all (told expect) expect (OfCheck all (told trace) name_of trace expect c.args.ktap c.args.notes) plan c.in-Err-Refused.text c.as_slice.result.now failed out c.write_text-told.result
    (rw c.in-Err-Refused.field-0-is at c.as_slice.ensures.value) (rw c.in-Err-Refused.field-0-is at c.in-Err-Refused.ensures.unread) c.write_text-told.ensures)
    c.finish-in-Err-Refused.ensures.status c.finish-in-Err-Refused.ensures.message)

pub returns-in-Err-ReadFailed : goal.returns-in-Err-ReadFailed
returns-in-Err-ReadFailed g c =
    let files = g.F.Files in
    let all = files.tells_all in
    let told = files.told c.args.files.now in
    let expect = c.args.expect.now in
    let trace = c.args.trace.now in
    let plan = c.args.loaded.plan in
    let name_of = c.args.name.now in
    let failed = Rose (files.faults c.args.files.now) (files.faults c.expectations.new.files) in
    let out = taking g.O.Sink.taken g.O.Sink.faults c.args.out.now c.args.out.now in
    let err = taking g.E.Sink.taken g.E.Sink.faults c.args.err.now c.finish-in-Err-ReadFailed.new.err in
    let ends = CheckEnds all told name_of expect trace c.args.ktap c.args.notes plan in
    answered_weaker ends (OfThis expect failed) (RunUnread all (told expect) plan expect trace failed) c.finish-in-Err-ReadFailed.result out err
    (λ name this. expect_failed all (told expect) plan expect trace name failed this)
    (answered ends expect failed (Err fault.ReadFailed) c.finish-in-Err-ReadFailed.result out err
    (rw c.in-Err-ReadFailed.field-0-is at c.in-Err-ReadFailed.ensures.unread, refl)
    c.finish-in-Err-ReadFailed.ensures.status c.finish-in-Err-ReadFailed.ensures.message)

pub returns : goal.returns
returns g c =
    let files = g.F.Files in
    let all = files.tells_all in
    let told = files.told c.args.files.now in
    let expect = c.args.expect.now in
    let trace = c.args.trace.now in
    let plan = c.args.loaded.plan in
    let name_of = c.args.name.now in
    let failed = Rose (files.faults c.args.files.now) (files.faults c.expectations.new.files) in
    let out = taking g.O.Sink.taken g.O.Sink.faults c.args.out.now c.args.out.now in
    let err = taking g.E.Sink.taken g.E.Sink.faults c.args.err.now c.finish-in-Err.new.err in
    let ends = CheckEnds all told name_of expect trace c.args.ktap c.args.notes plan in
    answered_weaker ends (OfThis expect failed) (RunUnread all (told expect) plan expect trace failed) c.finish-in-Err.result out err
    (λ name this. expect_failed all (told expect) plan expect trace name failed this)
    (answered ends expect failed (Err fault.NoMemory) c.finish-in-Err.result out err refl c.finish-in-Err.ensures.status c.finish-in-Err.ensures.message)
