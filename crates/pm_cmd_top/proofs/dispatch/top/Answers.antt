use Rattle.std.proofs.Common.{refl, subst}
use Rattle.std.specs.Prelude.{IfSome}
use Rattle.std.specs.declared.option.Option.{Option}
use Rattle.pm_io.specs.Faults.{Rose}
use Rattle.pm_cmd_ends.specs.Request.{Asked}
use Rattle.pm_cmd_top.specs.Commands.{AskedEnds, AsksInOrder, MakeEnds}
use Rattle.pm_cmd_ends.specs.Ending.{Answered, taking}
use Rattle.pm_cmd_ends.proofs.EndLemmas.{answered_unread}
use Rattle.pm_cmd_top.proofs.dispatch.top.Goals as goal

pub returns-in-Some-Serial-clause-answer : goal.returns-in-Some-Serial-clause-answer
returns-in-Some-Serial-clause-answer g c =
    let files = g.F.Files in
    let unread = Rose (files.faults c.args.files.now) (files.faults c.serial_top.new.files) in
    let out = taking g.O.Sink.taken g.O.Sink.faults c.args.out.now c.serial_top.new.out in
    let err = taking g.E.Sink.taken g.E.Sink.faults c.args.err.now c.serial_top.new.err in
    let names = rw c.in-Some-Serial.field-0-is at c.in-Some-Serial.ensures.request in
    subst (λ (o : Option Asked). IfSome o (λ asked. Answered (AskedEnds files.tells_all (files.told c.args.files.now) asked) c.serial_top.result unread out err))
    names c.serial_top.ensures.answer

pub returns-in-Some-Run-clause-answer : goal.returns-in-Some-Run-clause-answer
returns-in-Some-Run-clause-answer g c =
    let files = g.F.Files in
    let unread = Rose (files.faults c.args.files.now) (files.faults c.run_top.new.files) in
    let out = taking g.O.Sink.taken g.O.Sink.faults c.args.out.now c.run_top.new.out in
    let err = taking g.E.Sink.taken g.E.Sink.faults c.args.err.now c.run_top.new.err in
    let names = rw c.in-Some-Run.field-0-is at c.in-Some-Run.ensures.request in
    subst (λ (o : Option Asked). IfSome o (λ asked. Answered (AskedEnds files.tells_all (files.told c.args.files.now) asked) c.run_top.result unread out err))
    names c.run_top.ensures.answer

pub returns-in-Some-Desk-clause-answer : goal.returns-in-Some-Desk-clause-answer
returns-in-Some-Desk-clause-answer g c =
    let files = g.F.Files in
    let unread = Rose (files.faults c.args.files.now) (files.faults c.desk_top.new.files) in
    let out = taking g.O.Sink.taken g.O.Sink.faults c.args.out.now c.desk_top.new.out in
    let err = taking g.E.Sink.taken g.E.Sink.faults c.args.err.now c.desk_top.new.err in
    let names = rw c.in-Some-Desk.field-0-is at c.in-Some-Desk.ensures.request in
    subst (λ (o : Option Asked). IfSome o (λ asked. Answered (AskedEnds files.tells_all (files.told c.args.files.now) asked) c.desk_top.result unread out err))
    names c.desk_top.ensures.answer

pub returns-in-Some-Check-clause-answer : goal.returns-in-Some-Check-clause-answer
returns-in-Some-Check-clause-answer g c =
    let files = g.F.Files in
    let unread = Rose (files.faults c.args.files.now) (files.faults c.check_top.new.files) in
    let out = taking g.O.Sink.taken g.O.Sink.faults c.args.out.now c.check_top.new.out in
    let err = taking g.E.Sink.taken g.E.Sink.faults c.args.err.now c.check_top.new.err in
    let names = rw c.in-Some-Check.field-0-is at c.in-Some-Check.ensures.request in
    subst (λ (o : Option Asked). IfSome o (λ asked. Answered (AskedEnds files.tells_all (files.told c.args.files.now) asked) c.check_top.result unread out err))
    names c.check_top.ensures.answer

pub returns-in-Some-Audit-clause-answer : goal.returns-in-Some-Audit-clause-answer
returns-in-Some-Audit-clause-answer g c =
    let files = g.F.Files in
    let unread = Rose (files.faults c.args.files.now) (files.faults c.audit_top.new.files) in
    let out = taking g.O.Sink.taken g.O.Sink.faults c.args.out.now c.audit_top.new.out in
    let err = taking g.E.Sink.taken g.E.Sink.faults c.args.err.now c.audit_top.new.err in
    let names = rw c.in-Some-Audit.field-0-is at c.in-Some-Audit.ensures.request in
    subst (λ (o : Option Asked). IfSome o (λ asked. Answered (AskedEnds files.tells_all (files.told c.args.files.now) asked) c.audit_top.result unread out err))
    names c.audit_top.ensures.answer

pub returns-in-Some-Convert-clause-answer : goal.returns-in-Some-Convert-clause-answer
returns-in-Some-Convert-clause-answer g c =
    let files = g.F.Files in
    let unread = Rose (files.faults c.args.files.now) (files.faults c.convert_top.new.files) in
    let out = taking g.O.Sink.taken g.O.Sink.faults c.args.out.now c.convert_top.new.out in
    let err = taking g.E.Sink.taken g.E.Sink.faults c.args.err.now c.convert_top.new.err in
    let names = rw c.in-Some-Convert.field-0-is at c.in-Some-Convert.ensures.request in
    subst (λ (o : Option Asked). IfSome o (λ asked. Answered (AskedEnds files.tells_all (files.told c.args.files.now) asked) c.convert_top.result unread out err))
    names c.convert_top.ensures.answer

pub returns-in-Some-Times-clause-answer : goal.returns-in-Some-Times-clause-answer
returns-in-Some-Times-clause-answer g c =
    let files = g.F.Files in
    let unread = Rose (files.faults c.args.files.now) (files.faults c.times_top.new.files) in
    let out = taking g.O.Sink.taken g.O.Sink.faults c.args.out.now c.times_top.new.out in
    let err = taking g.E.Sink.taken g.E.Sink.faults c.args.err.now c.times_top.new.err in
    let names = rw c.in-Some-Times.field-0-is at c.in-Some-Times.ensures.request in
    subst (λ (o : Option Asked). IfSome o (λ asked. Answered (AskedEnds files.tells_all (files.told c.args.files.now) asked) c.times_top.result unread out err))
    names c.times_top.ensures.answer

pub returns-in-Some-Why-clause-answer : goal.returns-in-Some-Why-clause-answer
returns-in-Some-Why-clause-answer g c =
    let files = g.F.Files in
    let unread = Rose (files.faults c.args.files.now) (files.faults c.why_top.new.files) in
    let out = taking g.O.Sink.taken g.O.Sink.faults c.args.out.now c.why_top.new.out in
    let err = taking g.E.Sink.taken g.E.Sink.faults c.args.err.now c.why_top.new.err in
    let names = rw c.in-Some-Why.field-0-is at c.in-Some-Why.ensures.request in
    subst (λ (o : Option Asked). IfSome o (λ asked. Answered (AskedEnds files.tells_all (files.told c.args.files.now) asked) c.why_top.result unread out err))
    names c.why_top.ensures.answer

pub returns-in-Some-Make-clause-answer : goal.returns-in-Some-Make-clause-answer
returns-in-Some-Make-clause-answer g c =
    let files = g.F.Files in
    let unread = Rose (files.faults c.args.files.now) (files.faults c.args.files.now) in
    let out = taking g.O.Sink.taken g.O.Sink.faults c.args.out.now c.make_top.new.out in
    let err = taking g.E.Sink.taken g.E.Sink.faults c.args.err.now c.make_top.new.err in
    let names = rw c.in-Some-Make.field-0-is at c.in-Some-Make.ensures.request in
    subst (λ (o : Option Asked). IfSome o (λ asked. Answered (AskedEnds files.tells_all (files.told c.args.files.now) asked) c.make_top.result unread out err))
    names
    (answered_unread (MakeEnds c.in-Some-Make.number c.in-Some-Make.devices) unread c.make_top.result out err c.make_top.ensures)

pub returns-in-Some-Serial-clause-alone : goal.returns-in-Some-Serial-clause-alone
returns-in-Some-Serial-clause-alone g c =
    let files = g.F.Files in
    let names = rw c.in-Some-Serial.field-0-is at c.in-Some-Serial.ensures.request in
    subst (λ (o : Option Asked). IfSome o (λ asked. AsksInOrder (files.told c.args.files.now) asked (files.asked c.args.files.now) (files.asked c.serial_top.new.files))) names c.serial_top.ensures.alone

pub returns-in-Some-Run-clause-alone : goal.returns-in-Some-Run-clause-alone
returns-in-Some-Run-clause-alone g c =
    let files = g.F.Files in
    let names = rw c.in-Some-Run.field-0-is at c.in-Some-Run.ensures.request in
    subst (λ (o : Option Asked). IfSome o (λ asked. AsksInOrder (files.told c.args.files.now) asked (files.asked c.args.files.now) (files.asked c.run_top.new.files))) names c.run_top.ensures.alone

pub returns-in-Some-Desk-clause-alone : goal.returns-in-Some-Desk-clause-alone
returns-in-Some-Desk-clause-alone g c =
    let files = g.F.Files in
    let names = rw c.in-Some-Desk.field-0-is at c.in-Some-Desk.ensures.request in
    subst (λ (o : Option Asked). IfSome o (λ asked. AsksInOrder (files.told c.args.files.now) asked (files.asked c.args.files.now) (files.asked c.desk_top.new.files))) names c.desk_top.ensures.alone

pub returns-in-Some-Check-clause-alone : goal.returns-in-Some-Check-clause-alone
returns-in-Some-Check-clause-alone g c =
    let files = g.F.Files in
    let names = rw c.in-Some-Check.field-0-is at c.in-Some-Check.ensures.request in
    subst (λ (o : Option Asked). IfSome o (λ asked. AsksInOrder (files.told c.args.files.now) asked (files.asked c.args.files.now) (files.asked c.check_top.new.files))) names c.check_top.ensures.alone

pub returns-in-Some-Audit-clause-alone : goal.returns-in-Some-Audit-clause-alone
returns-in-Some-Audit-clause-alone g c =
    let files = g.F.Files in
    let names = rw c.in-Some-Audit.field-0-is at c.in-Some-Audit.ensures.request in
    subst (λ (o : Option Asked). IfSome o (λ asked. AsksInOrder (files.told c.args.files.now) asked (files.asked c.args.files.now) (files.asked c.audit_top.new.files))) names c.audit_top.ensures.alone

pub returns-in-Some-Convert-clause-alone : goal.returns-in-Some-Convert-clause-alone
returns-in-Some-Convert-clause-alone g c =
    let files = g.F.Files in
    let names = rw c.in-Some-Convert.field-0-is at c.in-Some-Convert.ensures.request in
    subst (λ (o : Option Asked). IfSome o (λ asked. AsksInOrder (files.told c.args.files.now) asked (files.asked c.args.files.now) (files.asked c.convert_top.new.files))) names c.convert_top.ensures.alone

pub returns-in-Some-Times-clause-alone : goal.returns-in-Some-Times-clause-alone
returns-in-Some-Times-clause-alone g c =
    let files = g.F.Files in
    let names = rw c.in-Some-Times.field-0-is at c.in-Some-Times.ensures.request in
    subst (λ (o : Option Asked). IfSome o (λ asked. AsksInOrder (files.told c.args.files.now) asked (files.asked c.args.files.now) (files.asked c.times_top.new.files))) names c.times_top.ensures.alone

pub returns-in-Some-Why-clause-alone : goal.returns-in-Some-Why-clause-alone
returns-in-Some-Why-clause-alone g c =
    let files = g.F.Files in
    let names = rw c.in-Some-Why.field-0-is at c.in-Some-Why.ensures.request in
    subst (λ (o : Option Asked). IfSome o (λ asked. AsksInOrder (files.told c.args.files.now) asked (files.asked c.args.files.now) (files.asked c.why_top.new.files))) names c.why_top.ensures.alone

pub returns-in-Some-Make-clause-alone : goal.returns-in-Some-Make-clause-alone
returns-in-Some-Make-clause-alone g c =
    let files = g.F.Files in
    let names = rw c.in-Some-Make.field-0-is at c.in-Some-Make.ensures.request in
    subst (λ (o : Option Asked). IfSome o (λ asked. AsksInOrder (files.told c.args.files.now) asked (files.asked c.args.files.now) (files.asked c.args.files.now))) names refl
