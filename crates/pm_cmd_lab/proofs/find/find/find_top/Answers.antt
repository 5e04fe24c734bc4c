use Rattle.std.proofs.Common.{ℕ, List, Err, ap, refl, subst}
use Rattle.std.specs.declared.option.Option.{Option}
use Rattle.pm_cmd_ends.specs.Ending.{taking}
use Rattle.pm_io.proofs.Rose.{rose_later}
use Rattle.pm_io.specs.Asks.{AskedOnly}
use Rattle.pm_io.specs.Faults.{Rose}
use Rattle.pm_cmd_lab.specs.find.Find.{FindUnread, OfFind}
use Rattle.pm_cmd_lab.proofs.find.FindLemmas.{plan_failed, trace_failed}
use Rattle.pm_cmd_lab.specs.ends.Coming.{Came}
use Rattle.pm_cmd_lab.specs.ends.Ending.{OfThis}
use Rattle.pm_cmd_lab.specs.ends.Reading.{OfPlan}
use Rattle.pm_cmd_lab.proofs.ends.EndLemmas.{answered, answered_weaker}
use Rattle.pm_cmd_lab.proofs.ends.ReadLemmas.{came_read, came_unread}
use Rattle.pm_cmd_lab.proofs.find.find.find_top.Goals as goal

pub returns-in-Ok : goal.returns-in-Ok
returns-in-Ok g c =
    let files = g.F.Files in
    let all = files.tells_all in
    let told = files.told c.args.files.now in
    let plan = c.args.plan.now in
    let trace = c.args.trace.now in
    let read = c.in-Ok.read.plan in
    let old = files.faults c.args.files.now in
    let mid = files.faults c.load_text.new.files in
    let new = files.faults c.run_find.new.files in
    let out = taking g.O.Sink.taken g.O.Sink.faults c.args.out.now c.run_find.new.out in
    let err = taking g.E.Sink.taken g.E.Sink.faults c.args.err.now c.finish.new.err in
    let alone = AskedOnly plan (files.asked c.args.files.now) (files.asked c.run_find.new.files) in
    let ends = OfPlan all (told plan) plan (OfFind all (told trace) plan trace c.args.notes) in
    let same = ap (λ (t : List ℕ → Option (List ℕ)). t trace) c.load_text.ensures.same in
    let came = subst (λ (t : Option (List ℕ)). Came (OfFind all t plan trace c.args.notes read) c.run_find.result (Rose mid new) out) same c.run_find.ensures in
    answered_weaker ends (OfThis trace (Rose old new)) (FindUnread all (told plan) plan trace alone (Rose old new)) c.finish.result out err
    (λ name this. trace_failed all (told plan) plan trace name read alone (Rose old new) c.in-Ok.ensures.read this)
    (answered ends trace (Rose old new) c.run_find.result c.finish.result out err
    (came_read all (told plan) plan read (OfFind all (told trace) plan trace c.args.notes) (Rose mid new) (Rose old new) out c.run_find.result
    (λ rose. rose_later old mid new c.load_text.ensures.never_falls rose) c.in-Ok.ensures.read came)
    c.finish.ensures.status c.finish.ensures.message)

pub returns-in-Err : goal.returns-in-Err
returns-in-Err g c =
    let files = g.F.Files in
    let all = files.tells_all in
    let told = files.told c.args.files.now in
    let plan = c.args.plan.now in
    let trace = c.args.trace.now in
    let fault = c.in-Err.fault in
    let failed = Rose (files.faults c.args.files.now) (files.faults c.load_text.new.files) in
    let out = taking g.O.Sink.taken g.O.Sink.faults c.args.out.now c.args.out.now in
    let err = taking g.E.Sink.taken g.E.Sink.faults c.args.err.now c.finish-in-Err.new.err in
    let alone = AskedOnly plan (files.asked c.args.files.now) (files.asked c.load_text.new.files) in
    let ends = OfPlan all (told plan) plan (OfFind all (told trace) plan trace c.args.notes) in
    answered_weaker ends (OfThis plan failed) (FindUnread all (told plan) plan trace alone failed) c.finish-in-Err.result out err
    (λ name this. plan_failed all (told plan) plan trace name alone failed c.load_text.ensures.asked this)
    (answered ends plan failed (Err fault) c.finish-in-Err.result out err
    (came_unread all (told plan) plan (OfFind all (told trace) plan trace c.args.notes) failed out fault c.in-Err.ensures.unread refl)
    c.finish-in-Err.ensures.status c.finish-in-Err.ensures.message)
