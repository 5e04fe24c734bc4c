use Rattle.std.proofs.Common.{ℕ, List, Err, refl, subst}
use Rattle.std.specs.declared.option.Option.{Option}
use Rattle.pm_cmd_ends.specs.Ending.{taking}
use Rattle.pm_io.proofs.Rose.{rose_later}
use Rattle.pm_io.specs.Asks.{AskedOnly}
use Rattle.pm_io.specs.Faults.{Rose}
use Rattle.pm_cmd_lab.specs.find.Check.{CheckEnds, CheckUnread, RunUnread, of_run}
use Rattle.pm_cmd_lab.proofs.find.CheckLemmas.{answered_more, over_plan, plan_failed, run_later}
use Rattle.pm_cmd_lab.specs.ends.Ending.{Answered, OfThis}
use Rattle.pm_cmd_lab.specs.ends.Reading.{OfPlan}
use Rattle.pm_cmd_lab.proofs.ends.EndLemmas.{answered, answered_weaker}
use Rattle.pm_cmd_lab.proofs.ends.ReadLemmas.{came_unread}
use Rattle.pm_cmd_lab.proofs.find.check.check_top.Goals as goal

pub returns-in-Ok : goal.returns-in-Ok
returns-in-Ok g c =
    let files = g.F.Files in
    let all = files.tells_all in
    let told = files.told c.args.files.now in
    let plan = c.args.plan.now in
    let expect = c.args.expect.now in
    let trace = c.args.trace.now in
    let from = c.in-Ok.read.plan in
    let old = files.faults c.args.files.now in
    let mid = files.faults c.load_text.new.files in
    let new = files.faults c.run_expect.new.files in
    let out = taking g.O.Sink.taken g.O.Sink.faults c.args.out.now c.run_expect.new.out in
    let err = taking g.E.Sink.taken g.E.Sink.faults c.args.err.now c.run_expect.new.err in
    let alone = AskedOnly plan (files.asked c.args.files.now) (files.asked c.run_expect.new.files) in
    let ends = CheckEnds all told plan expect trace c.args.ktap c.args.notes in
    let ran =
    subst (λ (t : List ℕ → Option (List ℕ)). Answered (CheckEnds all t plan expect trace c.args.ktap c.args.notes from) c.run_expect.result (RunUnread all (t expect) from expect trace (Rose mid new)) out err)
    c.load_text.ensures.same c.run_expect.ensures in
    answered_more (ends from) (OfPlan all (told plan) plan ends) (RunUnread all (told expect) from expect trace (Rose mid new)) (CheckUnread all told plan expect trace alone (Rose old new))
    c.run_expect.result out err (over_plan all (told plan) plan from ends c.in-Ok.ensures.read)
    (λ name unread. of_run from c.in-Ok.ensures.read name
    (run_later all (told expect) from expect trace name (Rose mid new) (Rose old new) (λ rose. rose_later old mid new c.load_text.ensures.never_falls rose) unread))
    ran

pub returns-in-Err : goal.returns-in-Err
returns-in-Err g c =
    let files = g.F.Files in
    let all = files.tells_all in
    let told = files.told c.args.files.now in
    let plan = c.args.plan.now in
    let expect = c.args.expect.now in
    let trace = c.args.trace.now in
    let fault = c.in-Err.fault in
    let failed = Rose (files.faults c.args.files.now) (files.faults c.load_text.new.files) in
    let out = taking g.O.Sink.taken g.O.Sink.faults c.args.out.now c.args.out.now in
    let err = taking g.E.Sink.taken g.E.Sink.faults c.args.err.now c.finish.new.err in
    let alone = AskedOnly plan (files.asked c.args.files.now) (files.asked c.load_text.new.files) in
    let ends = CheckEnds all told plan expect trace c.args.ktap c.args.notes in
    answered_weaker (OfPlan all (told plan) plan ends) (OfThis plan failed) (CheckUnread all told plan expect trace alone failed) c.finish.result out err
    (λ name this. plan_failed all told plan expect trace name alone failed c.load_text.ensures.asked this)
    (answered (OfPlan all (told plan) plan ends) plan failed (Err fault) c.finish.result out err
    (came_unread all (told plan) plan ends failed out fault c.in-Err.ensures.unread refl)
    c.finish.ensures.status c.finish.ensures.message)
