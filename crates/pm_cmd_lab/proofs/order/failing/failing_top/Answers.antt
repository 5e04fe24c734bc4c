use Rattle.std.proofs.Common.{ℕ, List, Err, ap, refl, subst}
use Rattle.std.specs.declared.option.Option.{Option}
use Rattle.pm_cmd_ends.specs.Ending.{taking}
use Rattle.pm_io.proofs.Rose.{rose_later}
use Rattle.pm_io.specs.Asks.{AskedOnly}
use Rattle.pm_io.specs.Faults.{Rose}
use Rattle.pm_cmd_lab.specs.ends.Ending.{OfThis}
use Rattle.pm_cmd_lab.specs.ends.Reading.{OfPlan}
use Rattle.pm_cmd_lab.proofs.ends.EndLemmas.{answered, answered_weaker}
use Rattle.pm_cmd_lab.proofs.ends.ReadLemmas.{came_unread}
use Rattle.pm_cmd_lab.specs.find.Check.{OfExpectations}
use Rattle.pm_cmd_lab.specs.order.Failing.{FailingEnds}
use Rattle.pm_cmd_lab.specs.order.Work.{CameTo}
use Rattle.pm_cmd_lab.proofs.order.FailLemmas.{came_of_read}
use Rattle.pm_cmd_lab.proofs.order.WorkLemmas.{answered_after}
use Rattle.pm_cmd_lab.specs.orders.Expect.{ExpectUnread}
use Rattle.pm_cmd_lab.proofs.orders.ExpectLemmas.{file_failed, plan_failed}
use Rattle.pm_cmd_lab.proofs.order.failing.failing_top.Goals as goal

pub returns-in-Ok : goal.returns-in-Ok
returns-in-Ok g c =
    let files = g.F.Files in
    let all = files.tells_all in
    let told = files.told c.args.files.now in
    let plan = c.args.plan.now in
    let expect = c.args.expect.now in
    let from = c.in-Ok.read in
    let old = files.faults c.args.files.now in
    let mid = files.faults c.load.new.files in
    let new = files.faults c.run_failing.new.files in
    let out = taking g.O.Sink.taken g.O.Sink.faults c.args.out.now c.run_failing.new.out in
    let err = taking g.E.Sink.taken g.E.Sink.faults c.args.err.now c.end.new.err in
    let alone = AskedOnly plan (files.asked c.args.files.now) (files.asked c.run_failing.new.files) in
    let over = OfExpectations all (told expect) expect (FailingEnds c.args.bounds c.args.index) in
    let ends = OfPlan all (told plan) plan over in
    let same = ap (λ (t : List ℕ → Option (List ℕ)). t expect) c.load.ensures.same in
    let came = subst (λ (t : Option (List ℕ)). CameTo (OfExpectations all t expect (FailingEnds c.args.bounds c.args.index) from) c.run_failing.result (Rose mid new) out) same c.run_failing.ensures in
    answered_weaker ends (OfThis expect (Rose old new)) (ExpectUnread all (told plan) plan expect alone (Rose old new)) c.end.result out err
    (λ name this. file_failed all (told plan) plan expect name from alone (Rose old new) c.in-Ok.ensures.read this)
    (answered_after ends expect (Rose old new) c.run_failing.result c.end.result out err
    (came_of_read all (told plan) plan from over (Rose mid new) (Rose old new) out c.run_failing.result (λ rose. rose_later old mid new c.load.ensures.never_falls rose) c.in-Ok.ensures.read came)
    c.end.ensures.status c.end.ensures.message)

pub returns-in-Err : goal.returns-in-Err
returns-in-Err g c =
    let files = g.F.Files in
    let all = files.tells_all in
    let told = files.told c.args.files.now in
    let plan = c.args.plan.now in
    let expect = c.args.expect.now in
    let fault = c.in-Err.fault in
    let failed = Rose (files.faults c.args.files.now) (files.faults c.load.new.files) in
    let out = taking g.O.Sink.taken g.O.Sink.faults c.args.out.now c.args.out.now in
    let err = taking g.E.Sink.taken g.E.Sink.faults c.args.err.now c.finish.new.err in
    let alone = AskedOnly plan (files.asked c.args.files.now) (files.asked c.load.new.files) in
    let over = OfExpectations all (told expect) expect (FailingEnds c.args.bounds c.args.index) in
    let ends = OfPlan all (told plan) plan over in
    answered_weaker ends (OfThis plan failed) (ExpectUnread all (told plan) plan expect alone failed) c.finish.result out err
    (λ name this. plan_failed all (told plan) plan expect name alone failed c.load.ensures.asked this)
    (answered ends plan failed (Err fault) c.finish.result out err
    (came_unread all (told plan) plan over failed out fault c.in-Err.ensures.unread refl)
    c.finish.ensures.status c.finish.ensures.message)
