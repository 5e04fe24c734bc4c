use Rattle.std.proofs.Common.{ℕ, List, Err, ap, refl, subst}
use Rattle.std.specs.declared.option.Option.{Option}
use Rattle.pm_cmd_ends.specs.Ending.{taking}
use Rattle.pm_io.proofs.Rose.{rose_later}
use Rattle.pm_io.specs.Asks.{AskedOnly}
use Rattle.pm_io.specs.Faults.{Rose}
use Rattle.pm_cmd_lab.specs.orders.Seen.{OfSeen, SeenUnread}
use Rattle.pm_cmd_lab.proofs.orders.SeenLemmas.{log_failed, plan_failed}
use Rattle.pm_cmd_lab.specs.ends.Coming.{Came}
use Rattle.pm_cmd_lab.specs.ends.Ending.{OfThis}
use Rattle.pm_cmd_lab.specs.ends.Reading.{OfPlan}
use Rattle.pm_cmd_lab.proofs.ends.EndLemmas.{answered, answered_weaker}
use Rattle.pm_cmd_lab.proofs.ends.ReadLemmas.{came_read, came_unread}
use Rattle.pm_cmd_lab.proofs.orders.seen.seen_top.Goals as goal

pub returns-in-Ok : goal.returns-in-Ok
returns-in-Ok g c =
    let files = g.F.Files in
    let all = files.tells_all in
    let told = files.told c.args.files.now in
    let plan = c.args.plan.now in
    let log = c.args.log.now in
    let bounds = c.args.bounds in
    let differ = c.args.differ in
    let read = c.in-Ok.read in
    let old = files.faults c.args.files.now in
    let mid = files.faults c.load.new.files in
    let new = files.faults c.run_seen.new.files in
    let out = taking g.O.Sink.taken g.O.Sink.faults c.args.out.now c.run_seen.new.out in
    let err = taking g.E.Sink.taken g.E.Sink.faults c.args.err.now c.finish.new.err in
    let alone = AskedOnly plan (files.asked c.args.files.now) (files.asked c.run_seen.new.files) in
    let ends = OfPlan all (told plan) plan (OfSeen all (told log) bounds differ) in
    let same = ap (λ (t : List ℕ → Option (List ℕ)). t log) c.load.ensures.same in
    let came = subst (λ (t : Option (List ℕ)). Came (OfSeen all t bounds differ read) c.run_seen.result (Rose mid new) out) same c.run_seen.ensures in
    answered_weaker ends (OfThis log (Rose old new)) (SeenUnread all (told plan) plan log alone (Rose old new)) c.finish.result out err
    (λ name this. log_failed all (told plan) plan log name read alone (Rose old new) c.in-Ok.ensures.read this)
    (answered ends log (Rose old new) c.run_seen.result c.finish.result out err
    (came_read all (told plan) plan read (OfSeen all (told log) bounds differ) (Rose mid new) (Rose old new) out c.run_seen.result
    (λ rose. rose_later old mid new c.load.ensures.never_falls rose) c.in-Ok.ensures.read came)
    c.finish.ensures.status c.finish.ensures.message)

pub returns-in-Err : goal.returns-in-Err
returns-in-Err g c =
    let files = g.F.Files in
    let all = files.tells_all in
    let told = files.told c.args.files.now in
    let plan = c.args.plan.now in
    let log = c.args.log.now in
    let fault = c.in-Err.fault in
    let failed = Rose (files.faults c.args.files.now) (files.faults c.load.new.files) in
    let out = taking g.O.Sink.taken g.O.Sink.faults c.args.out.now c.args.out.now in
    let err = taking g.E.Sink.taken g.E.Sink.faults c.args.err.now c.finish-in-Err.new.err in
    let alone = AskedOnly plan (files.asked c.args.files.now) (files.asked c.load.new.files) in
    let ends = OfPlan all (told plan) plan (OfSeen all (told log) c.args.bounds c.args.differ) in
    answered_weaker ends (OfThis plan failed) (SeenUnread all (told plan) plan log alone failed) c.finish-in-Err.result out err
    (λ name this. plan_failed all (told plan) plan log name alone failed c.load.ensures.asked this)
    (answered ends plan failed (Err fault) c.finish-in-Err.result out err
    (came_unread all (told plan) plan (OfSeen all (told log) c.args.bounds c.args.differ) failed out fault c.in-Err.ensures.unread refl)
    c.finish-in-Err.ensures.status c.finish-in-Err.ensures.message)
