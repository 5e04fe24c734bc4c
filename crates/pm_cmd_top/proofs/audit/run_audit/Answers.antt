use Rattle.std.proofs.Common.{◌≡◌, List, ℕ, refl, subst, ap}
use Rattle.std.proofs.lemmas.Result.{err_from_is_err_and}
use Rattle.std.specs.declared.option.Option.{Option}
use Rattle.pm_io.proofs.Rose.{rose_later}
use Rattle.pm_io.specs.Faults.{Rose}
use Rattle.pm_cmd_ends.specs.Coming.{Came}
use Rattle.pm_cmd_ends.specs.Ending.{taking}
use Rattle.pm_cmd_ends.proofs.CalmLemmas.{handed_on, no_plan_read, none_told}
use Rattle.pm_cmd_ends.proofs.ReadLemmas.{came_read, came_unread}
use Rattle.pm_cmd_top.specs.TraceCommands.{OfAudit}
use Rattle.pm_cmd_top.proofs.audit.run_audit.Goals as goal

pub returns-in_err-plan-clause-came : goal.returns-in_err-plan-clause-came
returns-in_err-plan-clause-came g c =
    let files = g.F.Files in
    let told = files.told c.args.files.now in
    let p = err_from_is_err_and c.from_residual.result c.from_residual.ensures.1 in
    rw (p.1, p.2)
    (came_unread files.tells_all (told c.args.plan.now) (OfAudit files.tells_all (told c.args.trace.now)) (Rose (files.faults c.args.files.now) (files.faults c.load.new.files))
    (taking g.O.Sink.taken g.O.Sink.faults c.args.out.now c.args.out.now) c.in_err-plan.field-0.0 c.in_err-plan.ensures.unread refl)

pub returns-clause-came : goal.returns-clause-came
returns-clause-came g c =
    let files = g.F.Files in
    let told = files.told c.args.files.now in
    let plan = c.in_ok-plan.plan in
    let out = taking g.O.Sink.taken g.O.Sink.faults c.args.out.now c.audit_by.new.out in
    let old = files.faults c.args.files.now in
    let mid = files.faults c.load.new.files in
    let new = files.faults c.audit_by.new.files in
    let same = ap (λ (t : List ℕ → Option (List ℕ)). t c.args.trace.now) c.load.ensures.same in
    came_read files.tells_all (told c.args.plan.now) plan (OfAudit files.tells_all (told c.args.trace.now)) (Rose mid new) (Rose old new) out c.audit_by.result
    (λ rose. rose_later old mid new c.load.ensures.never_falls rose) c.in_ok-plan.ensures.read
    (subst (λ (t : Option (List ℕ)). Came (OfAudit files.tells_all t plan) c.audit_by.result (Rose mid new) out) same c.audit_by.ensures.came)

pub returns-in_err-plan-clause-calm : goal.returns-in_err-plan-clause-calm
returns-in_err-plan-clause-calm g c =
    let faults = g.F.Files.faults in
    let p = err_from_is_err_and c.from_residual.result c.from_residual.ensures.1 in
    rw (p.1, p.2) (handed_on c.in_err-plan.field-0.0 (faults c.load.new.files ≡ faults c.args.files.now) c.in_err-plan.ensures.calm)

pub returns-in_err-plan-clause-alone : goal.returns-in_err-plan-clause-alone
returns-in_err-plan-clause-alone g c = λ none. c.load.ensures.asked (none_told _ none)

pub returns-clause-alone : goal.returns-clause-alone
returns-clause-alone g c = λ none. absurd (no_plan_read _ _ _ none c.in_ok-plan.ensures.read)
