use Rattle.std.proofs.Common.{◌≡◌, ◌∙◌, ap, arith, refl, subst}
use Rattle.std.proofs.lemmas.Result.{err_from_is_err_and}
use Rattle.pm_base.specs.declared.DevId.{DevId}
use Rattle.pm_io.specs.Faults.{Rose}
use Rattle.pm_model.specs.declared.plan.Plan.{Plan}
use Rattle.pm_cmd_ends.specs.Coming.{Came}
use Rattle.pm_cmd_ends.specs.Ending.{taking}
use Rattle.pm_cmd_ends.proofs.CalmLemmas.{handed_on}
use Rattle.pm_cmd_top.specs.TraceCommands.{WhyEnds}
use Rattle.pm_cmd_top.proofs.TraceLemmas.{came_loaded, came_unloaded, same_device}
use Rattle.pm_cmd_top.proofs.why.why_of.Goals as goal

pub returns-in_err-followed-clause-came : goal.returns-in_err-followed-clause-came
returns-in_err-followed-clause-came g c =
    let files = g.F.Files in
    let p = err_from_is_err_and c.from_residual.result c.from_residual.ensures.1 in
    rw (p.1, p.2)
    (came_unloaded files.tells_all (files.told c.args.files.now c.args.trace.now) c.args.plan (WhyEnds c.args.plan c.args.dev) (Rose (files.faults c.args.files.now) (files.faults c.follow_trace.new.files))
    (taking g.O.Sink.taken g.O.Sink.faults c.args.out.now c.args.out.now) c.in_err-followed.field-0.0 c.in_err-followed.ensures.unloaded refl)

pub write_why-requires : goal.write_why-requires
write_why-requires g c =
    let its = c.in_ok-followed.ensures in
    let start : c.start-gets.result.dev.0 ≡ c.args.dev.0 = ap (λ (d : DevId). d.0) c.start-gets.ensures.dev in
    rw (its.plan) (omega (arith, its.same, start, c.requires))

pub returns-clause-came : goal.returns-clause-came
returns-clause-came g c =
    let files = g.F.Files in
    let its = c.in_ok-followed.ensures in
    let list = its.followed.list in
    let out = taking g.O.Sink.taken g.O.Sink.faults c.args.out.now c.write_why.new.out in
    let dev = same_device c.in_ok-followed.followed.keeper.dev c.start-gets.result.dev its.same ∙ c.start-gets.ensures.dev in
    came_loaded files.tells_all (files.told c.args.files.now c.args.trace.now) c.args.plan list (WhyEnds c.args.plan c.args.dev) (Rose (files.faults c.args.files.now) (files.faults c.follow_trace.new.files)) out
    c.write_why.result its.followed.loaded
    (subst (λ (q : Plan). Came (WhyEnds q c.args.dev list) c.write_why.result ⊥ out) its.plan
    (subst (λ (d : DevId). Came (WhyEnds c.in_ok-followed.followed.judge.plan d list) c.write_why.result ⊥ out) dev (c.write_why.ensures list its.followed.following)))

pub returns-in_err-followed-clause-calm : goal.returns-in_err-followed-clause-calm
returns-in_err-followed-clause-calm g c =
    let faults = g.F.Files.faults in
    let p = err_from_is_err_and c.from_residual.result c.from_residual.ensures.1 in
    rw (p.1, p.2) (handed_on c.in_err-followed.field-0.0 (faults c.follow_trace.new.files ≡ faults c.args.files.now) c.in_err-followed.ensures.calm)
