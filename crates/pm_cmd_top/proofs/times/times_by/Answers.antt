use Rattle.std.proofs.Common.{◌≡◌, ◌∙◌, ap, length, refl, subst, sym}
use Rattle.std.proofs.lemmas.Result.{err_from_is_err_and}
use Rattle.pm_io.specs.Faults.{Rose}
use Rattle.pm_model.specs.declared.plan.Plan.{Plan}
use Rattle.pm_model.specs.Lawful.{IsLawful}
use Rattle.pm_cmd_ends.specs.Coming.{Came}
use Rattle.pm_cmd_ends.specs.Ending.{taking}
use Rattle.pm_cmd_ends.proofs.CalmLemmas.{handed_on}
use Rattle.pm_cmd_top.specs.TraceCommands.{TimesEnds}
use Rattle.pm_cmd_top.proofs.TraceLemmas.{came_loaded, came_unloaded}
use Rattle.pm_cmd_top.proofs.times.times_by.Goals as goal

pub returns-in_err-followed-clause-came : goal.returns-in_err-followed-clause-came
returns-in_err-followed-clause-came g c =
    let files = g.F.Files in
    let p = err_from_is_err_and c.from_residual.result c.from_residual.ensures.1 in
    rw (p.1, p.2)
    (came_unloaded files.tells_all (files.told c.args.files.now c.args.trace.now) c.args.plan (TimesEnds c.args.plan) (Rose (files.faults c.args.files.now) (files.faults c.follow_trace.new.files))
    (taking g.O.Sink.taken g.O.Sink.faults c.args.out.now c.args.out.now) c.in_err-followed.field-0.0 c.in_err-followed.ensures.unloaded refl)

pub write_times-requires : goal.write_times-requires
write_times-requires g c =
    let its = c.in_ok-followed.ensures in
    its.same ∙ c.in-Ok.ensures.entries ∙ ap (λ (p : Plan). length p.devices) (sym its.plan)

pub returns-clause-came : goal.returns-clause-came
returns-clause-came g c =
    let files = g.F.Files in
    let its = c.in_ok-followed.ensures in
    let list = its.followed.list in
    let out = taking g.O.Sink.taken g.O.Sink.faults c.args.out.now c.write_times.new.out in
    let lawful = subst (λ (p : Plan). IsLawful p list) (sym its.plan) its.followed.loaded.lawful in
    came_loaded files.tells_all (files.told c.args.files.now c.args.trace.now) c.args.plan list (TimesEnds c.args.plan) (Rose (files.faults c.args.files.now) (files.faults c.follow_trace.new.files)) out
    c.write_times.result its.followed.loaded
    (subst (λ (q : Plan). Came (TimesEnds q list) c.write_times.result ⊥ out) its.plan (c.write_times.ensures list lawful its.followed.following.kept))

pub returns-in_err-followed-clause-calm : goal.returns-in_err-followed-clause-calm
returns-in_err-followed-clause-calm g c =
    let faults = g.F.Files.faults in
    let p = err_from_is_err_and c.from_residual.result c.from_residual.ensures.1 in
    rw (p.1, p.2) (handed_on c.in_err-followed.field-0.0 (faults c.follow_trace.new.files ≡ faults c.args.files.now) c.in_err-followed.ensures.calm)
