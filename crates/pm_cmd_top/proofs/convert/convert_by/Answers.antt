use Rattle.std.proofs.Common.{◌≡◌, refl, subst}
use Rattle.std.proofs.lemmas.Result.{err_from_is_err_and}
use Rattle.pm_io.specs.Faults.{Rose}
use Rattle.pm_model.specs.declared.plan.Plan.{Plan}
use Rattle.pm_cmd_ends.specs.Coming.{Came}
use Rattle.pm_cmd_ends.specs.Ending.{taking}
use Rattle.pm_cmd_ends.proofs.CalmLemmas.{handed_on}
use Rattle.pm_cmd_top.specs.TraceCommands.{ConvertEnds}
use Rattle.pm_cmd_top.proofs.TraceLemmas.{came_loaded, came_unloaded}
use Rattle.pm_cmd_top.proofs.convert.convert_by.Goals as goal

pub returns-in_err-book-clause-came : goal.returns-in_err-book-clause-came
returns-in_err-book-clause-came g c =
    let files = g.F.Files in
    let p = err_from_is_err_and c.from_residual.result c.from_residual.ensures.1 in
    rw (p.1, p.2)
    (came_unloaded files.tells_all (files.told c.args.files.now c.args.trace.now) c.args.plan (ConvertEnds c.args.plan) (Rose (files.faults c.args.files.now) (files.faults c.load_book.new.files))
    (taking g.O.Sink.taken g.O.Sink.faults c.args.out.now c.args.out.now) c.in_err-book.field-0.0 c.in_err-book.ensures.unloaded refl)

pub returns-clause-came : goal.returns-clause-came
returns-clause-came g c =
    let files = g.F.Files in
    let book = c.in_ok-book.book in
    let out = taking g.O.Sink.taken g.O.Sink.faults c.args.out.now c.write_converted.new.out in
    came_loaded files.tells_all (files.told c.args.files.now c.args.trace.now) c.args.plan book.lines (ConvertEnds c.args.plan) (Rose (files.faults c.args.files.now) (files.faults c.load_book.new.files)) out
    c.write_converted.result c.in_ok-book.ensures.loaded
    (subst (λ (q : Plan). Came (ConvertEnds q book.lines) c.write_converted.result ⊥ out) c.in_ok-book.ensures.plan c.write_converted.ensures)

pub returns-in_err-book-clause-calm : goal.returns-in_err-book-clause-calm
returns-in_err-book-clause-calm g c =
    let faults = g.F.Files.faults in
    let p = err_from_is_err_and c.from_residual.result c.from_residual.ensures.1 in
    rw (p.1, p.2) (handed_on c.in_err-book.field-0.0 (faults c.load_book.new.files ≡ faults c.args.files.now) c.in_err-book.ensures.calm)
