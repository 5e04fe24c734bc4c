use Rattle.std.proofs.Common.{refl}
use Rattle.std.proofs.lemmas.Result.{err_from_is_err_and}
use Rattle.pm_account.specs.AllKept.{account_of}
use Rattle.pm_account.specs.Texts.{account_text}
use Rattle.pm_model.specs.Text.{names_of}
use Rattle.pm_cmd_ends.specs.Ending.{taking}
use Rattle.pm_cmd_ends.proofs.EndLemmas.{done_part, wrote_all}
use Rattle.pm_cmd_top.specs.TraceCommands.{TimesEnds}
use Rattle.pm_cmd_top.proofs.WriteLemmas.{same_account, times_ends}
use Rattle.pm_cmd_top.proofs.times.write_times.Goals as goal

pub returns-in_err-write_account : goal.returns-in_err-write_account
returns-in_err-write_account g c = λ h lawful times.
    let p = err_from_is_err_and c.from_residual.result c.from_residual.ensures.1 in
    let f = c.args.followed.now in
    let plan = f.judge.plan in
    let shown = c.plan.result.now in
    let account = account_of f.keeper in
    done_part (TimesEnds plan h) ⊥ c.from_residual.result p.0 (account_text (names_of plan) account) (account_text (names_of shown) account)
    (taking g.O.Sink.taken g.O.Sink.faults c.args.out.now c.write_account.new.out) p.1 p.2 (same_account shown plan account account c.plan.ensures refl)
    (times_ends plan h account lawful (c.stays_are_account.ensures plan h f.keeper times c.requires) c.times_add_up.ensures)
    c.in_err-write_account.ensures.prefix c.in_err-write_account.ensures.failed

pub returns : goal.returns
returns g c = λ h lawful times.
    let f = c.args.followed.now in
    let plan = f.judge.plan in
    let shown = c.plan.result.now in
    let account = account_of f.keeper in (
      account_text (names_of plan) account,
      times_ends plan h account lawful (c.stays_are_account.ensures plan h f.keeper times c.requires) c.times_add_up.ensures,
      wrote_all (account_text (names_of plan) account) (account_text (names_of shown) account) (taking g.O.Sink.taken g.O.Sink.faults c.args.out.now c.write_account.new.out)
          (same_account shown plan account account c.plan.ensures refl) c.in_ok-write_account.ensures.text,
    )
