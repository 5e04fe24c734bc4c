use Rattle.std.proofs.lemmas.Result.{err_from_is_err_and}
use Rattle.pm_cmd_lab.proofs.order.failing.told_unread.Goals as goal

pub returns-in_err-told : goal.returns-in_err-told
returns-in_err-told g c =
    let p = err_from_is_err_and c.from_residual.result c.from_residual.ensures.1 in
    rw (p.1, p.2) c.in_err-told.ensures
