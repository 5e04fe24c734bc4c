use Rattle.std.proofs.Common.{map}
use Rattle.std.proofs.lemmas.Result.{err_from_is_err_and}
use Rattle.pm_planread.proofs.ScriptLemmas.{script_is_bad}
use Rattle.pm_planread.proofs.scripts.callers_in.Goals as goal

pub returns-in_err-caller_row-clause-fault : goal.returns-in_err-caller_row-clause-fault
returns-in_err-caller_row-clause-fault c =
    let p = err_from_is_err_and c.from_residual-in_err-caller_row.result c.from_residual-in_err-caller_row.ensures.1 in
    rw (p.1, p.2)
    (script_is_bad (map (λ row. row.name) c.args.devices.now) c.args.rows.now c.loop-i.i c.index-rows-i.result c.in_err-caller_row.field-0.0
    c.loop-i-test.true c.index-rows-i.is c.loop-i.invariant.first c.in_err-caller_row.ensures.fault)
