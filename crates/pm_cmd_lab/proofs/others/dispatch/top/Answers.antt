use Rattle.std.proofs.Common.{ℕ, List, subst}
use Rattle.std.specs.Prelude.{IfSome}
use Rattle.std.specs.declared.option.Option.{Option}
use Rattle.pm_cmd_ends.specs.Ending.{taking}
use Rattle.pm_io.specs.Asks.{AskedOnly}
use Rattle.pm_io.specs.Faults.{Rose}
use Rattle.pm_cmd_lab.specs.others.Commands.{AskedEnds, AskedUnread}
use Rattle.pm_cmd_lab.specs.ends.Ending.{Answered}
use Rattle.pm_lab_words.specs.Request.{Asked}
use Rattle.pm_cmd_lab.proofs.others.dispatch.top.Goals as goal

pub returns-in-Some-clause-answer : goal.returns-in-Some-clause-answer
returns-in-Some-clause-answer g c =
    let files = g.F.Files in
    let alone : List ℕ → Type 0 = λ name. AskedOnly name (files.asked c.args.files.now) (files.asked c.answer.new.files) in
    let failed = Rose (files.faults c.args.files.now) (files.faults c.answer.new.files) in
    let out = taking g.O.Sink.taken g.O.Sink.faults c.args.out.now c.answer.new.out in
    let err = taking g.E.Sink.taken g.E.Sink.faults c.args.err.now c.answer.new.err in
    subst
    (λ (o : Option Asked). IfSome o (λ asked. Answered (AskedEnds files.tells_all (files.told c.args.files.now) asked) c.answer.result (AskedUnread files.tells_all (files.told c.args.files.now) asked alone failed) out err))
    c.in-Some.ensures c.answer.ensures
