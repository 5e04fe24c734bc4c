use Rattle.std.proofs.Common.{sym}
use Rattle.std.proofs.lemmas.List.{take_all}
use Rattle.pm_find.proofs.trace.texts.first.Goals as goal

pub returns-then-all-le-MOST : goal.returns-then-all-le-MOST
returns-then-all-le-MOST c = sym (take_all 200 c.args.all.now c.if-all-le-MOST.true)
