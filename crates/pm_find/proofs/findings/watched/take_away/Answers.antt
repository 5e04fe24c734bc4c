use Rattle.std.proofs.Common.{arith, refl}
use Rattle.pm_find.proofs.findings.CountLemmas.{removed}
use Rattle.pm_find.proofs.findings.watched.take_away.Goals as goal

pub returns-then-place-len : goal.returns-then-place-len
returns-then-place-len c =
    removed c.args.counts.now.items c.remove-taken.new.self.items c.len-then-place-len.result _ c.args.place c.remove-taken.result
    (omega arith) refl (omega arith) c.remove-taken.ensures.items
