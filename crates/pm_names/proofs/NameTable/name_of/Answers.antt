-- No two words are alike, so the place that is read is the only one of its word.
use Rattle.std.proofs.Common.{arith}
use Rattle.pm_names.proofs.TableLemmas.{place_of_read}
use Rattle.pm_names.proofs.NameTable.name_of.Goals as goal

pub returns-clause-back : goal.returns-clause-back
returns-clause-back g c =
    rw (← c.self.view_is) (place_of_read (λ name. name.now) c.self.inside.words.now c.args.place _ c.self.invariant.1 (omega arith))
