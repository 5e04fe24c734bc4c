use Rattle.std.proofs.Common.{arith}
use Rattle.pm_index.proofs.WordLemmas.{first_set}
use Rattle.pm_index.proofs.words.first_of_word.Goals as goal

pub returns-clause-found : goal.returns-clause-found
returns-clause-found c =
    let first = first_set c.args.word c.args.from c.ranges.word.fits (omega arith) in
    (first.above, first.inside, first.is_set)

pub returns-clause-first : goal.returns-clause-first
returns-clause-first c =
    let first = first_set c.args.word c.args.from c.ranges.word.fits (omega arith) in
    first.first
