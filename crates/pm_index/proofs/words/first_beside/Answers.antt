use Rattle.std.proofs.Common.{◌*◌, ◌+◌, ◌/◌}
use Rattle.pm_index.specs.Words.{NoBit}
use Rattle.pm_index.proofs.WordLemmas.{at_none, beside_first, beside_found, beside_none}
use Rattle.pm_index.proofs.words.first_beside.Goals as goal

pub returns-in_err-bit-clause-missing : goal.returns-in_err-bit-clause-missing
returns-in_err-bit-clause-missing c =
    at_none (NoBit c.args.words.now c.args.from (64 * (c.args.from / 64 + 1))) c.from_residual.result (beside_none c.args.words.now c.args.from c.in_err-bit.ensures.missing)

pub returns-clause-found : goal.returns-clause-found
returns-clause-found c =
    let found = c.in_ok-bit.ensures.found in
    beside_found c.args.words.now c.args.from c.in_ok-bit.bit c.requires found.0 found.1 found.2

pub returns-clause-first : goal.returns-clause-first
returns-clause-first c =
    beside_first c.args.words.now c.args.from c.in_ok-bit.bit c.in_ok-bit.ensures.found.1 c.in_ok-bit.ensures.first
