-- What is read has the range that it is read with.
use Rattle.std.proofs.Common.{◌≡◌, ◌∙◌, ap}
use Rattle.pm_lineread.specs.Pieces.{either_of}
use Rattle.pm_lineread.specs.Reading.{negative_at, signed_at}
use Rattle.pm_lineread.proofs.SignedLemmas.{signed_fits}
use Rattle.pm_lineread.proofs.pieces.signed.Goals as goal

pub returns-clause-fits : goal.returns-clause-fits
unfolding signed_at
returns-clause-fits c =
    let read : c.either.result ≡ signed_at c.args.half c.args.bytes.now =
    c.either.ensures ∙ (ap (λ r. either_of r c.positive.result) c.negative.ensures ∙ ap (either_of (negative_at c.args.half c.args.bytes.now)) c.positive.ensures) in
    signed_fits c.args.half c.args.bytes.now c.either.result c.requires.some c.requires.limit read
