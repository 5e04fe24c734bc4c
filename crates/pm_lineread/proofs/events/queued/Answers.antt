-- The words, one after another.
use Rattle.std.proofs.Common.{refl}
use Rattle.pm_lineread.specs.Reading.{queued_at}
use Rattle.pm_lineread.proofs.events.queued.Goals as goal

pub returns : goal.returns
unfolding queued_at
returns c = rw (c.either.ensures, c.word-4.ensures, c.either-request-2.ensures, c.word-3.ensures, c.either-request.ensures, c.word-2.ensures, c.word.ensures) refl
