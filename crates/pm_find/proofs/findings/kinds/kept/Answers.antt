use Rattle.std.proofs.Common.{◌&&◌, ◌∙◌, Option, List, ap, nat_lt, position, slice_get, sym}
use Rattle.std.specs.Option.{option_and_then}
use Rattle.pm_find.specs.declared.findings.watched.Called.{Called}
use Rattle.pm_find.specs.declared.findings.watched.Count.{Count}
use Rattle.pm_find.specs.findings.OpenCounts.{is_of}
use Rattle.pm_find.specs.findings.StandsOut.{kept}
use Rattle.pm_find.proofs.findings.kinds.kept.Goals as goal

pub returns-in-Some : goal.returns-in-Some
returns-in-Some c =
    c.latest_since.ensures
    ∙ ap (λ (counts : List Count). option_and_then (slice_get counts) (position (λ count. is_of c.args.actor count && nat_lt c.in-Some.call.line count.line) counts)) c.counts.ensures
    ∙ ap (λ (called : Option Called). kept c.args.row.now.counts called c.args.actor) (sym c.in-Some.is)
