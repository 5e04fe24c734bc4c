use Rattle.std.proofs.Common.{◌≤◌, IfSome, length}
use denote.Text.{Utf8}
use denote.Shadow.{shadow}
use Rattle.pm_spans.proofs.keys.twice.earlier_cut.Given as goal

abbrev pub invariant-lines : goal.invariant-lines
invariant-lines l = shadow (Utf8 l.rest) × (length l.rest ≤ length l.text) × IfSome l.found (λ cut. cut.from ≤ length l.text)

abbrev pub decreases-lines : goal.decreases-lines
decreases-lines l = length l.rest
