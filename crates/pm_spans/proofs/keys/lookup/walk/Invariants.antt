use Rattle.std.proofs.Common.{◌≡◌, ℕ, ◌+◌, ◌≤◌, List, length}
use denote.Text.{Utf8}
use denote.Shadow.{shadow}
use Rattle.pm_spans.specs.keys.Lines.{TextLine, first_in, standing_in, text_lines}
use Rattle.pm_spans.specs.keys.Looking.{IsSaid}
use Rattle.pm_spans.proofs.keys.lookup.walk.Given as goal

-- what is looked for stands in none of the lines before
abbrev pub invariant-lines : goal.invariant-lines
invariant-lines l =
    shadow (Utf8 l.rest) × (length l.rest ≤ length l.text) × (l.before.seen + length l.rest ≤ length l.text)
    × ((n : ℕ) × (before : List TextLine) × (length l.rest ≤ n) × (first_in l.path before (text_lines n l.rest) ≡ standing_in l.path l.text) × (IsSaid l.path before l.before))

abbrev pub decreases-lines : goal.decreases-lines
decreases-lines l = length l.rest
