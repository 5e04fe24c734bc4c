use Rattle.std.proofs.Common.{◌≡◌, ◌-◌, ◌≤◌, length}
use denote.Text.{Utf8}
use denote.Shadow.{shadow}
use Rattle.pm_spans.specs.keys.Values.{behind_values}
use Rattle.pm_spans.proofs.keys.values.after_values.Given as goal

abbrev pub invariant-values : goal.invariant-values
invariant-values l = shadow (Utf8 l.rest) × (length l.rest ≤ length l.s) × (behind_values (l.count - l._value) l.rest ≡ behind_values l.count l.s)
