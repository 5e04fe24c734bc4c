-- Lines to merge, and a text to cut.
use Rattle.std.specs.Prelude.{ℕ, List, [], ◌∷◌}
use Rattle.pm_base.specs.declared.ActorId.TheVariants.{Caller}
use Rattle.pm_model.specs.declared.event.Event.TheVariants as event
use Rattle.pm_model.specs.declared.event.Line.{Line}
use Rattle.pm_show_runs.specs.Refusals.{line}
use Rattle.pm_show_runs.specs.Words.{dev, text}

-- the line that a caller writes at t
abbrev pub at : ℕ → ℕ → Line
at t c = line t (Caller c) (event.Wait (dev 0))

abbrev pub three_lines : List ℕ
three_lines = text ("0 c pm_call: enable a" ∷ "0 c pm_ret: enable a 0" ∷ "0 c pm_call: get_sync a" ∷ [])

abbrev pub two_lines : List ℕ
two_lines = text ("0 c pm_call: enable a" ∷ "0 c pm_ret: enable a 0" ∷ [])
