use Rattle.std.proofs.Common.{◌∙◌, Ok, ap, sym}
use Rattle.pm_find.proofs.trace.places.is_command_text.Goals as goal

pub returns-in-Ok : goal.returns-in-Ok
returns-in-Ok c = λ same. sym c.in-Ok.ensures.command ∙ ap (λ x. Ok x) (c.is_same_command.ensures.0 same)
