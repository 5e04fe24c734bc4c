use Rattle.std.proofs.Common.{◌∙◌, List, ℕ, ap, subst, sym}
use Rattle.std.specs.String.{string_bytes}
use Rattle.toml_parser.specs.Strings.{quoted, starts_string}
use Rattle.pm_model.specs.declared.plan.Plan.{Plan}
use Rattle.pm_script.specs.Command.{command_of}
use Rattle.pm_find.proofs.trace.PlaceLemmas.{shows}
use Rattle.pm_find.proofs.trace.places.shown_at.Goals as goal

pub returns-in-Ok : goal.returns-in-Ok
returns-in-Ok c =
    shows c.args.plan.now c.args.text.now c.in-Some.rest.now c.args.at c.args.command (string_bytes c.in-Ok.word) c.in-Ok.field-0-1.now c.as_bytes.result.now
    c.in-Some.ensures.0 c.in-Some.ensures.1 (sym c.starts_string.ensures ∙ c.if-not-starts_string.false) c.in-Ok.ensures.value c.as_bytes.ensures.value (c.is_command_text.ensures c.if-is_command_text.true)
