use Rattle.std.proofs.Common.{ap, sym, ◌∙◌}
use Rattle.std.specs.List.{position}
use Rattle.pm_why.specs.OpenGets.{is_for}
use Rattle.pm_why.proofs.GetLemmas.{closed_at, closed_none}
use Rattle.pm_why.proofs.gets.close_earliest.Goals as goal

pub returns-in-Some : goal.returns-in-Some
returns-in-Some c =
    c.remove-closed.ensures.items
    ∙ closed_at c.args.why c.args.gets.now.items c.in-Some.place (sym c.in-Some.is ∙ c.earliest.ensures ∙ ap (position (is_for c.args.why)) c.deref.ensures.value)

pub returns-in_default : goal.returns-in_default
returns-in_default c =
    closed_none c.args.why c.args.gets.now.items (sym c.in_default.is ∙ c.earliest.ensures ∙ ap (position (is_for c.args.why)) c.deref.ensures.value)
