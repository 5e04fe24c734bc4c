-- An event of the plan is one over its names, and a front and an event are a line's text.
use Rattle.std.proofs.Common.{◌≡◌, true, length, refl, subst, sym}
use Rattle.pm_model.specs.LineOf.{is_event_of}
use Rattle.std.proofs.lemmas.List.{append_assoc}
use Rattle.pm_linetext.proofs.Padding.{event_of_names}
use Rattle.pm_linetext.proofs.speller.LineSpeller.spell_parts.Goals as goal

pub start_line-requires : goal.start_line-requires
start_line-requires c = c.requires.in_time

pub end_line-requires-clause-front : goal.end_line-requires-clause-front
end_line-requires-clause-front c =
    record { time = c.args.time; actor = c.args.actor; in_time = c.requires.in_time; is = c.start_line.ensures }

pub end_line-requires-clause-event_of_names : goal.end_line-requires-clause-event_of_names
end_line-requires-clause-event_of_names c =
    event_of_names c.self.inside.plan.now _ c.args.event.now c.self.invariant (subst (λ plan. is_event_of (length plan.devices) c.args.event.now ≡ true) (sym c.self.view_is) c.requires.event_of_plan)

pub returns : goal.returns
returns c = rw (c.end_line.ensures, c.start_line.ensures, c.self.invariant, c.self.view_is) (simp append_assoc refl)
