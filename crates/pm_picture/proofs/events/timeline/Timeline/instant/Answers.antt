use Rattle.std.proofs.Common.{◌∙◌, ◌++◌, ap}
use Rattle.pm_picture.specs.events.Events.{OfInstant, instant_text}
use Rattle.pm_picture.proofs.events.TimelineLemmas.{begun_either}
use Rattle.pm_picture.proofs.events.timeline.Timeline.instant.Goals as goal

pub invariant_of-self-2 : goal.invariant_of-self-2
invariant_of-self-2 c =
    begun_either c.append.result c.self.inside.text.items c.append.new.text.items c.deref.result.now (OfInstant c.args.thread c.args.time c.args.line c.args.name.now) c.self.invariant
    (c.deref.ensures.value ∙ c.in_ok-push_instant.ensures ∙ ap (λ l. l ++ instant_text c.args.thread c.args.time c.args.line c.args.name.now) c.clear.ensures.items) c.append.ensures.ok c.append.ensures.err
