use Rattle.std.proofs.Common.{◌∙◌, ◌++◌, ap}
use Rattle.pm_picture.specs.events.Events.{OfBar, bar_text}
use Rattle.pm_picture.proofs.events.TimelineLemmas.{begun_either}
use Rattle.pm_picture.proofs.events.timeline.Timeline.bar.Goals as goal

pub invariant_of-self-2 : goal.invariant_of-self-2
invariant_of-self-2 c =
    begun_either c.append.result c.self.inside.text.items c.append.new.text.items c.deref.result.now (OfBar c.args.bar.now c.args.name.now) c.self.invariant
    (c.deref.ensures.value ∙ c.in_ok-push_bar.ensures ∙ ap (λ l. l ++ bar_text c.args.bar.now c.args.name.now) c.clear.ensures.items) c.append.ensures.ok c.append.ensures.err
