use Rattle.std.proofs.Common.{◌∙◌, ◌++◌, ap}
use Rattle.pm_picture.specs.events.Events.{OfProcess, process_text}
use Rattle.pm_picture.proofs.events.TimelineLemmas.{begun_either}
use Rattle.pm_picture.proofs.events.timeline.Timeline.process.Goals as goal

pub invariant_of-self-2 : goal.invariant_of-self-2
invariant_of-self-2 c =
    begun_either c.append.result c.self.inside.text.items c.append.new.text.items c.deref.result.now (OfProcess c.args.process c.args.name.now) c.self.invariant
    (c.deref.ensures.value ∙ c.in_ok-push_process.ensures ∙ ap (λ l. l ++ process_text c.args.process c.args.name.now) c.clear.ensures.items) c.append.ensures.ok c.append.ensures.err
