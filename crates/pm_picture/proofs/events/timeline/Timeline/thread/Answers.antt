use Rattle.std.proofs.Common.{◌∙◌, ◌++◌, ap}
use Rattle.pm_picture.specs.events.Events.{OfThread, thread_text}
use Rattle.pm_picture.proofs.events.TimelineLemmas.{begun_either}
use Rattle.pm_picture.proofs.events.timeline.Timeline.thread.Goals as goal

pub invariant_of-self-2 : goal.invariant_of-self-2
invariant_of-self-2 c =
    begun_either c.append.result c.self.inside.text.items c.append.new.text.items c.deref.result.now (OfThread c.args.thread c.args.name.now) c.self.invariant
    (c.deref.ensures.value ∙ c.in_ok-push_thread.ensures ∙ ap (λ l. l ++ thread_text c.args.thread c.args.name.now) c.clear.ensures.items) c.append.ensures.ok c.append.ensures.err
