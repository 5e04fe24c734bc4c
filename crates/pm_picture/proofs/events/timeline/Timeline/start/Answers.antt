use Rattle.std.proofs.Common.{◌∙◌, ◌++◌, ap}
use Rattle.pm_picture.specs.events.Events.{begin_text}
use Rattle.pm_picture.proofs.events.TimelineLemmas.{begun_now}
use Rattle.pm_picture.proofs.events.timeline.Timeline.start.Goals as goal

pub invariant_of-result : goal.invariant_of-result
invariant_of-result c = begun_now c.push_begin.new.text.items (c.in_ok-push_begin.ensures ∙ ap (λ l. l ++ begin_text) c.new-text.ensures.items)
