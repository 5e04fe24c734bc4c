use Rattle.pm_picture.specs.events.Events.{process_text}
use Rattle.pm_picture.proofs.events.TimelineLemmas.{behind, last}
use Rattle.pm_picture.proofs.events.events.push_process.Goals as goal

pub returns : goal.returns
unfolding process_text
returns c = last c.push.result c.args.text.now.items c.push_named.new.text.items c.push.new.text.items _ _ (behind c.args.text.now.items c.push_field.new.text.items c.push_named.new.text.items _ _ c.in_ok-push_field.ensures c.in_ok-push_named.ensures) c.push.ensures
