use Rattle.pm_picture.specs.events.Events.{bar_text}
use Rattle.pm_picture.proofs.events.TimelineLemmas.{behind, last}
use Rattle.pm_picture.proofs.events.events.push_bar.Goals as goal

pub returns : goal.returns
unfolding bar_text
returns c = last c.push.result c.args.text.now.items c.push_field-5.new.text.items c.push.new.text.items _ _ (behind c.args.text.now.items c.push_named.new.text.items c.push_field-5.new.text.items _ _ (behind c.args.text.now.items c.push_field-4.new.text.items c.push_named.new.text.items _ _ (behind c.args.text.now.items c.push_field-3.new.text.items c.push_field-4.new.text.items _ _ (behind c.args.text.now.items c.push_field-2.new.text.items c.push_field-3.new.text.items _ _ (behind c.args.text.now.items c.push_field.new.text.items c.push_field-2.new.text.items _ _ c.in_ok-push_field.ensures c.in_ok-push_field-2.ensures) c.in_ok-push_field-3.ensures) c.in_ok-push_field-4.ensures) c.in_ok-push_named.ensures) c.in_ok-push_field-5.ensures) c.push.ensures
