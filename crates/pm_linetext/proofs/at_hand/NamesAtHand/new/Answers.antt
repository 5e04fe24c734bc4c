-- No name of a plan is longer than what it is padded to, and the texts of actors are made of the names.
use Rattle.std.proofs.Common.{◌∙◌, [], ap, codes}
use Rattle.pm_linetext.specs.AtHand.{texts_of}
use Rattle.pm_linetext.proofs.Padding.{at_hand_fit, callers_whole, devices_whole, names_at_hand}
use Rattle.pm_linetext.proofs.at_hand.NamesAtHand.new.Goals as goal

pub invariant_of-result : goal.invariant_of-result
invariant_of-result c =
    record {
      fit = at_hand_fit c.args.plan.now _ _ (c.in_ok-devices.ensures ∙ devices_whole c.args.plan.now) (c.in_ok-callers.ensures ∙ callers_whole c.args.plan.now);
      callers_are = c.in_ok-caller_texts.ensures ∙ ap (texts_of []) c.deref.ensures.value;
      works_are = c.in_ok-work_texts.ensures ∙ ap (texts_of (codes "work.")) c.deref-2.ensures.value;
      timers_are = c.in_ok-timer_texts.ensures ∙ ap (texts_of (codes "timer.")) c.deref-3.ensures.value;
    }

pub returns : goal.returns
returns c =
    names_at_hand c.args.plan.now _ _ (c.in_ok-devices.ensures ∙ devices_whole c.args.plan.now) (c.in_ok-callers.ensures ∙ callers_whole c.args.plan.now)
