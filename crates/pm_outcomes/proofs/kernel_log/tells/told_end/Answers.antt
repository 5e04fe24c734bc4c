use Rattle.std.proofs.Common.{◌∙◌, ap, map}
use Rattle.std.specs.Prelude.{option_and_then}
use Rattle.pm_model.specs.NamedList.{place_named}
use Rattle.pm_outcomes.specs.kernel_log.Tells.{behind_word, told_end_of, word}
use Rattle.pm_outcomes.proofs.kernel_log.tells.told_end.Goals as goal

pub returns : goal.returns
returns c =
    let text = c.args.text.now in
    let rest = c.behind_word-rest.result.now in
    let names = map (λ row. row.name) c.args.plan.now.devices in
    c.told_end_of.ensures
    ∙ (ap (λ s. told_end_of s c.behind_word.result.now c.in_ok-device.device) c.word-2.ensures
    ∙ (ap (λ u. told_end_of (word rest) u c.in_ok-device.device) c.behind_word.ensures
    ∙ (ap (λ o. option_and_then (told_end_of (word rest) (behind_word rest)) o) (c.in_ok-device.ensures.first ∙ ap (λ w. place_named w names) c.word.ensures)
    ∙ ap (λ r. option_and_then (told_end_of (word r) (behind_word r)) (place_named (word text) names)) c.behind_word-rest.ensures)))
