use Rattle.std.proofs.Common.{◌∙◌, ap, map}
use Rattle.std.specs.Prelude.{option_and_then}
use Rattle.pm_model.specs.NamedList.{place_named}
use Rattle.pm_outcomes.specs.kernel_log.Tells.{behind_word, told_answer_at, told_answer_of, word}
use Rattle.pm_outcomes.proofs.kernel_log.tells.told_answer.Goals as goal

pub returns : goal.returns
returns c =
    let plan = c.args.plan.now in
    let text = c.args.text.now in
    let rest = c.behind_word-rest.result.now in
    let names = map (λ row. row.name) plan.callers in
    let caller = c.in_ok-caller.caller in
    c.told_answer_of.ensures
    ∙ (ap (λ n. told_answer_of caller n c.behind_word.result.now c.in_ok-row.row.now) c.word-2.ensures
    ∙ (ap (λ code. told_answer_of caller (word rest) code c.in_ok-row.row.now) c.behind_word.ensures
    ∙ (ap (λ row. option_and_then (told_answer_of caller (word rest) (behind_word rest)) row) c.in_ok-row.ensures
    ∙ (ap (λ o. option_and_then (told_answer_at plan (word rest) (behind_word rest)) o) (c.in_ok-caller.ensures.first ∙ ap (λ w. place_named w names) c.word.ensures)
    ∙ ap (λ r. option_and_then (told_answer_at plan (word r) (behind_word r)) (place_named (word text) names)) c.behind_word-rest.ensures))))
