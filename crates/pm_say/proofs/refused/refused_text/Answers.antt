use Rattle.std.proofs.Common.{List, ℕ, ◌∙◌, ◌++◌, ap, codes, flat_map}
use Rattle.pm_planread.specs.Messages.{refusal_text}
use Rattle.pm_messages.specs.located.Told.{told_of, token_of}
use Rattle.pm_messages.specs.declared.located.located.Located.{Located}
use Rattle.pm_say.proofs.SayLemmas.{tells_at, three_pieces}
use Rattle.pm_say.proofs.refused.refused_text.Goals as goal

pub returns : goal.returns
returns c =
    let file = c.args.file.now in
    let text = c.args.bytes.now in
    let refusal = c.args.refusal in
    let each : Located → List ℕ = λ located. told_of file text (codes "error") (token_of located) in
    let one = c.push_located.new.out.items in
    let two = c.push_each.new.out.items in
    let others = c.in_ok-others.others.items in
    tells_at file text refusal.why refusal.section refusal.item refusal.part c.in_ok-located.located others c.push.new.text.items
    c.in_ok-located.ensures c.in_ok-others.ensures.in_text c.in_ok-others.ensures.few
    (three_pieces c.new-out.result.items (each c.in_ok-located.located) (flat_map each others) (refusal_text refusal.why refusal.section refusal.item refusal.part) one two c.push.new.text.items
    c.new-out.ensures.items c.in_ok-push_located.ensures
    (c.in_ok-push_each.ensures ∙ ap (λ (all : List Located). one ++ flat_map each all) c.as_slice.ensures.value)
    (c.in_ok-push.ensures ∙ ap (λ (x : List ℕ). two ++ x) (c.as_slice-2.ensures ∙ c.refusal_message-last.ensures)))
