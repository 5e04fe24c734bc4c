use Rattle.std.proofs.Common.{ℕ, List, ◌++◌, ap, ◌∙◌}
use Rattle.pm_spans.specs.source.Excerpts.{hint_text}
use Rattle.pm_messages.proofs.located.ToldLemmas.{hint_told, hints_told}
use Rattle.pm_messages.proofs.located.told.push_hints.Goals as goal

pub loop-hint-preserved : goal.loop-hint-preserved
loop-hint-preserved c =
    let text = c.args.bytes.now in
    let out = c.loop-hint.out.items in
    hint_told text c.args.at _ out _ c.args.hints.now c.loop-hint.hint-index c.hint-item.result c.loop-hint-test.true c.hint-item.is c.loop-hint.invariant
    (c.in_ok-push_hint.ensures ∙ ap (λ (x : List ℕ). out ++ hint_text text c.args.at x) c.as_bytes.ensures.value)

pub returns : goal.returns
returns c =
    hints_told c.args.bytes.now c.args.at _ c.loop-hint.out.items c.args.hints.now c.loop-hint.hint-index c.loop-hint-test.false c.loop-hint.invariant
