use Rattle.std.proofs.Common.{◌≡◌, ◌+◌, true, false, Some, drop, string_bytes, if◌then◌else◌, ap, sym, ◌∙◌}
use Rattle.std.specs.Str.{bytes_eq}
use Rattle.toml.specs.Data.{get_member}
use Rattle.toml.specs.View.{view}
use Rattle.pm_planread.specs.tree.Tree.{entries_view}
use Rattle.pm_planread.proofs.tree.TreeLemmas.{entry_in}
use Rattle.pm_planread.proofs.tree.tree.value_in.Goals as goal

pub returns-then-is_word : goal.returns-then-is_word
returns-then-is_word c =
    let entry = c.entry-item.result in
    let rest = drop (c.loop-entry.entry-index + 1) c.args.entries.now in
    let same : bytes_eq c.args.key.now (string_bytes entry.0.now) ≡ true = cc in
    sym (ap (λ b. if b then Some (view entry.1.now) else get_member c.args.key.now (entries_view rest)) same)
    ∙ sym (entry_in c.args.key.now c.args.entries.now c.loop-entry.entry-index entry c.loop-entry-test.true c.entry-item.is) ∙ c.loop-entry.invariant

pub loop-entry-preserved : goal.loop-entry-preserved
loop-entry-preserved c =
    let entry = c.entry-item.result in
    let rest = drop (c.loop-entry.entry-index + 1) c.args.entries.now in
    let other : bytes_eq c.args.key.now (string_bytes entry.0.now) ≡ false = cc in
    sym (ap (λ b. if b then Some (view entry.1.now) else get_member c.args.key.now (entries_view rest)) other)
    ∙ sym (entry_in c.args.key.now c.args.entries.now c.loop-entry.entry-index entry c.loop-entry-test.true c.entry-item.is) ∙ c.loop-entry.invariant
