use Rattle.std.proofs.Common.{arith}
use Rattle.toml.specs.Data.{get_member}
use Rattle.toml.specs.View.{table_view, view}
use Rattle.pm_expect.proofs.ItemLemmas.{section_long, section_short}
use Rattle.pm_expect.specs.Words.{section_word}
use Rattle.pm_expect.proofs.tree.items_in.Goals as goal

pub returns-then-len-gt-MAX_TABLES : goal.returns-then-len-gt-MAX_TABLES
returns-then-len-gt-MAX_TABLES c =
    section_long (get_member (section_word c.args.section) (table_view c.args.tree.now)) (view c.in-Some.value.now) c.in-Some-as_array.items.now.items
    (rw c.word.ensures at c.in-Some.ensures) c.in-Some-as_array.ensures (omega arith)

pub returns : goal.returns
returns c =
    section_short (get_member (section_word c.args.section) (table_view c.args.tree.now)) (view c.in-Some.value.now) c.in-Some-as_array.items.now.items c.as_slice.result.now
    (rw c.word.ensures at c.in-Some.ensures) c.in-Some-as_array.ensures (omega arith) c.as_slice.ensures.value
