use Rattle.std.proofs.Common.{◌≡◌, true, false, Some, string_bytes, if◌then◌else◌, refl, ap, sym, ◌∙◌}
use Rattle.std.specs.Str.{bytes_eq}
use Rattle.toml.specs.Data.{get_member}
use Rattle.toml.specs.View.{members_view, view}
use Rattle.pm_planread.proofs.tree.TreeLemmas.{member_at}
use Rattle.pm_planread.proofs.tree.tree.member.Goals as goal

pub loop-name-init : goal.loop-name-init
loop-name-init c = rw (c.into_iter-name-iterator.ensures.into_iter_gives, c.iter-name-items.ensures.rest) refl

pub returns-then-is_word : goal.returns-then-is_word
returns-then-is_word c =
    let first = rw c.in-Some.ensures.steps at c.loop-name.invariant in
    let same : bytes_eq c.args.key.now (string_bytes c.in-Some.name.now) ≡ true = cc in
    sym (ap (λ b. if b then Some (view c.in-Some.value.now) else get_member c.args.key.now (members_view c.next.new.self)) same)
    ∙ sym (member_at c.args.key.now (c.in-Some.name.now, c.in-Some.value.now) c.next.new.self) ∙ first

pub loop-name-preserved : goal.loop-name-preserved
loop-name-preserved c =
    let first = rw c.in-Some.ensures.steps at c.loop-name.invariant in
    let other : bytes_eq c.args.key.now (string_bytes c.in-Some.name.now) ≡ false = cc in
    sym (ap (λ b. if b then Some (view c.in-Some.value.now) else get_member c.args.key.now (members_view c.next.new.self)) other)
    ∙ sym (member_at c.args.key.now (c.in-Some.name.now, c.in-Some.value.now) c.next.new.self) ∙ first
