use Rattle.std.proofs.Common.{◌++◌}
use Rattle.pm_module.specs.Module.{engine, head, module_text, tables}
use Rattle.pm_linetext.proofs.AppendLemmas.{from_none, more}
use Rattle.pm_module.proofs.tables.module_text.Goals as goal

pub returns : goal.returns
unfolding module_text
returns c =
    let plan = c.args.plan.now in
    let none = c.new-text.result.items in
    let first = c.push.new.text.items in
    let second = c.push_tables.new.text.items in
    let last = c.push-2.new.text.items in
    from_none none last (head ++ tables plan ++ engine) c.new-text.ensures.items
    (more none second last (head ++ tables plan) engine (more none first second head (tables plan) c.in_ok-push.ensures c.in_ok-push_tables.ensures) c.in_ok-push-2.ensures)
