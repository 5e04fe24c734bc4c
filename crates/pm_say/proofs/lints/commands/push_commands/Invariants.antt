use Rattle.std.proofs.Common.{◌≡◌, ◌++◌, take}
use Rattle.pm_say.proofs.lints.RowLemmas.{said_from}
use Rattle.pm_say.specs.lints.Marks.{AreLit}
use Rattle.pm_say.specs.lints.Warnings.{of_command, of_rows}
use Rattle.pm_say.proofs.lints.commands.push_commands.Given as goal

-- what is said so far, and what is left to say; and the domains that are on
abbrev pub invariant-loop-place : goal.invariant-loop-place
invariant-loop-place l = record {
  said : l.out.items ++ said_from (of_command l.plan l.caller l.script) l.place l.script ≡ l.fn.out.items ++ of_rows (of_command l.plan l.caller l.script) l.script;
  lit : AreLit l.plan (take l.place l.script) l.on.items;
}
