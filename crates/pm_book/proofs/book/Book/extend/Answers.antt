use Rattle.std.proofs.Common.{◌≡◌, ◌<◌, ◌≤◌, true, arith, length, refl, reverse, subst, sym}
use Rattle.pm_base.specs.declared.limits.TheConstants.{MAX_COMMANDS}
use Rattle.pm_model.specs.declared.plan.Plan.{Plan}
use Rattle.pm_model.specs.IsPlan.{is_command}
use Rattle.pm_model.specs.Scripts.{with_command}
use Rattle.pm_book.specs.Growing.{script_of}
use Rattle.pm_book.specs.Pages.{IsKept, Pages}
use Rattle.pm_book.proofs.GrowLemmas.{kept_with, ready_with}
use Rattle.pm_book.proofs.ScriptLemmas.{as_many, few_commands, still_plan}
use Rattle.pm_book.proofs.book.Book.extend.Goals as goal

pub returns-then-script_len-ge-MAX_COMMANDS-clause-full : goal.returns-then-script_len-ge-MAX_COMMANDS-clause-full
returns-then-script_len-ge-MAX_COMMANDS-clause-full c =
    let few = few_commands c.args.self.now.plan c.args.caller in
    let len : c.script_len.result ≡ length (script_of c.args.self.now.plan.callers c.args.caller) = c.script_len.ensures in
    let many : MAX_COMMANDS ≤ c.script_len.result = c.if-script_len-ge-MAX_COMMANDS.true in
    (λ is. omega (arith, few, len, many), λ is. refl)

pub push_command-requires-clause-is_plan : goal.push_command-requires-clause-is_plan
push_command-requires-clause-is_plan c =
    let plan = c.self.inside.plan in
    let of_plan = subst (λ (p : Pages). is_command (length p.plan.devices) c.args.command ≡ true) (sym c.self.view_is) c.requires.of_plan in
    let len : c.script_len.result ≡ length (script_of c.args.self.now.plan.callers c.args.caller) = c.script_len.ensures in
    let less : c.script_len.result < MAX_COMMANDS = c.if-script_len-ge-MAX_COMMANDS.false in
    let room : length (script_of c.args.self.now.plan.callers c.args.caller) < MAX_COMMANDS = omega (arith, len, less) in
    let here = subst (λ (p : Pages). length (script_of p.plan.callers c.args.caller) < MAX_COMMANDS) (sym c.self.view_is) room in
    still_plan plan c.args.command c.args.caller here of_plan

pub refresh-requires-clause-is_of : goal.refresh-requires-clause-is_of
refresh-requires-clause-is_of c =
    let b = c.self.inside in
    let has = c.in_ok-push_command.ensures.ok in
    (ready_with b.plan c.push_command.new.plan c.args.command c.args.caller b.state b.turns b.lines.ends b.lines.limit (reverse b.lines.lines) c.self.invariant has).is_of

pub refresh-requires-clause-stand : goal.refresh-requires-clause-stand
refresh-requires-clause-stand c =
    let b = c.self.inside in
    let has = c.in_ok-push_command.ensures.ok in
    let ready = ready_with b.plan c.push_command.new.plan c.args.command c.args.caller b.state b.turns b.lines.ends b.lines.limit (reverse b.lines.lines) c.self.invariant has in
    c.all_stand_well.ensures c.push_command.new.plan (reverse b.lines.lines) b.state.world ready.lawful c.self.invariant.in_time ready.world_is

pub refresh-requires-clause-seats : goal.refresh-requires-clause-seats
refresh-requires-clause-seats c =
    let b = c.self.inside in
    let has = c.in_ok-push_command.ensures.ok in
    (ready_with b.plan c.push_command.new.plan c.args.command c.args.caller b.state b.turns b.lines.ends b.lines.limit (reverse b.lines.lines) c.self.invariant has).seats

pub refresh-requires-clause-in_range : goal.refresh-requires-clause-in_range
refresh-requires-clause-in_range c =
    let b = c.self.inside in
    let has = c.in_ok-push_command.ensures.ok in
    let within = subst (λ (p : Pages). c.args.caller < length p.plan.callers) (sym c.self.view_is) c.requires.in_range in
    let many = as_many c.args.command c.args.caller b.plan.callers in
    let still : c.args.caller < length (with_command c.args.command c.args.caller b.plan.callers) = omega (arith, many, within) in
    subst (λ (p : Plan). c.args.caller < length p.callers) (sym has.is) still

pub invariant_of-self : goal.invariant_of-self
invariant_of-self c =
    let b = c.self.inside in
    subst (λ (plan : Plan). IsKept plan b.state b.turns b.lines.ends b.lines.limit (reverse b.lines.lines)) (sym c.in_err-push_command.ensures.err) c.self.invariant

pub invariant_of-self-2 : goal.invariant_of-self-2
invariant_of-self-2 c =
    let b = c.self.inside in
    let has = c.in_ok-push_command.ensures.ok in
    kept_with b.plan c.push_command.new.plan c.args.command c.args.caller b.state b.turns c.refresh.new.self b.lines.ends b.lines.limit (reverse b.lines.lines) c.self.invariant has
    (record { asks = c.refresh.ensures.asks; right = c.refresh.ensures.right; queues = c.refresh.ensures.queues })
