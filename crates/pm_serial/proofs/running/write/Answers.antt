use Rattle.std.proofs.Common.{ap, rules, sym}
use Rattle.pm_book.specs.Pages.{Pages}
use Rattle.pm_book.proofs.TurnLemmas.{end_behind, runs_behind, step_alone}
use Rattle.pm_serial.proofs.WholeLemmas.{goes_nowhere}
use Rattle.pm_serial.proofs.running.write.Goals as goal

pub end_callback-requires-clause-running : goal.end_callback-requires-clause-running
end_callback-requires-clause-running c =
    runs_behind c.args.book.now c.step.new.self c.args.actor c.args.now c.in_ok-step.step c.requires.room c.in_ok-step.ensures.answer (sym c.if-says_running.ensures)
    c.in_ok-step.ensures.stays

pub returns-then-says_running-clause-ok : goal.returns-then-says_running-clause-ok
returns-then-says_running-clause-ok c =
    end_behind c.args.book.now c.step.new.self c.end_callback.new.self c.args.actor c.args.now c.in_ok-step.step c.end_callback.result c.requires.turn c.requires.room c.requires.in_time
    c.in_ok-step.ensures.answer (sym c.if-says_running.ensures) c.in_ok-step.ensures.stays c.end_callback.ensures.answer c.end_callback.ensures.writes

pub returns-else-says_running-clause-ok : goal.returns-else-says_running-clause-ok
returns-else-says_running-clause-ok c =
    step_alone c.args.book.now c.step.new.self c.args.actor c.args.now c.in_ok-step.step c.requires.turn c.requires.room c.requires.in_time c.in_ok-step.ensures.answer
    (sym c.if-says_running.ensures) c.in_ok-step.ensures.writes

pub returns-in_err-step-clause-err : goal.returns-in_err-step-clause-err
returns-in_err-step-clause-err c =
    let same =
    goes_nowhere c.args.book.now c.step.new.self c.requires.in_time (ap (λ (p : Pages). p.plan) c.in_err-step.ensures.err) (ap (λ (p : Pages). p.lines) c.in_err-step.ensures.err) in
    search (rules, same)
