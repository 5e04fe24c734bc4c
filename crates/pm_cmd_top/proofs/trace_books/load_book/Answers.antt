use Rattle.std.proofs.Common.{◌∙◌}
use Rattle.pm_book.specs.Takings.{TakerStandsFor}
use Rattle.pm_io.specs.Faults.{Rose}
use Rattle.pm_cmd_top.proofs.TraceLemmas.{book_loaded, book_plan, unloaded_of}
use Rattle.pm_cmd_top.proofs.trace_books.load_book.Goals as goal

pub returns-in-Ok-feed_trace-clause-unloaded : goal.returns-in-Ok-feed_trace-clause-unloaded
returns-in-Ok-feed_trace-clause-unloaded g c =
    let files = g.F.Files in
    unloaded_of TakerStandsFor files.tells_all (files.told c.args.files.now c.args.trace.now) c.args.plan c.feed_trace.new.auditor (Rose (files.faults c.args.files.now) (files.faults c.feed_trace.new.files)) c.book_of.result
    (c.feed_trace.ensures.plan ∙ c.in-Ok.ensures.plan) c.in-Ok-feed_trace.ensures.told c.book_of.ensures.refused

pub returns-in-Ok-feed_trace-clause-plan : goal.returns-in-Ok-feed_trace-clause-plan
returns-in-Ok-feed_trace-clause-plan g c =
    let files = g.F.Files in
    book_plan TakerStandsFor files.tells_all (files.told c.args.files.now c.args.trace.now) c.args.plan c.feed_trace.new.auditor c.book_of.result
    (c.feed_trace.ensures.plan ∙ c.in-Ok.ensures.plan) c.in-Ok-feed_trace.ensures.told c.book_of.ensures.loaded

pub returns-in-Ok-feed_trace-clause-loaded : goal.returns-in-Ok-feed_trace-clause-loaded
returns-in-Ok-feed_trace-clause-loaded g c =
    let files = g.F.Files in
    book_loaded TakerStandsFor files.tells_all (files.told c.args.files.now c.args.trace.now) c.args.plan c.feed_trace.new.auditor c.book_of.result
    (c.feed_trace.ensures.plan ∙ c.in-Ok.ensures.plan) c.in-Ok-feed_trace.ensures.told c.book_of.ensures.loaded
