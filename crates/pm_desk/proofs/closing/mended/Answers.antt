use Rattle.std.proofs.Common.{◌≡◌, [], subst, sym}
use Rattle.std.proofs.lemmas.Result.{IfOk-weaker}
use Rattle.pm_islands.specs.Blank.{IsBlank}
use Rattle.pm_book.specs.Turn.{HasTime}
use Rattle.pm_desk.specs.Closing.{AreAlike}
use Rattle.pm_desk.proofs.CloseLemmas.{alike_back, blank_alike}
use Rattle.pm_desk.proofs.closing.mended.Goals as goal

pub returns-clause-alike : goal.returns-clause-alike
returns-clause-alike c =
    let plan = c.args.plan.now in
    IfOk-weaker c.fresh_book.result (λ book. IsBlank plan book.plan) (λ book. AreAlike book.plan plan) (λ book is. alike_back plan book.plan (blank_alike plan book.plan is)) c.fresh_book.ensures.plan

pub returns-clause-in_time : goal.returns-clause-in_time
returns-clause-in_time c =
    IfOk-weaker c.fresh_book.result (λ book. book.lines ≡ []) (λ book. HasTime book.plan book.lines)
    (λ book none. subst (HasTime book.plan) (sym none) (c.fresh_books_have_time.ensures book.plan)) c.fresh_book.ensures.lines
