use Rattle.std.proofs.Common.{◌≡◌, ◌∙◌, refl, sym}
use Rattle.std.proofs.lemmas.Bool.{false≢true}
use Rattle.pm_book.specs.Turn.{HasTime}
use Rattle.pm_cmd_top.proofs.ComesLemmas.{kept_nothing, kept_whole}
use Rattle.pm_cmd_top.proofs.books.mended.Goals as goal
use Rattle.pm_cmd_top.proofs.books.mended.Goals.{else-same-via-then-same+else-has_time, else-same-via-else-same}

pub returns-then-has_time-clause-keeps : goal.returns-then-has_time-clause-keeps
returns-then-has_time-clause-keeps c = kept_whole c.args.plan c.args.book (sym c.plan.ensures ∙ c.if-same.ensures.0 refl) (c.if-has_time.ensures.0 refl)

pub returns-clause-keeps : goal.returns-clause-keeps
returns-clause-keeps c =
    let bad : ¬ ((c.args.book.plan ≡ c.args.plan) × HasTime c.args.book.plan c.args.book.lines) = λ both. elim c.else-same.branch [ else-same-via-then-same+else-has_time w ↦ false≢true (w.if-has_time.ensures.1 both.1) | else-same-via-else-same w ↦ false≢true (w.if-same.ensures.1 (c.plan.ensures ∙ both.0)) ] in
    kept_nothing c.args.plan c.args.book c.fresh.result c.fresh.ensures.lines bad
