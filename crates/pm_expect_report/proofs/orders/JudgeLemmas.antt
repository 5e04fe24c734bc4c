-- Expectations are judged one after the other.
use Rattle.std.proofs.Common.{◌≡◌, ◌<◌, ◌+◌, ◌++◌, ◌∷◌, [], ℕ, List, All, map, length, take, get_or, sym, ap, ◌∙◌}
use Rattle.std.proofs.lemmas.List.{map-append, take_more}
use Rattle.std.proofs.lemmas.List.Elements.{All-push, All-same}
use Rattle.pm_expect_report.specs.broken.Found.{IsFirstOf}
use Rattle.pm_expect_report.specs.declared.broken.expectation.Expectation.{Expectation}
use Rattle.pm_expect_report.specs.trace.Plain.{IsLineOf}
use Rattle.pm_expect_report.specs.orders.Judged.{HasLine, IsJudgedFirst, what_of}
use Rattle.pm_expect_report.specs.declared.orders.judging.Judged.{Judged}
use Rattle.pm_model.specs.declared.plan.Plan.{Plan}
use Rattle.pm_explore.specs.schedule.Snapshots.{Snapshot}

-- one more of them
pub each_more : (old new : List Judged) (j : Judged) (each : List Expectation) (n : ℕ) (d : Expectation) → n < length each → j.expectation ≡ get_or each n d → map what_of old ≡ take n each → new ≡ old ++ j ∷ [] → map what_of new ≡ take (n + 1) each
each_more old new j each n d lt same was is =
    ap (map what_of) is ∙ map-append what_of old (j ∷ []) ∙ ap (λ l. l ++ j.expectation ∷ []) was ∙ ap (λ y. take n each ++ y ∷ []) same ∙ sym (take_more each n d lt)

pub firsts_more : (plan : Plan) (snapshots : List Snapshot) (rounds : List ℕ) (old new : List Judged) (j : Judged) → All (IsJudgedFirst plan snapshots rounds) old → IsFirstOf plan j.expectation snapshots rounds j.broken → new ≡ old ++ j ∷ [] → All (IsJudgedFirst plan snapshots rounds) new
firsts_more plan snapshots rounds old new j all one is =
    All-same (IsJudgedFirst plan snapshots rounds) new (old ++ j ∷ []) is (All-push (IsJudgedFirst plan snapshots rounds) old j all one)

pub lines_more : (text : List ℕ) (old new : List Judged) (j : Judged) → All (HasLine text) old → IsLineOf text j.line → new ≡ old ++ j ∷ [] → All (HasLine text) new
lines_more text old new j all one is = All-same (HasLine text) new (old ++ j ∷ []) is (All-push (HasLine text) old j all one)
