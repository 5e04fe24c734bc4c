-- What is kept beside a judge, as it takes a line.
use Rattle.std.proofs.Common.{ℕ, ◌≡◌, ◌+◌, ◌≤◌, List, ◌∷◌, Ok, length, arith}
use Rattle.pm_model.specs.declared.event.Line.{Line}
use Rattle.pm_model.specs.declared.plan.Plan.{Plan}
use Rattle.pm_model.specs.Lawful.{IsLawful, last_time}
use Rattle.pm_book.specs.Judging.{IsAnswer, JudgeStandsFor, Judged}
use Rattle.pm_audit.specs.Readings.{IsFollowing}

pub follows_on : {A : Type 0} (Keeps : A → List Line → Type 0) (plan : Plan) (judge : Judged) (old new : A) (n : ℕ) (h : List Line) (line : Line) → IsAnswer plan h line (Ok tt) → JudgeStandsFor judge (line ∷ h) → n ≡ judge.lines
    → ((g : List Line) → n ≡ length g + 1 → last_time g ≤ line.time → Keeps old g → Keeps new (line ∷ g)) → Keeps old h → IsFollowing Keeps judge new (line ∷ h)
follows_on Keeps plan judge old new n h line answer stands number keeps kept = record {
  judged = stands;
  kept = keeps h (omega (arith, number, stands.lines_are)) answer.1.in_time kept;
}
