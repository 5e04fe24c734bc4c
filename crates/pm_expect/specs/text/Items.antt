-- What is told of each expectation (this project's own).
use Rattle.std.specs.Prelude.{ℕ, ℤ, Bool, true, false, List}
use Rattle.std.specs.List.{list_any}
use Rattle.pm_expect.specs.declared.expectation.Answer.{Answer}
use Rattle.pm_expect.specs.declared.expectation.End.{End}
use Rattle.pm_expect.specs.declared.expectation.Use.{Use}
use Rattle.pm_expect.specs.declared.verdicts.verdict.Judged.{Judged}
use Rattle.pm_expect.specs.declared.verdicts.verdict.Leaves.{Leaves}
use Rattle.pm_expect.specs.declared.verdicts.verdict.Verdict.{Verdict}
use Rattle.pm_expect.specs.declared.verdicts.verdict.Verdict.TheVariants as verdict
use Rattle.pm_model.specs.Spelling.{Names}
use Rattle.pm_expect.specs.declared.verdicts.verdict.Lack.{Lack}
use Rattle.pm_expect.specs.text.Names.{answer_name, answer_told, end_name, end_told, use_name, use_told}
use Rattle.pm_expect.specs.declared.text.items.Item.{Item}
use Rattle.pm_expect.specs.declared.text.items.Outcome.{Outcome}
use Rattle.pm_expect.specs.declared.text.items.Outcome.TheVariants as outcome

abbrev pub outcome_of : {T : Type 0} → (T → List ℕ) → Verdict T → Outcome
outcome_of told_of verdict.Holds = outcome.Held
outcome_of told_of verdict.Open = outcome.Skipped
outcome_of told_of (verdict.Fails line told) = outcome.Broke line (told_of told)

abbrev pub answer_item : Names → Judged Answer ℤ → Item
answer_item names j = record { name = answer_name names j.expected; outcome = outcome_of (answer_told names j.expected) j.verdict }

abbrev pub end_item : Names → Judged End Leaves → Item
end_item names j = record { name = end_name names j.expected; outcome = outcome_of (end_told names j.expected) j.verdict }

abbrev pub use_item : Names → Judged Use Lack → Item
use_item names j = record { name = use_name names j.expected; outcome = outcome_of (use_told names j.expected) j.verdict }

abbrev pub is_broken : Outcome → Bool
is_broken (outcome.Broke line told) = true
is_broken _ = false

-- one of them fails
abbrev pub has_failed : List Item → Bool
has_failed items = list_any (λ item. is_broken item.outcome) items
