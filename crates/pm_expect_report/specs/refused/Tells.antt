-- What is told of a file of expectations that is refused (this project's own).
use Rattle.std.specs.Prelude.{◌≡◌, ⊤, ℕ, ◌≤◌, List, Err, codes, length}
use Rattle.pm_expect.specs.Expected.{expected_in}
use Rattle.pm_expect.specs.declared.refusal.Refusal.{Refusal}
use Rattle.pm_model.specs.declared.plan.Plan.{Plan}
use Rattle.pm_messages.specs.located.Told.{Token, told_of}
use Rattle.pm_expect_report.specs.refused.Words.{IsMessage}
use Rattle.pm_expect_report.specs.declared.refused.told.Unread.{Unread}
use Rattle.pm_expect_report.specs.declared.refused.told.Unread.TheVariants as unread

-- A refusal is told: a token of the text with the refusal's message, and the line on which it stands. Which token is shown, and which
-- lines help, is left open.
pub record Tells (file text : List ℕ) (refusal : Refusal) (told : List ℕ) : Type 0 where
  pub token : Token
  pub ordered : token.start ≤ token.stop
  pub within : token.stop ≤ length text
  pub message : IsMessage refusal.section refusal.item refusal.why token.message
  pub is : told ≡ told_of file text (codes "error") token

-- the bytes are refused, and the refusal is told; or memory ran out, which says nothing of them
abbrev pub IsUnread : Plan → List ℕ → List ℕ → Unread → Type 0
IsUnread plan file text (unread.Refused told) = (refusal : Refusal) × (expected_in plan text ≡ Err refusal) × Tells file text refusal told.items
IsUnread plan file text unread.NoMemory = ⊤
