-- What is told of a plan that is refused (this project's own).
use Rattle.std.specs.Prelude.{◌≡◌, ℕ, ◌≤◌, List, ◌++◌, All, codes, flat_map, length}
use Rattle.pm_planread.specs.Messages.{fault_text}
use Rattle.pm_planread.specs.declared.refusal.PlanFault.{PlanFault}
use Rattle.pm_messages.specs.located.Told.{Token, told_of}

-- the token stands in the text
pub record IsIn (text : List ℕ) (token : Token) : Type 0 where
  pub ordered : token.start ≤ token.stop
  pub within : token.stop ≤ length text

-- The fault is told: a token of the text that is its own, at most 19 that are of other refusals, and as the last line the fault's own
-- message. Which words are said, which tokens are shown and which other refusals are told is left open.
pub record Tells (file text : List ℕ) (fault : PlanFault) (told : List ℕ) : Type 0 where
  pub first : Token
  pub first_in : IsIn text first
  pub others : List Token
  pub others_in : All (IsIn text) others
  pub few : length others ≤ 19
  pub is : told ≡ told_of file text (codes "error") first ++ flat_map (told_of file text (codes "error")) others ++ fault_text fault
