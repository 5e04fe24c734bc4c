-- The front of a line's text: what stands before its event (this project's own).
use Rattle.std.specs.Prelude.{ℕ, ◌≡◌, ◌<◌, ◌^◌, ◌++◌, List, decimal}
use Rattle.pm_base.specs.declared.ActorId.{ActorId}
use Rattle.pm_model.specs.Spelling.{Names, actor_text, space}

-- a time and an actor, each with the space behind it
abbrev pub front_text : Names → ℕ → ActorId → List ℕ
front_text names time actor = decimal time ++ space ++ actor_text names actor ++ space

-- the bytes are the front of the text of some line
pub record IsFront (names : Names) (bytes : List ℕ) : Type 0 where
  pub time : ℕ
  pub actor : ActorId
  pub in_time : time < 2 ^ 63
  pub is : bytes ≡ front_text names time actor
