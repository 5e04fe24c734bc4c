-- What is told of a plan's warnings (this project's own).
use Rattle.std.specs.Prelude.{◌≡◌, ℕ, ◌-◌, ◌≤◌, List, [], ◌++◌, codes, decimal, length, nat_eq, take, if◌then◌else◌}
use Rattle.std.specs.List.{All, concat}
use Rattle.pm_messages.specs.located.Told.{token_told}
use Rattle.pm_say.specs.declared.lints.Warning.{Warning}

-- A warning is told: the token stands in the text. Which words are said and which token is shown is left open.
pub record TellsToken (file text told : List ℕ) : Type 0 where
  pub start : ℕ
  pub stop : ℕ
  pub ordered : start ≤ stop
  pub in_text : stop ≤ length text
  pub message : List ℕ
  pub hints : List (List ℕ)
  pub is : told ≡ token_told file text start stop (codes "warning") message hints

-- one more warning is told
pub record AddsToken (file text before after : List ℕ) : Type 0 where
  pub one : List ℕ
  pub tells : TellsToken file text one
  pub is : after ≡ before ++ one

-- each warning is told, one after the other
pub record TellsEach (file text : List ℕ) (warnings : List Warning) (told : List ℕ) : Type 0 where
  pub texts : List (List ℕ)
  pub one_each : length texts ≡ length warnings
  pub each : All (TellsToken file text) texts
  pub is : told ≡ concat texts

-- how many more warnings there are, where there are any
unfoldable pub more_told : List ℕ → ℕ → List ℕ
more_told file count = if nat_eq count 0 then [] else file ++ codes ": more warnings: " ++ decimal count ++ codes "\n"

-- the first 100 warnings are told, and the others counted
pub record TellsWarnings (file text : List ℕ) (warnings : List Warning) (told : List ℕ) : Type 0 where
  pub first : List ℕ
  pub each : TellsEach file text (take 100 warnings) first
  pub is : told ≡ first ++ more_told file (length warnings - 100)
