-- What is said of the bytes of a plan's or a driver's file (this project's own).
use Rattle.std.specs.Prelude.{◌≡◌, false, true, ℕ, ◌≤◌, ◌++◌, List, [], ◌∷◌, All, Ok, Err, codes, flat_map, length}
use Rattle.pm_driver_read.specs.Drivers.{DriverContents, driver_of}
use Rattle.pm_driver_read.specs.declared.refusal.DriverRefusal.{DriverRefusal}
use Rattle.pm_messages.specs.located.Told.{Token, token_of, told_of}
use Rattle.pm_messages.specs.declared.located.located.Located.{Located}
use Rattle.pm_say.specs.Faults.{IsIn}
use Rattle.pm_say.specs.Says.{Says}
use Rattle.pm_say.specs.declared.told.Kind.{Kind}
use Rattle.pm_say.specs.declared.told.Kind.TheVariants.{Clean, Refused, Warned}
use Rattle.pm_say.specs.declared.told.Said.{Said}
use Rattle.pm_say_driver.specs.Refused.{TellsDriver}

-- a driver of which nothing is told is clean
abbrev pub kind_told : {A : Type 0} → List A → Kind
kind_told [] = Clean
kind_told (x ∷ more) = Warned

-- what is told of these, and behind the name of the file how much it has
abbrev pub warned_told : List ℕ → List ℕ → List Located → List ℕ → List ℕ
warned_told file text all counts = flat_map (λ located. told_of file text (codes "warning") (token_of located)) all ++ file ++ counts

-- tokens of the text, with what looks wrong there, at most 100; and then a line of how much it has
pub record TellsOwn (file text : List ℕ) (said : Said) : Type 0 where
  pub warned : List Token
  pub warned_in : All (IsIn text) warned
  pub few : length warned ≤ 100
  pub kind : said.kind ≡ kind_told warned
  pub counts : List ℕ
  pub is : said.text.items ≡ flat_map (told_of file text (codes "warning")) warned ++ file ++ counts

-- a refusal is told
pub record TellsRefusal (file text : List ℕ) (r : DriverRefusal) (said : Said) : Type 0 where
  pub kind : said.kind ≡ Refused
  pub tells : TellsDriver file text r said.text.items

-- The bytes are a driver that is refused, and the refusal is told; or one that is read, and what looks wrong in it and how much it has
-- is told; or what is said of the bytes as a plan is said. Which of two readings is refused where both are, is left open.
pub data SaysFile (file text : List ℕ) (said : Said) : Type 0 where
  of_refusal : (r : DriverRefusal) → driver_of text ≡ Err r → TellsRefusal file text r said → SaysFile file text said
  of_driver : (d : DriverContents) → driver_of text ≡ Ok d → d.is_plan ≡ false → TellsOwn file text said → SaysFile file text said
  of_plan : (d : DriverContents) → driver_of text ≡ Ok d → d.is_plan ≡ true → Says file text said → SaysFile file text said
  of_other : (r : DriverRefusal) → driver_of text ≡ Err r → Says file text said → SaysFile file text said
