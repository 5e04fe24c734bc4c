-- What is written of a trace (this project's own). Lists of lines have the newest line first.
use Rattle.std.specs.Prelude.{◌≡◌, ℕ, ⊤, Bool, true, false, Option, List, reverse}
use Rattle.pm_cmd_ends.specs.Reading.{Holds, IsTooLong}
use Rattle.pm_picture.specs.events.Events.{IsTimeline}
use Rattle.pm_find.specs.trace.Texts.{unlawful_text}
use Rattle.pm_io.specs.declared.reading.FileFault.{FileFault}
use Rattle.pm_io.specs.declared.reading.FileFault.TheVariants as file
use Rattle.pm_model.specs.FirstBad.{StandsFor}
use Rattle.pm_model.specs.History.{History}
use Rattle.pm_model.specs.Lawful.{IsLawful}
use Rattle.pm_model.specs.NoWhy.{NoWhy}
use Rattle.pm_model.specs.Verdict.{IsVerdict, No}
use Rattle.pm_model.specs.declared.plan.Plan.{Plan}
use Rattle.pm_picture.specs.Calls.{IsPictureOf}
use Rattle.pm_sheet.specs.svg.Shapes.{IsPicture}
use Rattle.pm_cmd_lab.specs.declared.picture.telling.Drawn.{Drawn}

-- a timeline with --json, and else a picture, with the bars of the calls of these lines
abbrev pub IsShown : Bool → History → List ℕ → Type 0
IsShown true h text = IsTimeline text
IsShown false h text = IsPicture text × IsPictureOf (reverse h) text

-- what is written of a run of these lines
pub record IsOfRun (json : Bool) (h : History) (drawn : Drawn) : Type 0 where
  pub is_shown : IsShown json h drawn.text.items
  pub is_lawful_is : drawn.is_lawful ≡ true

-- what is told of a first bad line
pub record IsUnlawful (file : List ℕ) (n : ℕ) (why : NoWhy) (drawn : Drawn) : Type 0 where
  pub text_is : drawn.text.items ≡ unlawful_text file n why
  pub is_lawful_is : drawn.is_lawful ≡ false

-- what is written of the bytes of a trace: they have a first bad line, or they stand for a lawful list
pub data IsDrawnOf (plan : Plan) (file bytes : List ℕ) (json : Bool) (drawn : Drawn) : Type 0 where
  bad : (n : ℕ) (why : NoWhy) → IsVerdict plan bytes (No n why) → IsUnlawful file n why drawn → IsDrawnOf plan file bytes json drawn
  stands : (h : History) → IsLawful plan h → StandsFor plan bytes h → IsOfRun json h drawn → IsDrawnOf plan file bytes json drawn

-- what is written of the file of a trace
pub record IsDrawn (all : Bool) (known : Option (List ℕ)) (plan : Plan) (file : List ℕ) (json : Bool) (drawn : Drawn) : Type 0 where
  pub bytes : List ℕ
  pub holds : Holds all known 67108864 bytes
  pub drawn_of : IsDrawnOf plan file bytes json drawn

-- why nothing is written of it: it has more bytes than a trace may have, a read failed, or memory ran out
abbrev pub IsNotDrawn : Bool → Option (List ℕ) → Type 0 → FileFault → Type 0
IsNotDrawn all known Unread file.TooLong = IsTooLong all known 67108864
IsNotDrawn all known Unread file.Failed = Unread
IsNotDrawn all known Unread file.NoMemory = ⊤
