-- What is told of a trace (this project's own). Lists of lines have the newest line first.
use Rattle.std.specs.Prelude.{◌≡◌, ℕ, ⊤, Bool, true, Option, List}
use Rattle.pm_cmd_ends.specs.Reading.{Holds, IsTooLong}
use Rattle.pm_io.specs.declared.reading.FileFault.{FileFault}
use Rattle.pm_io.specs.declared.reading.FileFault.TheVariants as file
use Rattle.pm_model.specs.FirstBad.{StandsFor}
use Rattle.pm_model.specs.History.{History}
use Rattle.pm_model.specs.Lawful.{IsLawful}
use Rattle.pm_model.specs.NoWhy.{NoWhy}
use Rattle.pm_model.specs.Verdict.{IsVerdict, No}
use Rattle.pm_model.specs.declared.plan.Plan.{Plan}
use Rattle.pm_find.specs.trace.Texts.{Files, TellsRun, has_fault, run_found, unlawful_text}
use Rattle.pm_find.specs.declared.trace.telling.Found.{Found}

-- what is told of a run of a plan, where the files are called so: the text of its findings, and whether one of them is an error or a warning
pub record IsFound (plan : Plan) (h : History) (files : Files) (notes : Bool) (found : Found) : Type 0 where
  pub tells : TellsRun plan h files notes found.text.items
  pub stands_out_is : found.stands_out ≡ has_fault (run_found plan h)

-- what is told of a first bad line
pub record IsUnlawful (file : List ℕ) (n : ℕ) (why : NoWhy) (found : Found) : Type 0 where
  pub text_is : found.text.items ≡ unlawful_text file n why
  pub stands_out_is : found.stands_out ≡ true

-- what is told of the bytes of a trace: they have a first bad line, or they stand for a lawful list
pub data IsToldOf (plan : Plan) (files : Files) (bytes : List ℕ) (notes : Bool) (found : Found) : Type 0 where
  bad : (n : ℕ) (why : NoWhy) → IsVerdict plan bytes (No n why) → IsUnlawful files.trace n why found → IsToldOf plan files bytes notes found
  stands : (h : History) → IsLawful plan h → StandsFor plan bytes h → IsFound plan h files notes found → IsToldOf plan files bytes notes found

-- what is told of the file of a trace
pub record IsTold (all : Bool) (known : Option (List ℕ)) (plan : Plan) (files : Files) (notes : Bool) (found : Found) : Type 0 where
  pub bytes : List ℕ
  pub holds : Holds all known 67108864 bytes
  pub told : IsToldOf plan files bytes notes found

-- why nothing is told of it: it has more bytes than a trace may have, a read failed, or memory ran out
abbrev pub IsNotTold : Bool → Option (List ℕ) → Type 0 → FileFault → Type 0
IsNotTold all known Unread file.TooLong = IsTooLong all known 67108864
IsNotTold all known Unread file.Failed = Unread
IsNotTold all known Unread file.NoMemory = ⊤
