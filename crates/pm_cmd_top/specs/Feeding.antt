-- What is known of a trace that is fed to an auditor (this project's own).
use Rattle.std.specs.Prelude.{ℕ, ◌≡◌, Bool, List, Option, length}
use Rattle.std.specs.Io.KnownBytes.{prepend_known}
use Rattle.pm_audit.specs.Auditing.{AuditorStandsFor}
use Rattle.pm_audit.specs.declared.auditor.Auditor.{Auditor}
use Rattle.pm_model.specs.declared.event.Line.{Line}
use Rattle.pm_model.specs.declared.plan.Plan.{Plan}
use Rattle.pm_model.specs.Verdict.{IsVerdict, Verdict}
use Rattle.pm_cmd_ends.specs.Reading.{Holds}

-- an auditor was fed the first bytes of a file, so many, and these are unread, where they are told
pub record IsFed {A : Type 0} (Stands : A → List Line → Type 0) (told : Option (List ℕ)) (auditor : Auditor A) (count : ℕ) (unread : Option (List ℕ)) : Type 0 where
  pub bytes : List ℕ
  pub stands : AuditorStandsFor Stands auditor bytes
  pub count_is : length bytes ≡ count
  pub known : prepend_known bytes unread ≡ told

-- it was fed the whole file
pub record IsTold {A : Type 0} (Stands : A → List Line → Type 0) (all : Bool) (told : Option (List ℕ)) (auditor : Auditor A) : Type 0 where
  pub bytes : List ℕ
  pub holds : Holds all told 67108864 bytes
  pub stands : AuditorStandsFor Stands auditor bytes

-- this is the verdict on the bytes of a file
pub record IsJudged (all : Bool) (told : Option (List ℕ)) (plan : Plan) (verdict : Verdict) : Type 0 where
  pub bytes : List ℕ
  pub holds : Holds all told 67108864 bytes
  pub is : IsVerdict plan bytes verdict
