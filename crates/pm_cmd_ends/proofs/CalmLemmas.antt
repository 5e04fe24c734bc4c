-- When no read failed, and when only the plan was asked for.
use Rattle.std.proofs.Common.{◌≡◌, ◌≢◌, ◌∙◌, ◌⊎◌, ℕ, Bool, List, None, Some, Ok, Err, Contains, IsErr, IsOkAnd, IsSome, ap, inl, inr, map, refl, subst, sym}
use Rattle.std.specs.Prelude.{IsErrOf, Result}
use Rattle.std.specs.declared.option.Option.{Option}
use Rattle.pm_io.specs.declared.reading.FileFault.{FileFault}
use Rattle.pm_io.specs.declared.reading.FileFault.TheVariants as file
use Rattle.pm_model.specs.declared.plan.Plan.{Plan}
use Rattle.pm_planread.specs.PlanOf.{Contents, contents_of, plan_of}
use Rattle.pm_planread.specs.declared.refusal.PlanFault.{PlanFault}
use Rattle.pm_cmd_ends.specs.Coming.{Work, file_fault, work_status}
use Rattle.pm_cmd_ends.specs.Reading.{IsRead}
use Rattle.pm_cmd_ends.specs.Told.{IsNoPlan, LacksDevice, Names}
use Rattle.pm_cmd_ends.specs.declared.ending.Fault.{Fault}
use Rattle.pm_cmd_ends.specs.declared.ending.Fault.TheVariants as fault

-- a fault that is handed on says the same of a read
pub handed_on : {A B : Type 0} (f : Fault) (S : Type 0) → (¬ IsErrOf {T = A} (Err f) fault.ReadFailed → S) → ¬ IsErrOf {T = B} (Err f) fault.ReadFailed → S
handed_on f S calm other = calm (λ is. other (let same : f ≡ fault.ReadFailed = cc in ap Err same))

-- so does that of a file
pub file_calm : {A B : Type 0} (f : FileFault) (S : Type 0) → (¬ IsErrOf {T = A} (Err f) file.Failed → S) → ¬ IsErrOf {T = B} (Err (file_fault f)) fault.ReadFailed → S
file_calm file.Failed S calm other = absurd (other refl)
file_calm file.TooLong S calm other = calm (λ is. cc)
file_calm file.NoMemory S calm other = calm (λ is. cc)

-- a status other than 4 says that no read failed
pub calm_status : (work : Work) (status : ℕ) (S : Type 0) → status ≡ work_status work → (¬ IsErrOf work fault.ReadFailed → S) → status ≢ 4 → S
calm_status (Ok done) status S is calm other = calm (λ failed. cc)
calm_status (Err (fault.Refused why section item part)) status S is calm other = calm (λ failed. cc)
calm_status (Err fault.TraceTooLong) status S is calm other = calm (λ failed. cc)
calm_status (Err fault.NoDevice) status S is calm other = calm (λ failed. cc)
calm_status (Err (fault.NotLawful line why)) status S is calm other = calm (λ failed. cc)
calm_status (Err fault.SaidNo) status S is calm other = calm (λ failed. cc)
calm_status (Err fault.ReadFailed) status S is calm other = absurd (other is)
calm_status (Err fault.WriteFailed) status S is calm other = calm (λ failed. cc)
calm_status (Err fault.AtLimit) status S is calm other = calm (λ failed. cc)
calm_status (Err fault.NoMemory) status S is calm other = calm (λ failed. cc)

-- what is told to be no plan is read as none
pub no_plan_read : (all : Bool) (told : Option (List ℕ)) (plan : Plan) → IsNoPlan told → ¬ IsRead all told plan
no_plan_read all None plan none reads = absurd none
no_plan_read all (Some bytes) plan none reads =
    let is : plan_of bytes ≡ Ok (contents_of plan) = sym (ap plan_of reads.holds.told_so) ∙ reads.is in
    let err : IsErr {T = Contents} {E = PlanFault} (Ok (contents_of plan)) = subst (λ (r : Result Contents PlanFault). IsErr r) is none in
    cc

-- nor has the plan that is read a device that is told to be lacking
lacks : (all : Bool) (told : Option (List ℕ)) (name : List ℕ) (plan : Plan) → LacksDevice told name → IsRead all told plan → ¬ Contains (map (λ row. row.name) plan.devices) name
lacks all None name plan none reads = absurd none
lacks all (Some bytes) name plan none reads =
    let is : plan_of bytes ≡ Ok (contents_of plan) = sym (ap plan_of reads.holds.told_so) ∙ reads.is in
    subst (λ (r : Result Contents PlanFault). IsOkAnd r (λ p. ¬ Names name p)) is none

-- either tells the bytes, and then no device that is read has the name
pub none_told : (told : Option (List ℕ)) → IsNoPlan told → IsSome told
none_told None none = absurd none
none_told (Some bytes) none = refl

lacking_told : (told : Option (List ℕ)) (name : List ℕ) → LacksDevice told name → IsSome told
lacking_told None name none = absurd none
lacking_told (Some bytes) name none = refl

pub cause_told : (told : Option (List ℕ)) (name : List ℕ) → IsNoPlan told ⊎ LacksDevice told name → IsSome told
cause_told told name (inl none) = none_told told none
cause_told told name (inr none) = lacking_told told name none

pub without_device : (all : Bool) (told : Option (List ℕ)) (name : List ℕ) (plan : Plan) → IsNoPlan told ⊎ LacksDevice told name → IsRead all told plan
    → ¬ Contains (map (λ row. row.name) plan.devices) name
without_device all told name plan (inl none) reads = absurd (no_plan_read all told plan none reads)
without_device all told name plan (inr none) reads = lacks all told name plan none reads
