-- The text of findings (this project's own).
use Rattle.std.specs.Prelude.{ℕ, Bool, List, [], ◌∷◌, ◌++◌, Option, Some, None, ℤ, codes, decimal, map, nat_eq, slice_index_or, if◌then◌else◌}
use Rattle.std.specs.Fmt.{signed_decimal}
use Rattle.std.specs.Ordering.{int_eq}
use Rattle.pm_base.specs.declared.ActorId.{ActorId}
use Rattle.pm_base.specs.declared.DevId.{DevId}
use Rattle.pm_base.specs.declared.DomId.{DomId}
use Rattle.pm_base.specs.declared.codes.TheConstants.{EACCES, EAGAIN, EBUSY, EINPROGRESS, EINVAL, EIO, EPERM, ETIMEDOUT}
use Rattle.pm_safety.specs.declared.dependencies.bond.Bond.{Bond}
use Rattle.pm_safety.specs.declared.dependencies.bond.Bond.TheVariants as bond
use Rattle.pm_safety.specs.declared.dependencies.bond.Excuse.{Excuse}
use Rattle.pm_safety.specs.declared.dependencies.bond.Excuse.TheVariants as excuse
use Rattle.pm_model.specs.declared.event.Helper.{Helper}
use Rattle.pm_model.specs.declared.plan.Plan.{Plan}
use Rattle.pm_model.specs.Derived.{first_of}
use Rattle.pm_model.specs.Text.{names_of}
use Rattle.pm_model.specs.Spelling.{Names, actor_text, cb_word, device_name, device_part, helper_word, newline}
use Rattle.pm_find.specs.declared.findings.ending.Holder.{Holder}
use Rattle.pm_find.specs.declared.findings.ending.Holder.TheVariants as holder
use Rattle.pm_find.specs.declared.findings.Finding.{Finding}
use Rattle.pm_find.specs.declared.findings.Kind.{Kind}
use Rattle.pm_find.specs.declared.findings.Kind.TheVariants as kind
use Rattle.pm_find.specs.declared.findings.Weight.{Weight}
use Rattle.pm_find.specs.declared.findings.Weight.TheVariants as weight
use Rattle.pm_find.specs.findings.StandsOut.{weight_of}

abbrev pub weight_word : Weight → List ℕ
weight_word weight.Error = codes "error"
weight_word weight.Warning = codes "warning"
weight_word weight.Note = codes "note"

abbrev pub kind_word : Kind → List ℕ
kind_word (kind.Leak actor d h) = codes "leak"
kind_word (kind.Stolen actor d owner line) = codes "stolen"
kind_word (kind.Answer actor h d code keeps settled) = codes "answer"
kind_word (kind.Refused actor h d code) = codes "refused"
kind_word (kind.RefusedStatus actor h d code) = codes "refused status"
kind_word (kind.RefusedPut actor h d code follows) = codes "refused put"
kind_word (kind.NoCount actor h d) = codes "no count"
kind_word (kind.LeftOn d by) = codes "left on"
kind_word (kind.NeverOn actor d line) = codes "never on"
kind_word (kind.Unmarked actor h d ms delay) = codes "unmarked"
kind_word (kind.DomainOn left) = codes "left on"
kind_word (kind.Failed d cb code) = codes "failed"
kind_word (kind.Poisoned actor h d line keeps) = codes "poisoned"
kind_word (kind.Off (bond.Domain d o)) = codes "off domain"
kind_word (kind.Off (bond.Parent d p excuse)) = codes "off parent"
kind_word (kind.Off (bond.Supplier d s excuse)) = codes "off supplier"

-- the name of a code, if it has one
abbrev pub code_name : ℤ → List ℕ
code_name code =
    first_of (
    (int_eq code EPERM, codes " (EPERM)")
    ∷ (int_eq code EIO, codes " (EIO)")
    ∷ (int_eq code EAGAIN, codes " (EAGAIN)")
    ∷ (int_eq code EACCES, codes " (EACCES)")
    ∷ (int_eq code EBUSY, codes " (EBUSY)")
    ∷ (int_eq code EINVAL, codes " (EINVAL)")
    ∷ (int_eq code ETIMEDOUT, codes " (ETIMEDOUT)")
    ∷ (int_eq code EINPROGRESS, codes " (EINPROGRESS)")
    ∷ []) []

-- a code with its name
abbrev pub code_text : ℤ → List ℕ
code_text code = signed_decimal code ++ code_name code

-- a call, as in a line
abbrev pub call_text : Names → Helper → DevId → List ℕ
call_text names h d = helper_word h ++ device_part names h d

-- which call took a count
abbrev pub taken_text : Option Helper → List ℕ
taken_text (Some h) = codes " that " ++ helper_word h ++ codes " took here"
taken_text None = codes " that was taken here"

-- what holds a device that no caller holds
abbrev pub holder_text : Names → Holder → List ℕ
holder_text names holder.Forbid = codes ", held by forbid"
holder_text names holder.Delay = codes ", held by a negative autosuspend delay"
holder_text names (holder.Consumer d) = codes ", held by its consumer " ++ device_name names d.0
holder_text names (holder.Child d) = codes ", held by its child " ++ device_name names d.0
holder_text names holder.Nobody = codes ", held by no caller"

abbrev pub keeps_text : Bool → List ℕ
keeps_text keeps = if keeps then codes " and keeps its count" else []

-- the name of a domain
abbrev pub domain_name : Plan → DomId → List ℕ
domain_name plan o = slice_index_or (map (λ row. row.name) plan.domains) o.0 []

-- what excuses d from its parent or a supplier x
abbrev pub excuse_text : Names → DevId → DevId → Excuse → List ℕ
excuse_text names d x (excuse.Forced line) = codes "line " ++ decimal line ++ codes " forced the status of " ++ device_name names x.0
excuse_text names d x excuse.Disabled = device_name names x.0 ++ codes " was disabled when " ++ device_name names d.0 ++ codes " went on"
excuse_text names d x excuse.Ignored = device_name names x.0 ++ codes " ignored its children"

-- the device that keeps a domain on, if one does
abbrev pub keeper_text : Names → Option DevId → List ℕ
keeper_text names (Some d) = codes "; " ++ device_name names d.0 ++ codes " is disabled"
keeper_text names None = []

-- d is Active, and its parent or a supplier isn't
abbrev pub off_text : Names → DevId → List ℕ → DevId → Excuse → List ℕ
off_text names d bond x excuse =
    device_name names d.0 ++ codes " is active and its " ++ bond ++ codes " " ++ device_name names x.0 ++ codes " isn't: " ++ excuse_text names d x excuse

-- what is told of a bond that is off
abbrev pub bond_text : Plan → Bond → List ℕ
bond_text plan (bond.Domain d o) = device_name (names_of plan) d.0 ++ codes " is active and its domain " ++ domain_name plan o ++ codes " is off: its status is forced here"
bond_text plan (bond.Parent d p excuse) = off_text (names_of plan) d (codes "parent") p excuse
bond_text plan (bond.Supplier d s excuse) = off_text (names_of plan) d (codes "supplier") s excuse

-- what a call answers
abbrev pub answer_text : Names → ActorId → Helper → DevId → ℤ → List ℕ
answer_text names actor h d code = actor_text names actor ++ codes ": " ++ call_text names h d ++ codes " answers " ++ code_text code

abbrev pub error_text : Names → ActorId → Helper → DevId → ℤ → Bool → List ℕ
error_text names actor h d code keeps = answer_text names actor h d code ++ keeps_text keeps

-- what is told of a finding of this kind
abbrev pub kind_text : Plan → Kind → List ℕ
kind_text plan (kind.Leak actor d h) =
    let names = names_of plan in
    actor_text names actor ++ codes " never gives back the count of " ++ device_name names d.0 ++ taken_text h
kind_text plan (kind.Stolen actor d owner line) =
    let names = names_of plan in
    actor_text names actor ++ codes " puts a count of " ++ device_name names d.0 ++ codes " that " ++ actor_text names owner ++ codes " took in line " ++ decimal line
kind_text plan (kind.Answer actor h d code keeps settled) = error_text (names_of plan) actor h d code keeps
kind_text plan (kind.Refused actor h d code) = answer_text (names_of plan) actor h d code
kind_text plan (kind.RefusedStatus actor h d code) =
    answer_text (names_of plan) actor h d code ++ codes ", and the status stays"
kind_text plan (kind.RefusedPut actor h d code follows) =
    answer_text (names_of plan) actor h d code ++ codes ": there is no count to give back"
kind_text plan (kind.NoCount actor h d) =
    let names = names_of plan in
    actor_text names actor ++ codes ": " ++ call_text names h d ++ codes " answers 0 and takes no count"
kind_text plan (kind.LeftOn d by) =
    let names = names_of plan in
    device_name names d.0 ++ codes " is active at the end" ++ holder_text names by
kind_text plan (kind.NeverOn actor d line) =
    let names = names_of plan in
    actor_text names actor ++ codes " puts the count of line " ++ decimal line ++ codes ", and " ++ device_name names d.0 ++ codes " was never active in between"
kind_text plan (kind.Unmarked actor h d ms delay) =
    let names = names_of plan in
    actor_text names actor ++ codes ": " ++ call_text names h d ++ codes " comes " ++ decimal ms ++ codes " ms after it was last marked as busy, and its delay of " ++ decimal delay ++ codes " ms counts from there"
kind_text plan (kind.DomainOn left) =
    codes "domain " ++ domain_name plan left.domain ++ codes " is on at the end, and no device of it is active" ++ keeper_text (names_of plan) left.keeper
kind_text plan (kind.Failed d cb code) =
    let names = names_of plan in
    device_name names d.0 ++ codes ": the " ++ cb_word cb ++ codes " callback answers " ++ code_text code
kind_text plan (kind.Poisoned actor h d line keeps) =
    error_text (names_of plan) actor h d EINVAL keeps ++ codes ": line " ++ decimal line ++ codes " stored an error"
kind_text plan (kind.Off bond) = bond_text plan bond

-- the line of a finding in a trace that is called so: its place, its weight, its kind, what is told of it, and what is told of its place in the plan
abbrev pub finding_text : Plan → List ℕ → Finding → List ℕ → List ℕ
finding_text plan file found place =
    file ++ codes ":" ++ decimal found.line ++ codes ": " ++ weight_word (weight_of found.kind) ++ codes ": " ++ kind_word found.kind ++ codes ": " ++ kind_text plan found.kind ++ (place ++ newline)

-- so many of something, in words
abbrev pub counted_text : ℕ → List ℕ → List ℕ
counted_text n word = decimal n ++ codes " " ++ word ++ (if nat_eq n 1 then [] else codes "s")

-- the last line: how many findings there are, and in how many lines
abbrev pub count_text : ℕ → ℕ → List ℕ
count_text found lines = counted_text found (codes "finding") ++ codes " in " ++ counted_text lines (codes "line") ++ newline
