-- What comes of a trace.
use Rattle.std.proofs.Common.{◌≡◌, ◌∙◌, ℕ, Bool, ap, List, Option, Some, Ok, Err, Contains, IfErr, IfOk, map, refl, slice_get, subst}
use Rattle.std.proofs.lemmas.List.Elements.{Contains-get_or}
use Rattle.std.proofs.lemmas.Option.{get_or_from_slice_get, slice_get_within}
use Rattle.std.specs.Prelude.{IsErrOf, Result}
use Rattle.pm_audit.specs.Auditing.{AuditorStandsFor, IsWhole, reason_of}
use Rattle.pm_audit.specs.Following.{FollowerStandsFor}
use Rattle.pm_audit.specs.Loading.{AreLoaded}
use Rattle.pm_audit.specs.declared.auditor.Auditor.{Auditor}
use Rattle.pm_audit.specs.declared.takers.Follower.{Follower}
use Rattle.pm_base.specs.declared.DevId.{DevId}
use Rattle.pm_base.specs.declared.limits.TheConstants.{TRACE_BYTES}
use Rattle.pm_book.specs.Pages.{Pages}
use Rattle.pm_io.specs.declared.reading.FileFault.{FileFault}
use Rattle.pm_io.specs.declared.reading.FileFault.TheVariants as file
use Rattle.pm_model.specs.declared.event.Line.{Line}
use Rattle.pm_model.specs.declared.plan.Plan.{Plan}
use Rattle.pm_model.specs.FirstBad.{StandsFor}
use Rattle.pm_model.specs.History.{History}
use Rattle.pm_model.specs.Lawful.{IsLawful}
use Rattle.pm_model.specs.Verdict.{No, Verdict, YesFinished, YesOpen}
use Rattle.pm_cmd_ends.specs.Coming.{Came, Work}
use Rattle.pm_cmd_ends.specs.Ending.{Done, Ending, Failed, NotLawful, SaidNo, Taking, Took, TookNothing, TookPart}
use Rattle.pm_cmd_ends.proofs.EndLemmas.{came_weaker}
use Rattle.pm_cmd_ends.specs.Promised.{KeepsPromises}
use Rattle.pm_cmd_ends.specs.Reading.{Holds, IsTooLong}
use Rattle.pm_cmd_ends.specs.Said.{finished_line, no_line, open_line, verdict_line}
use Rattle.pm_cmd_ends.specs.declared.ending.Fault.{Fault}
use Rattle.pm_cmd_ends.specs.declared.ending.Fault.TheVariants as fault
use Rattle.pm_cmd_top.specs.TraceCommands.{OfAudit, OfDevice, OfWhy, is_finished, is_open, named, verdict_work}
use Rattle.pm_cmd_top.specs.Feeding.{IsJudged, IsTold}
use Rattle.pm_cmd_top.specs.Following.{IsFollowed}
use Rattle.pm_cmd_top.specs.Traces.{IsLoaded, IsNoBook, IsTraceUnread, IsUnloaded, OfTrace, bad, stands, too_many, trace_fault}

-- a trace that isn't read whole
pub trace_not_read : (all : Bool) (told : Option (List ℕ)) (Unread : Type 0) (f : FileFault) → (f ≡ file.Failed → Unread) → (f ≡ file.TooLong → IsTooLong all told TRACE_BYTES) → IsTraceUnread all told Unread (trace_fault f)
trace_not_read all told Unread file.Failed failed long = failed refl
trace_not_read all told Unread file.TooLong failed long = long refl
trace_not_read all told Unread file.NoMemory failed long = tt

-- a fault of its file says the same of a read
pub trace_calm : {A B : Type 0} (f : FileFault) (S : Type 0) → (¬ IsErrOf {T = A} (Err f) file.Failed → S) → ¬ IsErrOf {T = B} (Err (trace_fault f)) fault.ReadFailed → S
trace_calm file.Failed S calm other = absurd (other refl)
trace_calm file.TooLong S calm other = calm (λ is. cc)
trace_calm file.NoMemory S calm other = calm (λ is. cc)

pub came_no_trace : (all : Bool) (told : Option (List ℕ)) (plan : Plan) (refuse : List ℕ → Ending) (Ends : History → Ending → Type 0) (Unread : Type 0) (out : Taking) (f : Fault) → IsTraceUnread all told Unread f → TookNothing out → Came (OfTrace all told plan refuse Ends) (Err f) Unread out
came_no_trace all told plan refuse Ends Unread out (fault.Refused why section item part) unread nothing = absurd unread
came_no_trace all told plan refuse Ends Unread out fault.TraceTooLong unread nothing = (too_many unread, nothing)
came_no_trace all told plan refuse Ends Unread out fault.NoDevice unread nothing = absurd unread
came_no_trace all told plan refuse Ends Unread out (fault.NotLawful line why) unread nothing = absurd unread
came_no_trace all told plan refuse Ends Unread out fault.SaidNo unread nothing = absurd unread
came_no_trace all told plan refuse Ends Unread out fault.ReadFailed unread nothing = (unread, nothing)
came_no_trace all told plan refuse Ends Unread out fault.WriteFailed unread nothing = absurd unread
came_no_trace all told plan refuse Ends Unread out fault.AtLimit unread nothing = absurd unread
came_no_trace all told plan refuse Ends Unread out fault.NoMemory unread nothing = nothing

abbrev pub AreKept : Type 0
AreKept = (plan : Plan) (h : History) → IsLawful plan h → KeepsPromises plan h

-- the line of a verdict was written whole
pub said : (all : Bool) (told : Option (List ℕ)) (plan : Plan) (v : Verdict) (Unread : Type 0) (out : Taking) → AreKept → IsJudged all told plan v → Took out (verdict_line v) → Came (OfAudit all told plan) (verdict_work v) Unread out
said all told plan YesFinished Unread out kept judged took =
    (finished_line, stands judged.bytes judged.holds judged.is.0 judged.is.1 judged.is.2 _ (is_finished (kept plan judged.is.0 judged.is.1) judged.is.3), took)
said all told plan YesOpen Unread out kept judged took =
    (open_line, stands judged.bytes judged.holds judged.is.0 judged.is.1 judged.is.2 _ (is_open (kept plan judged.is.0 judged.is.1) judged.is.3), took)
said all told plan (No n why) Unread out kept judged took = (no_line n why, bad judged.bytes judged.holds n why judged.is, took)

-- or a prefix of it
pub said_part : (all : Bool) (told : Option (List ℕ)) (plan : Plan) (v : Verdict) (Unread : Type 0) (out : Taking) → AreKept → IsJudged all told plan v → TookPart out (verdict_line v) → Failed out → Came (OfAudit all told plan) (Err fault.WriteFailed) Unread out
said_part all told plan YesFinished Unread out kept judged part failed =
    (Done finished_line, stands judged.bytes judged.holds judged.is.0 judged.is.1 judged.is.2 _ (is_finished (kept plan judged.is.0 judged.is.1) judged.is.3), part, failed)
said_part all told plan YesOpen Unread out kept judged part failed =
    (Done open_line, stands judged.bytes judged.holds judged.is.0 judged.is.1 judged.is.2 _ (is_open (kept plan judged.is.0 judged.is.1) judged.is.3), part, failed)
said_part all told plan (No n why) Unread out kept judged part failed = (SaidNo (no_line n why), bad judged.bytes judged.holds n why judged.is, part, failed)

-- what the auditor was fed is no book's text
no_book : (all : Bool) (told : Option (List ℕ)) (plan : Plan) (bytes : List ℕ) (Unread : Type 0) (f : Fault) → Holds all told TRACE_BYTES bytes → IsNoBook plan bytes f → IsUnloaded all told plan Unread f
no_book all told plan bytes Unread (fault.Refused why section item part) holds none = absurd none
no_book all told plan bytes Unread fault.TraceTooLong holds none = absurd none
no_book all told plan bytes Unread fault.NoDevice holds none = absurd none
no_book all told plan bytes Unread (fault.NotLawful n why) holds none = (bytes, holds, none)
no_book all told plan bytes Unread fault.SaidNo holds none = absurd none
no_book all told plan bytes Unread fault.ReadFailed holds none = absurd none
no_book all told plan bytes Unread fault.WriteFailed holds none = absurd none
no_book all told plan bytes Unread fault.AtLimit holds none = absurd none
no_book all told plan bytes Unread fault.NoMemory holds none = tt

pub unloaded_of : {A B : Type 0} (S : A → List Line → Type 0) (all : Bool) (told : Option (List ℕ)) (plan : Plan) (auditor : Auditor A) (Unread : Type 0) (r : Result B Fault) → auditor.reader.judge.plan ≡ plan → IsTold S all told auditor
    → IfErr r (λ f. (b : List ℕ) → AuditorStandsFor S auditor b → IsNoBook auditor.reader.judge.plan b f) → IfErr r (IsUnloaded all told plan Unread)
unloaded_of S all told plan auditor Unread (Ok book) same fed none = tt
unloaded_of S all told plan auditor Unread (Err f) same fed none =
    no_book all told plan fed.bytes Unread f fed.holds (subst (λ (p : Plan). IsNoBook p fed.bytes f) same (none fed.bytes fed.stands))

-- a book that was made of a trace that was read to its end: it is of the plan, and its lines are those that the trace stands for
pub book_plan : {A : Type 0} (S : A → List Line → Type 0) (all : Bool) (told : Option (List ℕ)) (plan : Plan) (auditor : Auditor A) (r : Result Pages Fault) → auditor.reader.judge.plan ≡ plan → IsTold S all told auditor
    → IfOk r (λ book. (b : List ℕ) → AuditorStandsFor S auditor b → AreLoaded auditor.reader.judge.plan b book) → IfOk r (λ book. book.plan ≡ plan)
book_plan S all told plan auditor (Err f) same fed loaded = tt
book_plan S all told plan auditor (Ok book) same fed loaded = let are = loaded fed.bytes fed.stands in are.plan_is ∙ same

pub book_loaded : {A : Type 0} (S : A → List Line → Type 0) (all : Bool) (told : Option (List ℕ)) (plan : Plan) (auditor : Auditor A) (r : Result Pages Fault) → auditor.reader.judge.plan ≡ plan → IsTold S all told auditor
    → IfOk r (λ book. (b : List ℕ) → AuditorStandsFor S auditor b → AreLoaded auditor.reader.judge.plan b book) → IfOk r (λ book. IsLoaded all told plan book.lines)
book_loaded S all told plan auditor (Err f) same fed loaded = tt
book_loaded S all told plan auditor (Ok book) same fed loaded =
    let are = loaded fed.bytes fed.stands in
    record { bytes = fed.bytes; holds = fed.holds; lawful = subst (λ (p : Plan). IsLawful p book.lines) same are.lawful; stands_for = subst (λ (p : Plan). StandsFor p fed.bytes book.lines) same are.stands }

-- a trace that stands for no list, or isn't read
pub came_unloaded : (all : Bool) (told : Option (List ℕ)) (plan : Plan) (Ends : History → Ending → Type 0) (Unread : Type 0) (out : Taking) (f : Fault) → IsUnloaded all told plan Unread f → TookNothing out → Came (OfTrace all told plan NotLawful Ends) (Err f) Unread out
came_unloaded all told plan Ends Unread out (fault.Refused why section item part) unloaded nothing = absurd unloaded
came_unloaded all told plan Ends Unread out fault.TraceTooLong unloaded nothing = (too_many unloaded, nothing)
came_unloaded all told plan Ends Unread out fault.NoDevice unloaded nothing = absurd unloaded
came_unloaded all told plan Ends Unread out (fault.NotLawful n why) unloaded nothing = (bad unloaded.0 unloaded.1 n (reason_of why) unloaded.2, nothing)
came_unloaded all told plan Ends Unread out fault.SaidNo unloaded nothing = absurd unloaded
came_unloaded all told plan Ends Unread out fault.ReadFailed unloaded nothing = (unloaded, nothing)
came_unloaded all told plan Ends Unread out fault.WriteFailed unloaded nothing = absurd unloaded
came_unloaded all told plan Ends Unread out fault.AtLimit unloaded nothing = absurd unloaded
came_unloaded all told plan Ends Unread out fault.NoMemory unloaded nothing = nothing

-- the work over the list that it stands for
pub came_loaded : (all : Bool) (told : Option (List ℕ)) (plan : Plan) (h : History) (Ends : History → Ending → Type 0) (Unread : Type 0) (out : Taking) (work : Work) → IsLoaded all told plan h → Came (Ends h) work ⊥ out → Came (OfTrace all told plan NotLawful Ends) work Unread out
came_loaded all told plan h Ends Unread out work loaded came =
    came_weaker (Ends h) (OfTrace all told plan NotLawful Ends) ⊥ Unread (λ ending ends. stands loaded.bytes loaded.holds h loaded.lawful loaded.stands_for ending ends) (λ none. absurd none) out work came

-- the work over the device that has the name
pub came_named : (all : Bool) (told : Option (List ℕ)) (name : List ℕ) (plan : Plan) (d : DevId) (Unread : Type 0) (out : Taking) (work : Work) → slice_get (map (λ row. row.name) plan.devices) d.0 ≡ Some name → Came (OfDevice all told plan d) work Unread out → Came (OfWhy all told name plan) work Unread out
came_named all told name plan d Unread out work has came =
    came_weaker (OfDevice all told plan d) (OfWhy all told name plan) Unread Unread (λ ending ends. named d has ending ends) (λ u. u) out work came

-- what stands at a place is one of the list's
pub named_here : (names : List (List ℕ)) (place : ℕ) (name : List ℕ) → slice_get names place ≡ Some name → Contains names name
named_here names place name is =
    subst (Contains names) (get_or_from_slice_get names place name name is) (Contains-get_or names place name (slice_get_within names place name is))

-- what followed the lines of the trace
pub followed_of : {K : Type 0} (Keeps : K → List Line → Type 0) (all : Bool) (told : Option (List ℕ)) (plan : Plan) (auditor : Auditor (Follower K)) (r : Result (Follower K) Fault) → auditor.reader.judge.plan ≡ plan
    → IsTold (FollowerStandsFor Keeps) all told auditor
    → IfOk r (λ f. (b : List ℕ) → AuditorStandsFor (FollowerStandsFor Keeps) auditor b → IsWhole auditor.reader.judge.plan (FollowerStandsFor Keeps f) b) → IfOk r (λ f. IsFollowed Keeps all told plan f.judge f.keeper)
followed_of Keeps all told plan auditor (Err e) same fed whole = tt
followed_of Keeps all told plan auditor (Ok f) same fed whole =
    let its = whole fed.bytes fed.stands in
    record {
      list = its.list;
      loaded = record {
        bytes = fed.bytes;
        holds = fed.holds;
        lawful = subst (λ (p : Plan). IsLawful p its.list) same its.lawful;
        stands_for = subst (λ (p : Plan). StandsFor p fed.bytes its.list) same its.stands;
      };
      following = its.taken;
    }

pub same_device : (d e : DevId) → d.0 ≡ e.0 → d ≡ e
same_device d e same = ap (λ (n : ℕ). let x : DevId = record { 0 = n } in x) same
