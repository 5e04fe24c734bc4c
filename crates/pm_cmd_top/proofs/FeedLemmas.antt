-- What comes of a trace that is fed to an auditor.
use Rattle.std.proofs.Common.{◌≡◌, ◌∙◌, ℕ, ◌+◌, ◌<◌, ◌≤◌, List, [], ◌++◌, Option, None, Some, IfSome, length, take, refl, ap, arith, subst, sym, append-nil, length-append, length-take}
use Rattle.std.specs.Prelude.{◌↔◌, Bool, IsSome, IsTrue}
use Rattle.std.specs.Io.KnownBytes.{prepend_known}
use Rattle.pm_audit.specs.Auditing.{AuditorStandsFor}
use Rattle.pm_audit.specs.declared.auditor.Auditor.{Auditor}
use Rattle.pm_base.specs.declared.limits.TheConstants.{TRACE_BYTES}
use Rattle.pm_io.proofs.Unread.{prepend_known_append}
use Rattle.pm_model.specs.declared.event.Line.{Line}
use Rattle.pm_model.specs.declared.plan.Plan.{Plan}
use Rattle.pm_model.specs.Verdict.{IsVerdict, Verdict}
use Rattle.pm_cmd_ends.specs.Reading.{IsTooLong}
use Rattle.pm_cmd_top.specs.Feeding.{IsFed, IsJudged, IsTold}

-- an auditor that was fed one piece more
pub fed_more : {A : Type 0} (S : A → List Line → Type 0) (told : Option (List ℕ)) (old new : Auditor A) (count n : ℕ) (buf piece : List ℕ) (before after : Option (List ℕ))
    → ((b : List ℕ) → AuditorStandsFor S old b → AuditorStandsFor S new (b ++ piece)) → piece ≡ take n buf → n ≤ length buf → before ≡ prepend_known (take n buf) after
    → IsFed S told old count before → IsFed S told new (count + n) after
fed_more S told old new count n buf piece before after stands is within moved fed =
    let long : length piece ≡ n = grind (arith, ap length is, length-take, within) in
    record {
      bytes = fed.bytes ++ piece;
      stands = stands fed.bytes fed.stands;
      count_is = omega (arith, length-append fed.bytes piece, fed.count_is, long);
      known = sym (prepend_known_append after fed.bytes piece) ∙ ap (λ p. prepend_known fed.bytes (prepend_known p after)) is ∙ ap (prepend_known fed.bytes) (sym moved) ∙ fed.known;
    }

-- before the first piece
pub fed_nothing : {A : Type 0} (S : A → List Line → Type 0) (told unread : Option (List ℕ)) (auditor : Auditor A) → AuditorStandsFor S auditor [] → unread ≡ told → IsFed S told auditor 0 unread
fed_nothing S None unread auditor stands is = record { bytes = []; stands = stands; count_is = refl; known = rw is refl }
fed_nothing S (Some bytes) unread auditor stands is = record { bytes = []; stands = stands; count_is = refl; known = rw is refl }

-- at the file's end
told_all : (told unread : Option (List ℕ)) (bytes : List ℕ) → prepend_known bytes unread ≡ told → IfSome unread (λ more. more ≡ []) → IfSome told (λ known. bytes ≡ known)
told_all told None bytes known none = subst (λ (t : Option (List ℕ)). IfSome t (λ k. bytes ≡ k)) known tt
told_all told (Some more) bytes known none =
    subst (λ (t : Option (List ℕ)). IfSome t (λ k. bytes ≡ k)) known (sym (append-nil bytes) ∙ ap (λ m. bytes ++ m) (sym none))

pub fed_all : {A : Type 0} (S : A → List Line → Type 0) (all : Bool) (told : Option (List ℕ)) (auditor : Auditor A) (count : ℕ) (unread : Option (List ℕ)) → count ≤ TRACE_BYTES → IfSome unread (λ more. more ≡ []) → (IsTrue all → IsSome told)
    → IsFed S told auditor count unread → IsTold S all told auditor
fed_all S all told auditor count unread few none there fed = record {
  bytes = fed.bytes;
  holds = record { told_so = told_all told unread fed.bytes fed.known none; is_there = there; within = omega (arith, few, fed.count_is) };
  stands = fed.stands;
}

-- what is unread behind an empty piece
pub none_unread : (n : ℕ) (buf : List ℕ) (before after : Option (List ℕ)) → before ≡ prepend_known (take n buf) after → IfSome before (λ bytes. (n ≡ 0) ↔ (bytes ≡ [])) → n ≡ 0 → IfSome after (λ more. more ≡ [])
none_unread n buf before None moved ends is = tt
none_unread n buf before (Some more) moved ends is =
    let empty : (n ≡ 0) ↔ (take n buf ++ more ≡ []) = subst (λ (o : Option (List ℕ)). IfSome o (λ bytes. (n ≡ 0) ↔ (bytes ≡ []))) moved ends in
    let front : take n buf ≡ [] = ap (λ (m : ℕ). take m buf) is in
    ap (λ (f : List ℕ). f ++ more) (sym front) ∙ empty.0 is

-- one byte more than a trace may have was read
longer : (told unread : Option (List ℕ)) (bytes : List ℕ) (limit : ℕ) → prepend_known bytes unread ≡ told → limit < length bytes → IfSome told (λ known. limit < length known)
longer told None bytes limit known long = subst (λ (t : Option (List ℕ)). IfSome t (λ k. limit < length k)) known tt
longer told (Some more) bytes limit known long =
    subst (λ (t : Option (List ℕ)). IfSome t (λ k. limit < length k)) known (omega (arith, long, length-append bytes more))

pub fed_too_long : {A : Type 0} (S : A → List Line → Type 0) (all : Bool) (told unread : Option (List ℕ)) (auditor : Auditor A) (count : ℕ) → IsFed S told auditor count unread → (IsTrue all → IsSome told) → TRACE_BYTES < count → IsTooLong all told TRACE_BYTES
fed_too_long S all told unread auditor count fed there long = record { longer = longer told unread fed.bytes TRACE_BYTES fed.known (omega (arith, fed.count_is, long)); is_there = there }

-- what is said of the whole file
pub judged_of : {A : Type 0} (S : A → List Line → Type 0) (all : Bool) (told : Option (List ℕ)) (auditor : Auditor A) (plan : Plan) (v : Verdict) → auditor.reader.judge.plan ≡ plan → IsTold S all told auditor
    → ((b : List ℕ) → AuditorStandsFor S auditor b → IsVerdict auditor.reader.judge.plan b v) → IsJudged all told plan v
judged_of S all told auditor plan v plan_is fed says = record {
  bytes = fed.bytes;
  holds = fed.holds;
  is = subst (λ (q : Plan). IsVerdict q fed.bytes v) plan_is (says fed.bytes fed.stands);
}
