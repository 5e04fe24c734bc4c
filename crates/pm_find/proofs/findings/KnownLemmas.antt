-- What is known of a device, line by line.
use Rattle.std.proofs.Common.{ℕ, ◌≡◌, ◌+◌, Bool, true, false, not, ◌&&◌, List, ◌∷◌, Option, Some, None, pos, length, unwrap_or, option_map, if◌then◌else◌, ap, refl, ◌∙◌}
use Rattle.std.specs.Option.{option_map_or}
use Rattle.std.specs.Ordering.{int_eq}
use Rattle.pm_base.specs.declared.Cb.TheVariants as cb
use Rattle.pm_base.specs.declared.DevId.{DevId}
use Rattle.pm_base.specs.declared.Status.{Status}
use Rattle.pm_base.specs.declared.Status.TheVariants as status
use Rattle.pm_model.specs.declared.event.Event.{Event}
use Rattle.pm_model.specs.declared.event.Event.TheVariants as event
use Rattle.pm_model.specs.declared.event.Line.{Line}
use Rattle.pm_model.specs.Counted.{is_forced, is_same, only_if, says_error, says_status, status_of}
use Rattle.pm_model.specs.Derived.{is_active_status}
use Rattle.pm_model.specs.Events.{is_try_again}
use Rattle.pm_model.specs.History.{History}
use Rattle.pm_find.specs.declared.findings.watched.Count.{Count}
use Rattle.pm_find.specs.findings.Kept.{Known, ends_failed, error_after, error_in, failed_after, known, known_after, left_after, status_after, status_in}
use Rattle.pm_find.specs.findings.OpenCounts.{counts_after, device_of, open_counts}
use Rattle.pm_find.specs.findings.Said.{call_by, error_line, failed_line, fails, left_line}

none_either : {X : Type 0} (b : Bool) → (let none : Option X = None in none) ≡ (if b then None else None)
none_either true = refl
none_either false = refl

swapped : {X : Type 0} (i b : Bool) (x : X) → (if i then None else only_if b x) ≡ (if b then (if i then None else Some x) else None)
swapped true true x = refl
swapped true false x = refl
swapped false true x = refl
swapped false false x = refl

swapped_twice : {X : Type 0} (i j b : Bool) (x : X) → (if i then None else if j then None else only_if b x) ≡ (if b then (if i then None else if j then None else Some x) else None)
swapped_twice true j true x = refl
swapped_twice true j false x = refl
swapped_twice false true true x = refl
swapped_twice false true false x = refl
swapped_twice false false true x = refl
swapped_twice false false false x = refl

swapped_in : {X : Type 0} (i b : Bool) (x : X) → (if i then only_if b x else None) ≡ (if b then (if i then Some x else None) else None)
swapped_in true true x = refl
swapped_in true false x = refl
swapped_in false true x = refl
swapped_in false false x = refl

-- an event says a status of its device alone
status_said : (d : DevId) (e : Event) → says_status d e ≡ (if is_same d (device_of e) then status_in e else None)
status_said d (event.State e w) = refl
status_said d (event.Begin e cb.Suspend) = refl
status_said d (event.End e cb.Suspend c) = swapped (int_eq c (pos 0)) (is_same d e) status.Active
status_said d e = none_either (is_same d (device_of e))

-- and an error
error_said : (d : DevId) (e : Event) → says_error d e ≡ (if is_same d (device_of e) then error_in e else None)
error_said d (event.End e cb.Resume c) = swapped (int_eq c (pos 0)) (is_same d e) c
error_said d (event.End e cb.Suspend c) = swapped_twice (int_eq c (pos 0)) (is_try_again c) (is_same d e) c
error_said d (event.State e w) = swapped_in (is_forced w) (is_same d e) (pos 0)
error_said d e = none_either (is_same d (device_of e))

and_if : (b x : Bool) → (b && x) ≡ (if b then x else false)
and_if true x = refl
and_if false x = refl

no_either : (b : Bool) → false ≡ (if b then false else false)
no_either true = refl
no_either false = refl

-- and that a callback failed
failed_said : (d : DevId) (e : Event) → fails d e ≡ (if is_same d (device_of e) then ends_failed e else false)
failed_said d (event.End e cb c) = and_if (is_same d e) (not (int_eq c (pos 0)))
failed_said d e = no_either (is_same d (device_of e))

-- what a line says, or else what was said before
pub said : {X : Type 0} (o : Option X) (before : X) → (elim o as (λ _. X) [ Some x ↦ x | None ↦ before ]) ≡ unwrap_or o before
said (Some x) before = refl
said None before = refl

status_now : (line : Line) (h : History) (d : DevId) → status_of (line ∷ h) d ≡ unwrap_or (says_status d line.event) (status_of h d)
status_now line h d = said (says_status d line.event) (status_of h d)

mapped : {X : Type 0} (f : X → ℕ) (o : Option X) (before : ℕ) → unwrap_or (option_map f o) before ≡ option_map_or f o before
mapped f (Some x) before = refl
mapped f None before = refl

chosen : (b : Bool) (x before : ℕ) → unwrap_or (only_if b x) before ≡ (if b then x else before)
chosen true x before = refl
chosen false x before = refl

both : (b : Bool) → b && not b ≡ false
both true = refl
both false = refl

of_five : List Count → Status → ℕ → ℕ → ℕ → Known
of_five counts s e f l = record { counts = counts; status = s; error = e; failed = f; left = l }

same_known : (x y : Known) → x.counts ≡ y.counts → x.status ≡ y.status → x.error ≡ y.error → x.failed ≡ y.failed → x.left ≡ y.left → x ≡ y
unfolding of_five
same_known x y a b c f d =
    ap (λ v. of_five v x.status x.error x.failed x.left) a ∙ ap (λ v. of_five y.counts v x.error x.failed x.left) b
    ∙ ap (λ v. of_five y.counts y.status v x.failed x.left) c ∙ ap (λ v. of_five y.counts y.status y.error v x.left) f
    ∙ ap (λ v. of_five y.counts y.status y.error y.failed v) d

error_now : (line : Line) (h : History) (d : DevId)
    → error_line (line ∷ h) d ≡ option_map_or (λ code. if int_eq code (pos 0) then 0 else length h + 1) (says_error d line.event) (error_line h d)
error_now line h d =
    said (option_map (λ code. if int_eq code (pos 0) then 0 else length h + 1) (says_error d line.event)) (error_line h d)
    ∙ mapped (λ code. if int_eq code (pos 0) then 0 else length h + 1) (says_error d line.event) (error_line h d)

failed_now : (line : Line) (h : History) (d : DevId) → failed_line (line ∷ h) d ≡ (if fails d line.event then length h + 1 else failed_line h d)
failed_now line h d = said (only_if (fails d line.event) (length h + 1)) (failed_line h d) ∙ chosen (fails d line.event) (length h + 1) (failed_line h d)

pub left_now : (line : Line) (h : History) (d : DevId)
    → left_line (line ∷ h) d ≡ (if is_active_status (status_of h d) && not (is_active_status (status_of (line ∷ h) d)) then length h + 1 else left_line h d)
left_now line h d =
    said (only_if (is_active_status (status_of h d) && not (is_active_status (status_of (line ∷ h) d))) (length h + 1)) (left_line h d)
    ∙ chosen (is_active_status (status_of h d) && not (is_active_status (status_of (line ∷ h) d))) (length h + 1) (left_line h d)

-- a line of the device
pub known_own : (line : Line) (h : History) (d : DevId) → is_same d (device_of line.event) ≡ true
    → known (line ∷ h) d ≡ known_after line.actor (length h + 1) (call_by h line.actor) line.event (known h d)
known_own line h d own = same_known _ _ counts status error failed left
  where
    counts : open_counts (line ∷ h) d ≡ counts_after line.actor (length h + 1) (call_by h line.actor) line.event (open_counts h d)
    counts = ap (λ b. if b then counts_after line.actor (length h + 1) (call_by h line.actor) line.event (open_counts h d) else open_counts h d) own

    failed : failed_line (line ∷ h) d ≡ failed_after (length h + 1) line.event (failed_line h d)
    failed =
        failed_now line h d
        ∙ ap (λ b. if b then length h + 1 else failed_line h d) (failed_said d line.event ∙ ap (λ b. if b then ends_failed line.event else false) own)

    status : status_of (line ∷ h) d ≡ status_after line.event (status_of h d)
    status =
        status_now line h d
        ∙ ap (λ o. unwrap_or o (status_of h d)) (status_said d line.event ∙ ap (λ b. if b then status_in line.event else None) own)

    error : error_line (line ∷ h) d ≡ error_after (length h + 1) line.event (error_line h d)
    error =
        error_now line h d
        ∙ ap (λ o. option_map_or (λ code. if int_eq code (pos 0) then 0 else length h + 1) o (error_line h d)) (error_said d line.event ∙ ap (λ b. if b then error_in line.event else None) own)

    left : left_line (line ∷ h) d ≡ left_after (length h + 1) line.event (status_of h d) (left_line h d)
    left = left_now line h d ∙ ap (λ s. if is_active_status (status_of h d) && not (is_active_status s) then length h + 1 else left_line h d) status

-- a line of another device
pub known_other : (line : Line) (h : History) (d : DevId) → is_same d (device_of line.event) ≡ false → known (line ∷ h) d ≡ known h d
known_other line h d other = same_known _ _ counts status error failed left
  where
    counts : open_counts (line ∷ h) d ≡ open_counts h d
    counts = ap (λ b. if b then counts_after line.actor (length h + 1) (call_by h line.actor) line.event (open_counts h d) else open_counts h d) other

    failed : failed_line (line ∷ h) d ≡ failed_line h d
    failed =
        failed_now line h d
        ∙ ap (λ b. if b then length h + 1 else failed_line h d) (failed_said d line.event ∙ ap (λ b. if b then ends_failed line.event else false) other)

    status : status_of (line ∷ h) d ≡ status_of h d
    status =
        status_now line h d
        ∙ ap (λ o. unwrap_or o (status_of h d)) (status_said d line.event ∙ ap (λ b. if b then status_in line.event else None) other)

    error : error_line (line ∷ h) d ≡ error_line h d
    error =
        error_now line h d
        ∙ ap (λ o. option_map_or (λ code. if int_eq code (pos 0) then 0 else length h + 1) o (error_line h d)) (error_said d line.event ∙ ap (λ b. if b then error_in line.event else None) other)

    left : left_line (line ∷ h) d ≡ left_line h d
    left =
        left_now line h d
        ∙ ap (λ s. if is_active_status (status_of h d) && not (is_active_status s) then length h + 1 else left_line h d) status
        ∙ ap (λ b. if b then length h + 1 else left_line h d) (both (is_active_status (status_of h d)))
